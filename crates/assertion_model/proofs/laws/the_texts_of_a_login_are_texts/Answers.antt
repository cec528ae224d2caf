use Rattle.assertion_model.proofs.TextLemmas.{login_holds}
use Rattle.assertion_model.proofs.laws.the_texts_of_a_login_are_texts.Goals as goal

pub returns : goal.returns
returns c = login_holds

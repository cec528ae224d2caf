use Rattle.idp_rules.proofs.Texts.{asked_texts}
use Rattle.idp_rules.proofs.laws.the_texts_of_a_request_are_texts.Goals as goal

pub returns : goal.returns
returns c = λ peers address body asked. asked_texts peers address body asked c.a_spelled_tree_is_writable.ensures

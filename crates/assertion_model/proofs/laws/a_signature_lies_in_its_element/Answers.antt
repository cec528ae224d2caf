use Rattle.assertion_model.proofs.ApartLemmas.{signature_inside}
use Rattle.assertion_model.proofs.laws.a_signature_lies_in_its_element.Goals as goal

pub returns : goal.returns
returns c = signature_inside

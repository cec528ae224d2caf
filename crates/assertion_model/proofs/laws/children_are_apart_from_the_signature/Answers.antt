use Rattle.assertion_model.proofs.ApartLemmas.{children_are_parts}
use Rattle.assertion_model.proofs.laws.children_are_apart_from_the_signature.Goals as goal

pub returns : goal.returns
returns c = children_are_parts

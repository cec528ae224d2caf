use Rattle.xml_spec.proofs.Trees.{spelled_joined}
use Rattle.xml_spec.proofs.a_spelled_tree_is_joined.Goals as goal

pub returns : goal.returns
returns c = spelled_joined

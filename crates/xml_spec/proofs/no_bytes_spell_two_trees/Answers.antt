use Rattle.xml_spec.proofs.Documents.{one_tree}
use Rattle.xml_spec.proofs.no_bytes_spell_two_trees.Goals as goal

pub returns : goal.returns
returns c = one_tree

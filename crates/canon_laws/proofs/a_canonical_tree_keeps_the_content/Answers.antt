use Rattle.canon_laws.proofs.Keeping.{canonical_keeps}
use Rattle.canon_laws.proofs.a_canonical_tree_keeps_the_content.Goals as goal

pub returns : goal.returns
returns c = canonical_keeps

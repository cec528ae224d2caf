use Rattle.canon_laws.proofs.FormNames.{canonical_named}
use Rattle.canon_laws.proofs.a_canonical_tree_is_named.Goals as goal

pub returns : goal.returns
returns c = canonical_named

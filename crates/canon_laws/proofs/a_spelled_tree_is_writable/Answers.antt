use Rattle.canon_laws.proofs.Spelled.{spelled_writable}
use Rattle.canon_laws.proofs.a_spelled_tree_is_writable.Goals as goal

pub returns : goal.returns
returns c = spelled_writable

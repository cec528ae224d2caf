use Rattle.canon_laws.proofs.Spelling.{canonical_spelled}
use Rattle.canon_laws.proofs.a_canonical_form_spells_its_tree.Goals as goal

pub returns : goal.returns
returns c = canonical_spelled

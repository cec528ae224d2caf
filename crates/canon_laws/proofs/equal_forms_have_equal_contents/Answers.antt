use Rattle.canon_laws.proofs.Equal.{equal_forms}
use Rattle.canon_laws.proofs.equal_forms_have_equal_contents.Goals as goal

pub returns : goal.returns
returns c = equal_forms

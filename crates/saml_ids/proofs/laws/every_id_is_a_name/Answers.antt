use Rattle.saml_ids.proofs.IdForm.{every_id_is_a_name}
use Rattle.saml_ids.proofs.laws.every_id_is_a_name.Goals as goal

pub returns : goal.returns
returns c = every_id_is_a_name

use Rattle.saml_ids.proofs.IdForm.{key_gives_an_id_once}
use Rattle.saml_ids.proofs.laws.key_gives_an_id_once.Goals as goal

pub returns : goal.returns
returns c = key_gives_an_id_once

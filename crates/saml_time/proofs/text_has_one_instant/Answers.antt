use Rattle.saml_time.proofs.LawLemmas.{one_instant}
use Rattle.saml_time.proofs.text_has_one_instant.Goals as goal

pub returns : goal.returns
returns c = one_instant

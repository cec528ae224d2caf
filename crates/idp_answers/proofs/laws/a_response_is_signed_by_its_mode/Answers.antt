use Rattle.idp_answers.proofs.SignedElements.{by_its_mode}
use Rattle.idp_answers.proofs.laws.a_response_is_signed_by_its_mode.Goals as goal

pub returns : goal.returns
returns c = by_its_mode

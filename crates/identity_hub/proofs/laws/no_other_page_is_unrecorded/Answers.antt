use Rattle.identity_hub.proofs.Signed.{unrecorded}
use Rattle.identity_hub.proofs.laws.no_other_page_is_unrecorded.Goals as goal

pub returns : goal.returns
returns c = unrecorded

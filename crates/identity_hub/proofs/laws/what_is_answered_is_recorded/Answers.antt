use Rattle.identity_hub.proofs.Recorded.{posted_recorded}
use Rattle.identity_hub.proofs.laws.what_is_answered_is_recorded.Goals as goal

pub returns : goal.returns
returns c = posted_recorded

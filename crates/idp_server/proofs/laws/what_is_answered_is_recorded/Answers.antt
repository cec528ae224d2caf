use Rattle.idp_server.proofs.Issues.{posted_recorded}
use Rattle.idp_server.proofs.laws.what_is_answered_is_recorded.Goals as goal

pub returns : goal.returns
returns c = posted_recorded

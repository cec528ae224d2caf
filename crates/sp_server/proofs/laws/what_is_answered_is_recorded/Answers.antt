use Rattle.sp_server.proofs.Recorded.{asked_recorded, posted_recorded}
use Rattle.sp_server.proofs.laws.what_is_answered_is_recorded.Goals as goal

pub returns-clause-posted : goal.returns-clause-posted
returns-clause-posted c = posted_recorded

pub returns-clause-asked : goal.returns-clause-asked
returns-clause-asked c = asked_recorded

use Rattle.sp_runs.proofs.Kept.{stay_closed}
use Rattle.sp_runs.proofs.laws.sessions_stay_closed_in_a_run.Goals as goal

pub returns : goal.returns
returns c = stay_closed c.images_hold_records.ensures c.sessions_stay_closed_in_a_service.ensures

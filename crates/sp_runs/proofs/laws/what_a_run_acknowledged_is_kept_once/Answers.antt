use Rattle.sp_runs.proofs.Kept.{kept_once}
use Rattle.sp_runs.proofs.laws.what_a_run_acknowledged_is_kept_once.Goals as goal

pub returns : goal.returns
returns c = kept_once c.images_hold_records.ensures c.what_is_acknowledged_is_kept_once.ensures

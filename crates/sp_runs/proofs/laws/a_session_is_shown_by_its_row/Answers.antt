use Rattle.sp_runs.proofs.Shown.{shown_by_row, shown_alike}
use Rattle.sp_runs.proofs.laws.a_session_is_shown_by_its_row.Goals as goal

pub returns : goal.returns
returns c = record { shown = shown_by_row; alike = shown_alike }

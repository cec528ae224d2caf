use Rattle.provider_node.proofs.Starts.{closed_over}
use Rattle.request_ledger.specs.Record.{request_rules}
use Rattle.sp_server.specs.Logouts.{IsClosed, IsOver}
use Rattle.sp_server.specs.Step.{Answers}
use Rattle.request_ledger.specs.RowsOf.{closes}
use Rattle.sp_server.proofs.Histories.{draws_above}
use Rattle.sp_server.proofs.StayingClosed.{stays_over}
use Rattle.sp_server.proofs.laws.sessions_stay_closed_over_starts.Goals as goal

pub returns : goal.returns
returns c = closed_over request_rules Answers c.images_hold_records.ensures draws_above IsClosed closes IsOver
    c.a_closed_session_stays_closed.ensures (stays_over c.compactions_change_no_answer.ensures)

use Rattle.provider_node.proofs.Points.{stay_closed}
use Rattle.request_ledger.specs.Record.{request_rules}
use Rattle.sp_server.specs.Logouts.{IsClosed, IsOver}
use Rattle.sp_server.specs.Step.{Answers}
use Rattle.sp_server.proofs.Histories.{draws_above}
use Rattle.sp_server.proofs.laws.sessions_stay_closed_in_a_service.Goals as goal

pub returns : goal.returns
returns c = stay_closed request_rules Answers c.images_hold_records.ensures draws_above IsClosed IsOver
    c.a_closed_session_stays_closed.ensures

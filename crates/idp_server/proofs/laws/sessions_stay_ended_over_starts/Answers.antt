use Rattle.idp_ledger.specs.Record.{idp_rules}
use Rattle.provider_node.proofs.Starts.{closed_over}
use Rattle.idp_server.specs.Histories.{IsDead, IsEnded}
use Rattle.idp_server.specs.Step.{Answers}
use Rattle.idp_rows.specs.RowsOf.{ends}
use Rattle.idp_server.proofs.Histories.{draws_above}
use Rattle.idp_server.proofs.StayingEnded.{stays_dead}
use Rattle.idp_server.proofs.laws.sessions_stay_ended_over_starts.Goals as goal

pub returns : goal.returns
returns c = closed_over idp_rules Answers c.images_hold_records.ensures draws_above IsEnded ends IsDead
    c.an_ended_session_stays_ended.ensures (stays_dead c.compactions_change_no_answer.ensures)

use Rattle.provider_node.proofs.Points.{stay_closed}
use Rattle.idp_ledger.specs.Record.{idp_rules}
use Rattle.idp_server.specs.Histories.{IsDead, IsEnded}
use Rattle.idp_server.specs.Step.{Answers}
use Rattle.idp_server.proofs.Histories.{draws_above}
use Rattle.idp_server.proofs.laws.sessions_stay_ended_in_a_service.Goals as goal

pub returns : goal.returns
returns c = stay_closed idp_rules Answers c.images_hold_records.ensures draws_above IsEnded IsDead
    c.an_ended_session_stays_ended.ensures

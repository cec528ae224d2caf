use Rattle.sp_rules.specs.Keys.{usable}
use Rattle.idp_ledger.specs.Record.{idp_rules}
use Rattle.idp_rows.specs.RowsOf.{ends}
use Rattle.idp_server.specs.Histories.{IsDead, IsEnded}
use Rattle.idp_server.specs.Step as idp_steps
use Rattle.request_ledger.specs.Record.{request_rules}
use Rattle.sp_server.specs.Step as sp_steps
use Rattle.provider_node.proofs.Origins.{each_has_its_request}
use Rattle.both_providers.proofs.Over.{over_behind}
use Rattle.both_providers.proofs.Together.{counts}
use Rattle.both_providers.proofs.the_headline_holds_of_both.Goals as goal

pub returns : goal.returns
returns c = λ start sp_starts idp_start idp_starts records sp idp. record {
  opens = λ asked there. record {
    only = λ held answer r answers. c.a_session_opens_exactly.ensures.only asked.node.setup held asked.request asked.now answer r answers;
    wherever = λ found faults later. c.a_session_opens_exactly.ensures.wherever found asked.request asked.now faults later asked.answer asked.node;
  };
  from = each_has_its_request request_rules sp_steps.Answers start sp_starts sp;
  idp_from = each_has_its_request idp_rules idp_steps.Answers idp_start idp_starts idp;
  recorded = λ setup added issued asked held answer r signed there unforged apart gives.
      let config = asked.node.setup.config in
      let b = gives.brought in
      let brings = gives.opens.opens.brings in
      let login = c.a_session_that_is_opened_was_recorded.ensures.login setup added issued config asked.now asked.request.body b signed.of unforged apart brings in
      let is = c.a_recorded_login_has_a_recorded_session.ensures setup added config asked.now b.carried.head b.key b.login login gives.opens.opens.meant
      (counts (usable config asked.now) b.carried.tree brings.covered.first.parts b.key brings.covered.first.tagged) in
      record { is = is; recorded = signed.recorded _ is.known };
  once = c.what_is_acknowledged_is_kept_once_over_starts.ensures.any start sp_starts records sp;
  once_at = λ moments at.
      c.what_is_acknowledged_is_kept_once_over_starts.ensures.at moments start sp_starts records at;
  closed = c.sessions_stay_closed_over_starts.ensures start sp_starts records sp;
  ended = over_behind idp_rules idp_steps.Answers c.images_hold_records.ensures IsEnded ends IsDead
      c.sessions_stay_ended_over_starts.ensures idp_start idp_starts idp;
  opened_stay = λ moments at. c.sessions_stay_over_starts.ensures moments start sp_starts at;
  begun_stay = λ moments at. c.sessions_stay_over_starts-2.ensures moments idp_start idp_starts at;
}

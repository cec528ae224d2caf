use Rattle.sp_server.proofs.Closing.{only_left, only_ended, wherever_left, wherever_ended}
use Rattle.sp_server.proofs.Unclosed.{nothing_else}
use Rattle.sp_server.proofs.laws.a_session_is_closed_exactly.Goals as goal

pub returns : goal.returns
returns c = record {
  only_left = only_left;
  only_ended = only_ended;
  nothing_else = nothing_else c.compactions_change_no_answer.ensures;
  wherever_left = wherever_left c.compactions_change_no_answer.ensures;
  wherever_ended =
      wherever_ended (record {
        obeyed = c.a_logout_form_has_one_verdict.ensures.obeyed;
        once = c.a_logout_form_has_one_verdict.ensures.once;
      }) c.compactions_change_no_answer.ensures;
}

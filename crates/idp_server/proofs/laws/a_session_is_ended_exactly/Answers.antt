use Rattle.idp_server.proofs.Closing.{wherever_ended, wherever_left}
use Rattle.idp_server.proofs.Logouts.{answers_end_exactly, services_end_exactly}
use Rattle.idp_server.proofs.laws.a_session_is_ended_exactly.Goals as goal

pub returns : goal.returns
returns c =
    let form = c.a_logout_form_has_one_verdict.ensures in
    record {
      answers = answers_end_exactly;
      services = services_end_exactly;
      wherever_left = wherever_left c.compactions_change_no_answer.ensures;
      wherever_ended =
          wherever_ended (record { obeyed = form.obeyed; once = form.once }) c.compactions_change_no_answer.ensures;
    }

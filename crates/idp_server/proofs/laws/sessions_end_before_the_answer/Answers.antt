use Rattle.idp_server.proofs.Closing.{sessions_end_before}
use Rattle.idp_server.proofs.laws.sessions_end_before_the_answer.Goals as goal

pub returns : goal.returns
returns c = sessions_end_before c.a_session_is_ended_exactly.ensures.answers c.what_is_answered_is_recorded.ensures

use Rattle.sp_server.proofs.StayingClosed.{stays_closed}
use Rattle.sp_server.proofs.laws.a_closed_session_stays_closed.Goals as goal

pub returns : goal.returns
returns c = stays_closed c.compactions_change_no_answer.ensures

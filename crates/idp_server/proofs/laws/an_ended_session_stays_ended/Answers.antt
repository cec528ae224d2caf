use Rattle.idp_server.proofs.StayingEnded.{stays_ended}
use Rattle.idp_server.proofs.laws.an_ended_session_stays_ended.Goals as goal

pub returns : goal.returns
returns c = stays_ended c.compactions_change_no_answer.ensures

use Rattle.recorded_logins.proofs.Joining.{session_of_record}
use Rattle.recorded_logins.proofs.a_recorded_login_has_a_recorded_session.Goals as goal

pub returns : goal.returns
returns c = session_of_record

use Rattle.recorded_logins.proofs.More.{more_signed, more_login, more_session}
use Rattle.recorded_logins.proofs.more_records_stand_for_no_less.Goals as goal

pub returns-clause-signed : goal.returns-clause-signed
returns-clause-signed c = more_signed

pub returns-clause-login : goal.returns-clause-login
returns-clause-login c = more_login

pub returns-clause-session : goal.returns-clause-session
returns-clause-session c = more_session

use Rattle.login_origin.proofs.Signing.{login_was_signed, session_was_signed}
use Rattle.login_origin.proofs.a_login_was_signed.Goals as goal

pub returns-clause-login : goal.returns-clause-login
returns-clause-login c = login_was_signed

pub returns-clause-session : goal.returns-clause-session
returns-clause-session c = session_was_signed

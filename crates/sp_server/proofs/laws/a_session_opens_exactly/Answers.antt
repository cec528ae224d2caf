use Rattle.sp_server.proofs.Sessions.{only_where, wherever}
use Rattle.sp_server.proofs.laws.a_session_opens_exactly.Goals as goal

pub returns-clause-only : goal.returns-clause-only
returns-clause-only c = only_where

pub returns-clause-wherever : goal.returns-clause-wherever
returns-clause-wherever c =
    wherever c.a_form_has_one_verdict.ensures.opened c.a_form_has_one_verdict.ensures.one_login
    c.compactions_change_no_answer.ensures

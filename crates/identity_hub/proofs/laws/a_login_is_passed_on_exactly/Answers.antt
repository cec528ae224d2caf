use Rattle.identity_hub.proofs.Passing.{only_where, wherever}
use Rattle.identity_hub.proofs.laws.a_login_is_passed_on_exactly.Goals as goal

pub returns-clause-only : goal.returns-clause-only
returns-clause-only c = only_where

pub returns-clause-wherever : goal.returns-clause-wherever
returns-clause-wherever c =
    wherever c.a_form_has_one_verdict.ensures.opened c.a_form_has_one_verdict.ensures.one_login
    c.compactions_change_no_answer.ensures c.like_rows_are_judged_alike.ensures.opens

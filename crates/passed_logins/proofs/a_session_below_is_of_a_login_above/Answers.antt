use Rattle.passed_logins.proofs.Passed.{both}
use Rattle.passed_logins.proofs.a_session_below_is_of_a_login_above.Goals as goal

pub returns : goal.returns
returns c =
    both c.a_session_below_was_passed_on.ensures c.a_login_that_is_passed_on_was_recorded.ensures

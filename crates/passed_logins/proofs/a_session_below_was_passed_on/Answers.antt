use Rattle.passed_logins.proofs.Passed.{below}
use Rattle.passed_logins.proofs.a_session_below_was_passed_on.Goals as goal

pub returns : goal.returns
returns c =
    below c.a_session_that_is_opened_was_recorded.ensures.session

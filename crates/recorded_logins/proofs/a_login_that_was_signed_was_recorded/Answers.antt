use Rattle.recorded_logins.proofs.Joining.{login_was_recorded}
use Rattle.recorded_logins.proofs.a_login_that_was_signed_was_recorded.Goals as goal

pub returns : goal.returns
returns c = login_was_recorded c.what_is_put_inside_says_the_same.ensures.content

use Rattle.recorded_logins.proofs.Back.{login_is_signed}
use Rattle.recorded_logins.proofs.a_login_that_was_recorded_was_signed.Goals as goal

pub returns : goal.returns
returns c = login_is_signed c.what_is_put_inside_says_the_same.ensures.content

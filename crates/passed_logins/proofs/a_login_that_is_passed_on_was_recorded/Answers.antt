use Rattle.passed_logins.proofs.Passed.{above}
use Rattle.passed_logins.proofs.a_login_that_is_passed_on_was_recorded.Goals as goal

pub returns : goal.returns
returns c =
    above c.a_session_that_is_opened_was_recorded.ensures.session c.a_login_is_passed_on_exactly.ensures.only
    c.each_form_is_judged.ensures.accepted c.a_form_has_one_verdict.ensures.one_login

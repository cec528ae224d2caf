use Rattle.recorded_logins.proofs.Joining.{login_was_recorded, session_was_recorded}
use Rattle.recorded_logins.proofs.Signing.{all_signed}
use Rattle.recorded_logins.proofs.a_session_that_is_opened_was_recorded.Goals as goal

pub returns-clause-login : goal.returns-clause-login
returns-clause-login c = λ setup added issued config now body b are unforged apart brings.
    login_was_recorded c.what_is_put_inside_says_the_same.ensures.content setup added issued b.login are
    (c.a_login_was_signed.ensures.login issued config now body b (all_signed setup added issued are) unforged apart
    brings)

pub returns-clause-session : goal.returns-clause-session
returns-clause-session c = λ setup added issued config rows horizon now body accepted are unforged apart opening.
    let signed = all_signed setup added issued are in
    session_was_recorded c.what_is_put_inside_says_the_same.ensures.content setup added issued config rows horizon now
    body accepted are opening
    (c.a_login_was_signed.ensures.login issued config now body opening.brought signed unforged apart
    opening.opens.brings)
    (c.a_login_was_signed.ensures.session issued config rows horizon now body accepted signed unforged apart opening)

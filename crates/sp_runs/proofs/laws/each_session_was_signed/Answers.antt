use Rattle.sp_runs.proofs.laws.each_session_was_signed.Goals as goal

pub returns : goal.returns
returns c issued setup held request now r answer signed unforged none gives =
    c.a_login_was_signed.ensures.login issued setup.config now request.body gives.brought signed unforged none
    gives.opens.opens.brings

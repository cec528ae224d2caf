use Rattle.std.proofs.Common.{◌∙◌}
use Rattle.std.proofs.lemmas.Result.{err_from_is_err_and}
use Rattle.assertion_model.proofs.LoginLemmas.{no_assertion, an_assertion, login_fault_on}
use Rattle.assertion_model.proofs.read.read_login.Goals as goal

pub returns-then-not-is_assertion-clause-bad : goal.returns-then-not-is_assertion-clause-bad
returns-then-not-is_assertion-clause-bad c =
    no_assertion c.at-at.result c.args.v.now.document c.args.v.now.node c.is_assertion.result c.at-at.ensures.document c.at-at.ensures.node c.at-at.result.element
    c.is_assertion.ensures c.if-not-is_assertion.true

pub returns-in_err-login-clause-bad : goal.returns-in_err-login-clause-bad
returns-in_err-login-clause-bad c =
    let p = err_from_is_err_and c.from_residual.result c.from_residual.ensures.1 in
    rw (p.1, p.2) (login_fault_on c.in_err-login.field-0.0 _ _ c.in_err-login.ensures.read (λ none.
    an_assertion c.at-at.result c.args.v.now.document c.args.v.now.node c.is_assertion.result c.at-at.ensures.document c.at-at.ensures.node c.at-at.result.element
    c.is_assertion.ensures c.if-not-is_assertion.false ∙ none))

pub returns-clause-read : goal.returns-clause-read
returns-clause-read c =
    an_assertion c.at-at.result c.args.v.now.document c.args.v.now.node c.is_assertion.result c.at-at.ensures.document c.at-at.ensures.node c.at-at.result.element
    c.is_assertion.ensures c.if-not-is_assertion.false ∙ c.in_ok-login.ensures.read

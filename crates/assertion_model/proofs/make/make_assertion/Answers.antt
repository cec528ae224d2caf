use Rattle.std.proofs.lemmas.Result.{IfOk-weaker}
use Rattle.assertion_model.proofs.make.make_assertion.Goals as goal

pub returns : goal.returns
returns c =
    IfOk-weaker c.assertion.result _ _ (λ made is. record { moments = c.in_ok-moments.moments; written = c.in_ok-moments.ensures.written; is = is })
    c.assertion.ensures

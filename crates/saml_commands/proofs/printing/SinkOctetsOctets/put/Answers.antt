use Rattle.std.proofs.Common.{◌∙◌}
use Rattle.std.proofs.lemmas.Result.{on_err_weaker}
use Rattle.canon_octets.proofs.Appending.{on_err}
use Rattle.saml_commands.proofs.Passed.{then_appends}
use Rattle.saml_commands.proofs.printing.SinkOctetsOctets.put.Goals as goal

pub returns-then-len-bytes-clause-err : goal.returns-then-len-bytes-clause-err
returns-then-len-bytes-clause-err g c = on_err_weaker c.keep.result (λ appends. (0, (c.keep.ensures.same_reference, appends))) c.keep.ensures.err

pub returns-in_err-flush-clause-err : goal.returns-in_err-flush-clause-err
returns-in_err-flush-clause-err g c = on_err c.from_residual.result (0, (c.flush.ensures.same_reference, c.flush.ensures.appends))

pub returns-clause-err : goal.returns-clause-err
returns-clause-err g c =
    on_err_weaker c.pass.result
    (λ part. (
      part.0,
      (
        c.pass.ensures.same_reference ∙ c.flush.ensures.same_reference,
        then_appends _ _ _ _ c.flush.ensures.appends part.1,
      ),
    ))
    c.pass.ensures.err

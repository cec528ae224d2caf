use Rattle.std.proofs.Common.{ap, ◌∙◌}
use Rattle.std.proofs.lemmas.Result.{IfOk-weaker}
use Rattle.element_make.specs.Made.{written}
use Rattle.metadata.specs.Making.{entity_descriptor}
use Rattle.metadata.proofs.make.put_metadata.Goals as goal

pub returns : goal.returns
returns c =
    IfOk-weaker c.written.result _ _ (λ bytes e. e ∙ ap written (c.in_ok-made.ensures ∙ ap (entity_descriptor c.args.entity.now) c.in_ok-described.ensures)) c.written.ensures.bytes

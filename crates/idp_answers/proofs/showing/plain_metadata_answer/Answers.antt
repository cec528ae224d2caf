use Rattle.std.proofs.Common.{◌≡◌, ap, ◌∙◌}
use Rattle.std.specs.Prelude.{None}
use Rattle.std.proofs.lemmas.Result.{IfOk-weaker}
use Rattle.element_make.specs.Made.{written}
use Rattle.metadata.specs.Making.{plain}
use Rattle.http_wire.specs.Answers.{answer}
use Rattle.idp_answers.proofs.showing.plain_metadata_answer.Goals as goal

pub returns : goal.returns
returns c =
    let body : c.as_slice.result.now ≡ written (plain c.args.role c.args.entity.now c.args.base.now) =
    c.as_slice.ensures ∙ c.in_ok-bytes.ensures in
    IfOk-weaker c.page_answer.result _ _ (λ bytes e. e ∙ ap (answer 200 None None) body) c.page_answer.ensures

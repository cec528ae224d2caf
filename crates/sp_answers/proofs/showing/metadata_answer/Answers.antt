use Rattle.std.proofs.Common.{◌≡◌, ℕ, List, ap, ◌∙◌}
use Rattle.std.specs.Prelude.{None}
use Rattle.std.proofs.lemmas.Result.{IfOk-weaker}
use Rattle.element_make.specs.Made.{written}
use Rattle.metadata.specs.Making.{metadata}
use Rattle.metadata.specs.declared.peer.Role.TheVariants.{Sp}
use Rattle.http_wire.specs.Answers.{answer}
use Rattle.sp_answers.proofs.showing.metadata_answer.Goals as goal

pub returns : goal.returns
returns c =
    let config = c.args.config.now in
    let body : c.as_slice.result.now ≡ written (metadata Sp config.entity config.base) =
    c.as_slice.ensures ∙ c.in_ok-bytes.ensures
    ∙ ap (λ (x : List ℕ). written (metadata Sp x c.as_str-2.result.now)) c.as_str.ensures
    ∙ ap (λ (x : List ℕ). written (metadata Sp config.entity x)) c.as_str-2.ensures in
    IfOk-weaker c.full_answer.result _ _ (λ bytes e. e ∙ ap (answer 200 None None) body) c.full_answer.ensures

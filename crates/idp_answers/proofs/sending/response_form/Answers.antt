use Rattle.std.proofs.Common.{◌≡◌, ℕ, List, Bor, ap, ◌∙◌}
use Rattle.std.specs.Option.{option_map}
use Rattle.std.proofs.lemmas.Result.{IfOk-weaker}
use Rattle.element_make.specs.Made.{written}
use Rattle.post_binding.specs.Pages.{auto_form}
use Rattle.post_binding.specs.declared.posted.Field.TheVariants.{Response}
use Rattle.idp_answers.proofs.sending.response_form.Goals as goal

pub returns-clause-page : goal.returns-clause-page
returns-clause-page c =
    let message : c.as_slice.result.now ≡ written c.args.sent = c.as_slice.ensures ∙ c.in_ok-message.ensures.bytes in
    IfOk-weaker c.auto_form.result _ _
    (λ page e. e ∙ ap (λ (x : List ℕ). auto_form c.args.consumer.now Response x (option_map {T = Bor (List ℕ)} {U = List ℕ} (λ text. text.now) c.args.relay)) message)
    c.auto_form.ensures

use Rattle.std.proofs.Common.{◌≡◌, ℕ, List, IfOk, subst}
use Rattle.post_binding.specs.Pages.{auto_form}
use Rattle.post_agent.proofs.form.page_of_form.Goals as goal

pub returns : goal.returns
returns c =
    subst (λ (made : List ℕ). IfOk c.auto_form.result (λ page. page ≡ made))
    (λ i. auto_form (c.as_str.ensures i) c.args.form.now.field (c.as_slice.ensures i)
    (c.chars_if_any.ensures i)) c.auto_form.ensures

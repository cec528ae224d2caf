use Rattle.std.proofs.Common.{◌≡◌, List, ℕ, ◌++◌, IfOk, ◌∙◌, subst}
use Rattle.post_binding.specs.Pages.{tail}
use Rattle.post_binding.proofs.Appending.{six_parts, same_input}
use Rattle.post_binding.proofs.pages.auto_form.Goals as goal

pub returns : goal.returns
returns c =
    subst (λ (page : List ℕ). IfOk c.finish.result (λ whole. whole ≡ page ++ tail))
    (six_parts _ _ _ _ _ _ _ _ _ _ _ _ _ _ c.in_ok-page.ensures c.in_ok-markup.ensures.ok c.in_ok-text.ensures.ok c.in_ok-markup-2.ensures.ok
    (same_input _ _ _ _ _ _ c.in_ok-put_hidden.ensures c.name.ensures (c.as_str.ensures.value ∙ c.in_ok-encoded.ensures.text))
    c.in_ok-put_relay.ensures c.in_ok-markup-3.ensures.ok)
    c.finish.ensures

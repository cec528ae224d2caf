-- Pages that are read: what is made of the parts of a page is compared with it.
use Rattle.std.proofs.Common.{◌≡◌, ℕ, false, cond, List, None, Some, sym, ap, ◌∙◌}
use Rattle.std.specs.Prelude.{option_and_then}
use Rattle.std.specs.Str.{bytes_eq}
use Rattle.post_binding.specs.Pages.{login_page}
use Rattle.post_agent.specs.Cuts.{quoted}
use Rattle.post_agent.specs.Reading.{text_in, login_with, login_in, pending_front}

-- another page is made of what stands where the pending login would
pub other_login : (page part rest pending made : List ℕ) → Some (part, rest) ≡ quoted pending_front page →
    Some pending ≡ text_in part →
    made ≡ login_page pending → false ≡ bytes_eq made page → None ≡ login_in page
other_login page part rest pending made found text is other =
    sym (ap (option_and_then (λ (f : List ℕ × List ℕ). option_and_then (login_with page) (text_in f.0))) (sym found)
    ∙ ap (option_and_then (login_with page)) (sym text)
    ∙ ap (λ t. cond t (Some pending) None) (ap (λ xs. bytes_eq xs page) (sym is) ∙ sym other))

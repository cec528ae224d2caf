-- The agents that are named so far.
use Rattle.std.proofs.Common.{◌≡◌, ℕ, Bool, true, cond, ◌==◌, List, [], ◌∷◌, ◌++◌, Option, Some, sym, ap, ◌∙◌}
use Rattle.std.specs.List.{list_any}
use Rattle.schedules.specs.Schedules.{with_name}

-- a name that is there
pub known_name : (names items : List ℕ) (named : Option ℕ) (agent : ℕ) (known : Bool) → named ≡ Some agent →
    items ≡ names →
    known ≡ list_any (λ name. name == agent) items → known ≡ true → names ≡ with_name names named
known_name names items named agent known is same found there =
    sym (ap (with_name names) is
    ∙ ap (λ t. cond t names (names ++ agent ∷ []))
    (ap (list_any (λ name. name == agent)) (sym same) ∙ sym found ∙ there))

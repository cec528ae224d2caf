-- Laws of the moments that a clock gives.
use Rattle.std.proofs.Common.{◌≡◌, ℕ, suc, ◌+◌, ◌-◌, min, List, [], ◌∷◌, length, refl, arith}
use Rattle.event_link.specs.Clocks.{now_of, later_of, moment_at}

pub first-moment : (moments : List ℕ) → now_of moments ≡ moment_at moments 0
first-moment [] = refl
first-moment (now ∷ later) =
    let first : min 0 (length (now ∷ later) - 1) ≡ 0 = omega arith in
    rw first

pub later-moment : (moments : List ℕ) (k : ℕ) → moment_at (later_of moments) k ≡ moment_at moments (k + 1)
later-moment [] k = refl
later-moment (now ∷ []) k =
    let here : min k (length (now ∷ []) - 1) ≡ 0 = omega arith in
    let there : min (k + 1) (length (now ∷ []) - 1) ≡ 0 = omega arith in
    rw (here, there)
later-moment (now ∷ next ∷ later) k =
    let one_less : min (k + 1) (length (now ∷ next ∷ later) - 1) ≡ suc (min k (length (next ∷ later) - 1)) = omega arith in
    rw one_less

-- One more range.
use Rattle.std.proofs.Common.{◌≡◌, ◌⊎◌, if◌then◌else◌, inl, inr, ℕ, ◌<◌, ◌≤◌, true, List, [], ◌∷◌, ◌++◌, refl, arith}
use Rattle.std.proofs.lemmas.Bool.{cases_lt}
use Rattle.std.proofs.lemmas.Bool.Decides.{nat_tests}
use Rattle.crash_disk.specs.Ranges.{IsOutside, is_in}
use Rattle.crash_disk.specs.declared.range.Range.{Range}

pub IsOutside-push : (i : ℕ) (ranges : List Range) (range : Range) → IsOutside i ranges → (i < range.start) ⊎ (range.end ≤ i) → IsOutside i (ranges ++ range ∷ [])
IsOutside-push i [] range out beyond = (beyond, tt)
IsOutside-push i (r ∷ ranges) range out beyond = (out.0, IsOutside-push i ranges range out.1 beyond)

pub is_in-push : (i : ℕ) (ranges : List Range) (range : Range) → is_in i (ranges ++ range ∷ []) ≡ (if is_in i ranges then true else is_in i (range ∷ []))
is_in-push i [] range = refl
is_in-push i (r ∷ ranges) range = let ih = is_in-push i ranges range in grind (arith, nat_tests)

-- a place is in the range or beyond it
pub place_in : (i : ℕ) (range : Range) → ((range.start ≤ i) × (i < range.end)) ⊎ ((i < range.start) ⊎ (range.end ≤ i))
place_in i range = elim (cases_lt i range.start) [
  | inl low ↦ inr (inl low)
  | inr high ↦ elim (cases_lt i range.end) [ inl inside ↦ inl (high, inside) | inr past ↦ inr (inr past) ]
]

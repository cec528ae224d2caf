-- How many rows from the first on stand at a depth or deeper.
use Rattle.std.proofs.Common.{◌≡◌, ℕ, zero, suc, ◌<◌, ◌≤◌, if◌then◌else◌, ltb, List, [], ◌∷◌, length, get_or, refl, ap, ◌∙◌, inl, inr, arith}
use Rattle.std.proofs.lemmas.Bool.{cases_lt, cond-true, cond-false, lt-ltb, le-ltb}

abbrev pub within : ℕ → List ℕ → ℕ
within depth [] = 0
within depth (d ∷ depths) = if ltb d depth then 0 else suc (within depth depths)

pub within_out : (depth d : ℕ) (depths : List ℕ) → d < depth → within depth (d ∷ depths) ≡ 0
within_out depth d depths less = cond-true (ltb d depth) _ _ (lt-ltb d depth less)

pub within_in : (depth d : ℕ) (depths : List ℕ) → depth ≤ d → within depth (d ∷ depths) ≡ suc (within depth depths)
within_in depth d depths more = cond-false (ltb d depth) _ _ (le-ltb d depth more)

-- at depth 0 all are
pub within_all : (depths : List ℕ) → within 0 depths ≡ length depths
within_all [] = refl
within_all (d ∷ depths) = within_in 0 d depths (omega arith) ∙ ap suc (within_all depths)

-- the first m are, and the next is not
pub within_is : (depth : ℕ) (depths : List ℕ) (m : ℕ) → m ≤ length depths →
    ((i : ℕ) → i < m → depth ≤ get_or depths i 0) → (m < length depths → get_or depths m 0 < depth) →
    within depth depths ≡ m
within_is depth [] m fits deep stops = omega arith
within_is depth (d ∷ depths) zero fits deep stops = within_out depth d depths (stops (omega arith))
within_is depth (d ∷ depths) (suc m) fits deep stops =
    within_in depth d depths (deep 0 (omega arith))
    ∙ ap suc (within_is depth depths m (omega arith) (λ i h. deep (suc i) (omega arith)) (λ h. stops (omega arith)))

pub within_length : (depth : ℕ) (depths : List ℕ) → within depth depths ≤ length depths
within_length depth [] = omega arith
within_length depth (d ∷ depths) = elim (cases_lt d depth) [
  | inl less ↦ omega (arith, within_out depth d depths less)
  | inr more ↦ omega (arith, within_in depth d depths more, within_length depth depths)
]

-- those that are counted are at least so deep
pub within_deep : (depth : ℕ) (depths : List ℕ) (i : ℕ) → i < within depth depths → depth ≤ get_or depths i 0
within_deep depth [] i h = absurd (omega arith)
within_deep depth (d ∷ depths) zero h = elim (cases_lt d depth) [
  | inl less ↦ absurd (omega (arith, within_out depth d depths less))
  | inr more ↦ more
]
within_deep depth (d ∷ depths) (suc i) h = elim (cases_lt d depth) [
  | inl less ↦ absurd (omega (arith, within_out depth d depths less))
  | inr more ↦ within_deep depth depths i (omega (arith, within_in depth d depths more))
]

-- the first m are
pub within_most : (depth : ℕ) (depths : List ℕ) (m : ℕ) → m ≤ length depths →
    ((i : ℕ) → i < m → depth ≤ get_or depths i 0) → m ≤ within depth depths
within_most depth [] m fits deep = omega arith
within_most depth (d ∷ depths) zero fits deep = omega arith
within_most depth (d ∷ depths) (suc m) fits deep =
    let inner = within_most depth depths m (omega arith) (λ i h. deep (suc i) (omega arith)) in
    omega (arith, within_in depth d depths (deep 0 (omega arith)))

-- Where a run of bytes ends is determined.
use Rattle.std.proofs.Common.{◌≡◌, ℕ, Bool, true, false, ◌==◌, get_or, arith, List, [], ◌∷◌, ◌++◌, IsFalse, refl, sym, ◌∙◌, ap}
use Rattle.xml_spec.specs.Bytes.{AllPass, begins_with}
use Rattle.xml_spec.proofs.Tests.{both_true}

pub equal_test : (n : ℕ) → (n == n) ≡ true
equal_test n = grind arith

-- lists that differ at a place are not one
pub apart_at : (k : ℕ) (xs ys : List ℕ) → (get_or xs k 0 == get_or ys k 0) ≡ false → xs ≡ ys → ⊥
apart_at k xs ys differ e =
    let same : (get_or xs k 0 == get_or ys k 0) ≡ true =
    ap (λ zs. get_or xs k 0 == get_or zs k 0) (sym e) ∙ equal_test (get_or xs k 0) in
    cc

-- a list that begins with a byte that passes is not one that begins with none
pub begins_not : (P : ℕ → Bool) (b : ℕ) (bytes r : List ℕ) → P b ≡ true → IsFalse (begins_with P r) → r ≡ b ∷ bytes → ⊥
begins_not P b bytes r passes stops e =
    let at_r : begins_with P r ≡ true = ap (begins_with P) e ∙ passes in
    cc

-- two readings of one text as a run of bytes that pass, up to a byte that does not, are one
pub same_run : (P : ℕ → Bool) (xs ys r s : List ℕ) → AllPass P xs → AllPass P ys →
    IsFalse (begins_with P r) → IsFalse (begins_with P s) → xs ++ r ≡ ys ++ s → (xs ≡ ys) × (r ≡ s)
same_run P [] [] r s px py pr ps e = (refl, e)
same_run P [] (y ∷ ys) r s px py pr ps e = absurd (begins_not P y (ys ++ s) r (both_true _ _ py).0 pr e)
same_run P (x ∷ xs) [] r s px py pr ps e = absurd (begins_not P x (xs ++ r) s (both_true _ _ px).0 ps (sym e))
same_run P (x ∷ xs) (y ∷ ys) r s px py pr ps e =
    let heads : x ≡ y = cc in
    let tails : xs ++ r ≡ ys ++ s = cc in
    let rest = same_run P xs ys r s (both_true _ _ px).1 (both_true _ _ py).1 pr ps tails in
    (λ i. heads i ∷ rest.0 i, rest.1)

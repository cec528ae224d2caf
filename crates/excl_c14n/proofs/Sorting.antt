-- Inserting and sorting, seen through a function, and at a place that was found.
use Rattle.std.proofs.Common.{◌≡◌, ℕ, zero, suc, ◌<◌, ◌≤◌, Bool, true, false, cond, List, [], ◌∷◌, length, map, get_or, refl, sym, ap, ◌∙◌, arith}
use Rattle.std.specs.List.{insert}
use Rattle.std.specs.declared.cmp.Ordering.{Ordering}
use Rattle.std.specs.Ordering.{is_le}
use Rattle.std.proofs.lemmas.Bool.{cond-true, cond-false}
use Rattle.xml_spec.specs.Canonical.{inserted, sorted}

-- a function that an order looks through
module _ {X Y : Type 0} (f : X → Y) (R : X → X → Ordering) (S : Y → Y → Ordering) (same : (x y : X) → R x y ≡ S (f x) (f y)) where
  map-inserted : (x : X) (ys : List X) → map f (inserted R x ys) ≡ inserted S (f x) (map f ys)
  map-inserted x [] = refl
  map-inserted x (y ∷ ys) =
      which (is_le (R x y)) (map-inserted x ys)
      ∙ ap (λ o. cond (is_le o) (f x ∷ f y ∷ map f ys) (f y ∷ inserted S (f x) (map f ys))) (same x y)
    where
      which : (b : Bool) → map f (inserted R x ys) ≡ inserted S (f x) (map f ys) →
          map f (cond b (x ∷ y ∷ ys) (y ∷ inserted R x ys)) ≡ cond b (f x ∷ f y ∷ map f ys) (f y ∷ inserted S (f x) (map f ys))
      which true later = refl
      which false later = ap (λ zs. f y ∷ zs) later

  pub map-sorted : (xs : List X) → map f (sorted R xs) ≡ sorted S (map f xs)
  map-sorted [] = refl
  map-sorted (x ∷ xs) = map-inserted x (sorted R xs) ∙ ap (inserted S (f x)) (map-sorted xs)

-- at a place where it is not below those before, and not above the one there
pub insert_is_inserted : {X : Type 0} (R : X → X → Ordering) (x : X) (ys : List X) (p : ℕ) (d : X) → p ≤ length ys →
    ((k : ℕ) → k < p → is_le (R x (get_or ys k d)) ≡ false) → (p < length ys → is_le (R x (get_or ys p d)) ≡ true) →
    insert ys p x ≡ inserted R x ys
insert_is_inserted R x [] zero d fits before at = refl
insert_is_inserted R x [] (suc p) d fits before at = absurd (omega arith)
insert_is_inserted R x (y ∷ ys) zero d fits before at = sym (cond-true (is_le (R x y)) _ _ (at (omega arith)))
insert_is_inserted R x (y ∷ ys) (suc p) d fits before at =
    ap (λ zs. y ∷ zs) (insert_is_inserted R x ys p d (omega arith) (λ k h. before (suc k) (omega arith)) (λ h. at (omega arith)))
    ∙ sym (cond-false (is_le (R x y)) _ _ (before 0 (omega arith)))

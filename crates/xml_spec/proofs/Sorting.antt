-- Sorting a list by insertion keeps its elements and puts them in order.
use Rattle.std.proofs.Common.{◌≡◌, Bool, true, false, cond, List, [], ◌∷◌, IsTrue, refl, ◌∙◌, ap}
use Rattle.std.specs.List.{AllByRecursion}
use Rattle.std.specs.List.Sorted.{IsPermutation}
use Rattle.std.specs.declared.cmp.Ordering.{Ordering}
use Rattle.std.specs.declared.cmp.Ordering.TheVariants.{Less, Equal, Greater}
use Rattle.std.specs.Ordering.{is_le, is_gt, ordering_reverse}
use Rattle.std.specs.Cmp.{IsTotalOrder}
use Rattle.std.proofs.lemmas.Cmp.{upto}
use Rattle.std.proofs.lemmas.List.Sorted.{IsPermutation-refl, IsPermutation-cons, IsPermutation-middle, IsPermutation-trans}
use Rattle.xml_spec.specs.Canonical.{inserted, sorted}
use Rattle.xml_spec.specs.Laws.{IsNonDescending}

-- what holds of each element of a list, held to a weaker claim
pub each_weaker : {X : Type 0} (P Q : X → Type 0) → ((x : X) → P x → Q x) → (xs : List X) → AllByRecursion P xs → AllByRecursion Q xs
each_weaker P Q f [] h = tt
each_weaker P Q f (x ∷ xs) h = (f x h.0, each_weaker P Q f xs h.1)

-- what holds of x and of each element of a list holds of each when x is inserted
pub each_inserted : {X : Type 0} (R : X → X → Ordering) (P : X → Type 0) (x : X) (xs : List X) → P x → AllByRecursion P xs →
    AllByRecursion P (inserted R x xs)
each_inserted R P x [] here h = (here, tt)
each_inserted R P x (y ∷ ys) here h = which (is_le (R x y)) (each_inserted R P x ys here h.1)
  where
    which : (b : Bool) → AllByRecursion P (inserted R x ys) → AllByRecursion P (cond b (x ∷ y ∷ ys) (y ∷ inserted R x ys))
    which true later = (here, h)
    which false later = (h.0, later)

pub not_greater : (o : Ordering) → is_le o ≡ true → is_gt o ≡ false
not_greater Less h = refl
not_greater Equal h = refl
not_greater Greater h = absurd (let clash : false ≡ true = h in cc)

pub at_most : (o : Ordering) → is_gt o ≡ false → is_le o ≡ true
at_most Less h = refl
at_most Equal h = refl
at_most Greater h = absurd (let clash : true ≡ false = h in cc)

-- what is above, seen from the other side, is below
pub above_is_below : (o : Ordering) → is_le o ≡ false → ordering_reverse o ≡ Less
above_is_below Less h = absurd (let clash : true ≡ false = h in cc)
above_is_below Equal h = absurd (let clash : true ≡ false = h in cc)
above_is_below Greater h = refl

pub below_other : {X : Type 0} (R : X → X → Ordering) → IsTotalOrder R → (x y : X) → is_le (R x y) ≡ false → R y x ≡ Less
below_other R o x y h = o.antisymm y x ∙ above_is_below (R x y) h

pub at_most_chain : {X : Type 0} (R : X → X → Ordering) → IsTotalOrder R → (x y z : X) →
    is_le (R x y) ≡ true → is_le (R y z) ≡ true → is_le (R x z) ≡ true
at_most_chain R o x y z h k = at_most (R x z) (upto o x y z (not_greater (R x y) h) (not_greater (R y z) k))

pub insert_keeps_order : {X : Type 0} (R : X → X → Ordering) → IsTotalOrder R → (x : X) (xs : List X) →
    IsNonDescending R xs → IsNonDescending R (inserted R x xs)
insert_keeps_order R o x [] up = (tt, tt)
insert_keeps_order R o x (y ∷ ys) up = which (is_le (R x y)) refl (insert_keeps_order R o x ys up.1)
  where
    which : (b : Bool) → is_le (R x y) ≡ b → IsNonDescending R (inserted R x ys) →
        IsNonDescending R (cond b (x ∷ y ∷ ys) (y ∷ inserted R x ys))
    which true h later =
        ((h, each_weaker (λ z. IsTrue (is_le (R y z))) (λ z. IsTrue (is_le (R x z))) (λ z k. at_most_chain R o x y z h k) ys up.0), up)
    which false h later =
        (each_inserted R (λ z. IsTrue (is_le (R y z))) x ys (ap is_le (below_other R o x y h)) up.0, later)

pub sorted_is_non_descending : {X : Type 0} (R : X → X → Ordering) → IsTotalOrder R → (xs : List X) → IsNonDescending R (sorted R xs)
sorted_is_non_descending R o [] = tt
sorted_is_non_descending R o (x ∷ xs) = insert_keeps_order R o x (sorted R xs) (sorted_is_non_descending R o xs)

pub inserted_is_permutation : {X : Type 0} (R : X → X → Ordering) (x : X) (xs : List X) → IsPermutation (x ∷ xs) (inserted R x xs)
inserted_is_permutation R x [] = IsPermutation-refl (x ∷ [])
inserted_is_permutation R x (y ∷ ys) = which (is_le (R x y)) (inserted_is_permutation R x ys)
  where
    which : (b : Bool) → IsPermutation (x ∷ ys) (inserted R x ys) →
        IsPermutation (x ∷ y ∷ ys) (cond b (x ∷ y ∷ ys) (y ∷ inserted R x ys))
    which true later = IsPermutation-refl (x ∷ y ∷ ys)
    which false later =
        IsPermutation-trans (x ∷ y ∷ ys) (y ∷ x ∷ ys) (y ∷ inserted R x ys) (IsPermutation-middle (x ∷ []) y ys)
        (IsPermutation-cons y (x ∷ ys) (inserted R x ys) later)

pub sorted_is_permutation : {X : Type 0} (R : X → X → Ordering) (xs : List X) → IsPermutation xs (sorted R xs)
sorted_is_permutation R [] = IsPermutation-refl []
sorted_is_permutation R (x ∷ xs) =
    IsPermutation-trans (x ∷ xs) (x ∷ sorted R xs) (inserted R x (sorted R xs))
    (IsPermutation-cons x xs (sorted R xs) (sorted_is_permutation R xs)) (inserted_is_permutation R x (sorted R xs))

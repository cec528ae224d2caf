-- Sorting a sorted list gives it back, and sorting goes before or after the making of the elements.
use Rattle.std.proofs.Common.{◌≡◌, Bool, true, false, cond, List, [], ◌∷◌, map, IsTrue, refl, ◌∙◌, ap}
use Rattle.std.specs.List.{AllByRecursion}
use Rattle.std.specs.declared.cmp.Ordering.{Ordering}
use Rattle.std.specs.Ordering.{is_le}
use Rattle.std.specs.Cmp.{IsTotalOrder}
use Rattle.xml_spec.specs.Canonical.{inserted, sorted}
use Rattle.xml_spec.specs.Laws.{IsNonDescending}
use Rattle.xml_spec.proofs.Sorting.{sorted_is_non_descending}

module _ {X : Type 0} (order : X → X → Ordering) where
  -- what is not above the elements of a list stands in front of them
  inserted_first : (x : X) (xs : List X) → AllByRecursion (λ y. IsTrue (is_le (order x y))) xs → inserted order x xs ≡ x ∷ xs
  inserted_first x [] h = refl
  inserted_first x (y ∷ ys) h = which (is_le (order x y)) h.0
    where
      which : (b : Bool) → b ≡ true → cond b (x ∷ y ∷ ys) (y ∷ inserted order x ys) ≡ x ∷ y ∷ ys
      which true k = refl
      which false k = absurd (let clash : false ≡ true = k in cc)

  sorted_stays : (xs : List X) → IsNonDescending order xs → sorted order xs ≡ xs
  sorted_stays [] h = refl
  sorted_stays (x ∷ xs) h = ap (inserted order x) (sorted_stays xs h.1) ∙ inserted_first x xs h.0

  pub sorted_twice : IsTotalOrder order → (xs : List X) → sorted order (sorted order xs) ≡ sorted order xs
  sorted_twice total xs = sorted_stays (sorted order xs) (sorted_is_non_descending order total xs)

module _ {X Y : Type 0} (order : Y → Y → Ordering) (make : X → Y) where
  map_inserted : (x : X) (xs : List X) → map make (inserted (λ a b. order (make a) (make b)) x xs) ≡ inserted order (make x) (map make xs)
  map_inserted x [] = refl
  map_inserted x (y ∷ ys) = which (is_le (order (make x) (make y))) (map_inserted x ys)
    where
      which : (b : Bool) → map make (inserted (λ a b. order (make a) (make b)) x ys) ≡ inserted order (make x) (map make ys) →
          map make (cond b (x ∷ y ∷ ys) (y ∷ inserted (λ a b. order (make a) (make b)) x ys))
          ≡ cond b (make x ∷ make y ∷ map make ys) (make y ∷ inserted order (make x) (map make ys))
      which true later = refl
      which false later = ap (λ zs. make y ∷ zs) later

  pub map_sorted : (xs : List X) → map make (sorted (λ a b. order (make a) (make b)) xs) ≡ sorted order (map make xs)
  map_sorted [] = refl
  map_sorted (x ∷ xs) = map_inserted x (sorted (λ a b. order (make a) (make b)) xs) ∙ ap (inserted order (make x)) (map_sorted xs)

-- Lists that are gone through, and lists in order.
use Rattle.std.proofs.Common.{◌≡◌, ℕ, zero, suc, ◌+◌, ◌<◌, ◌≤◌, Bool, true, false, cond, List, [], ◌∷◌, Result, Ok, Err, OnErr, length, drop, map, get_or, refl, sym, ap, ◌∙◌, arith}
use Rattle.std.specs.List.{insert}
use Rattle.std.specs.Ordering.{is_le}
use Rattle.std.specs.declared.cmp.Ordering.{Ordering}
use Rattle.std.proofs.Math.Seq.{drop-cons}
use Rattle.std.proofs.lemmas.Bool.{cond-true, cond-false}
use Rattle.std.proofs.lemmas.List.{drop-map, drop_all, length-map}
use Rattle.xml_spec.specs.Canonical.{inserted}

module _ {X Y : Type 0} (f : X → Y) (xs : List X) where
  -- what is shown at a place, and behind it
  pub next_shown : (i : ℕ) (x : X) → i < length xs → x ≡ get_or xs i x → drop i (map f xs) ≡ f x ∷ drop (i + 1) (map f xs)
  next_shown i x h is =
      let on : suc i ≡ i + 1 = omega arith in
      drop-map f i xs ∙ ap (map f) (drop-cons xs i x h) ∙ ap (λ y. f y ∷ map f (drop (suc i) xs)) (sym is)
      ∙ ap (λ ys. f x ∷ ys) (sym (drop-map f (suc i) xs) ∙ ap (λ k. drop k (map f xs)) on)

  pub none_shown : (i : ℕ) → length xs ≤ i → drop i (map f xs) ≡ []
  none_shown i h = drop_all i (map f xs) (omega (arith, length-map xs f))

-- within a list it is the same what stands for nothing
pub at_any : {X : Type 0} (P : X → Type 0) (xs : List X) (k : ℕ) (d e : X) → k < length xs → P (get_or xs k d) → P (get_or xs k e)
at_any P [] k d e h p = absurd (omega arith)
at_any P (x ∷ xs) zero d e h p = p
at_any P (x ∷ xs) (suc k) d e h p = at_any P xs k d e (omega arith) p

-- a function that an order looks through
pub map_inserted : {X Y : Type 0} (f : X → Y) (R : X → X → Ordering) (S : Y → Y → Ordering) → ((x y : X) → R x y ≡ S (f x) (f y)) →
    (x : X) (ys : List X) → map f (inserted R x ys) ≡ inserted S (f x) (map f ys)
map_inserted f R S same x [] = refl
map_inserted f R S same x (y ∷ ys) =
    which (is_le (R x y)) (map_inserted f R S same x ys)
    ∙ ap (λ o. cond (is_le o) (f x ∷ f y ∷ map f ys) (f y ∷ inserted S (f x) (map f ys))) (same x y)
  where
    which : (b : Bool) → map f (inserted R x ys) ≡ inserted S (f x) (map f ys) →
        map f (cond b (x ∷ y ∷ ys) (y ∷ inserted R x ys)) ≡ cond b (f x ∷ f y ∷ map f ys) (f y ∷ inserted S (f x) (map f ys))
    which true later = refl
    which false later = ap (λ zs. f y ∷ zs) later

-- at a place where it is not below those before, and not above the one there
pub insert_is_inserted : {X : Type 0} (R : X → X → Ordering) (x : X) (ys : List X) (p : ℕ) (d : X) → p ≤ length ys →
    ((k : ℕ) → k < p → is_le (R x (get_or ys k d)) ≡ false) → (p < length ys → is_le (R x (get_or ys p d)) ≡ true) →
    insert ys p x ≡ inserted R x ys
insert_is_inserted R x [] zero d fits before at = refl
insert_is_inserted R x [] (suc p) d fits before at = absurd (omega arith)
insert_is_inserted R x (y ∷ ys) zero d fits before at = sym (cond-true (is_le (R x y)) _ _ (at (omega arith)))
insert_is_inserted R x (y ∷ ys) (suc p) d fits before at =
    ap (λ zs. y ∷ zs) (insert_is_inserted R x ys p d (omega arith) (λ k h. before (suc k) (omega arith)) (λ h. at (omega arith)))
    ∙ sym (cond-false (is_le (R x y)) _ _ (before 0 (omega arith)))

pub no_item : {X : Type 0} (xs : List X) → length xs ≡ 0 → xs ≡ []
no_item [] e = refl
no_item (x ∷ xs) e = absurd (omega arith)

-- what holds of an answer that is no success
pub on_err : {T E P : Type 0} (r : Result T E) → P → OnErr r P
on_err (Ok x) p = tt
on_err (Err e) p = p

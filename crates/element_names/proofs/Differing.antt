-- Lists of which no two elements are equal by an order: a sorted one has no equal neighbours.
use Rattle.std.proofs.Common.{◌≡◌, ℕ, zero, suc, ◌+◌, ◌<◌, ◌≤◌, Bool, true, false, cond, ◌&&◌, ◌||◌, not, List, [], ◌∷◌, length, get_or, refl, sym, ap, ◌∙◌, arith}
use Rattle.std.specs.List.{list_any, sum_by}
use Rattle.std.specs.List.Sorted.{IsPermutation, IsSorted}
use Rattle.std.specs.Cmp.{IsTotalOrder, both_ways}
use Rattle.std.specs.declared.cmp.Ordering.{Ordering}
use Rattle.std.specs.declared.cmp.Ordering.TheVariants.{Less, Equal, Greater}
use Rattle.std.specs.Ordering.{is_lt, is_eq, ordering_reverse}
use Rattle.std.proofs.lemmas.Bool.{or_parts}
use Rattle.std.proofs.lemmas.Cmp.{tied_itself}
use Rattle.std.proofs.lemmas.List.Sorted.{sum_by-IsPermutation}
use Rattle.std.proofs.lemmas.List.Sums.{sum_by-cons}
use Rattle.xml_spec.proofs.Tests.{both_true, and_true}

tied : (o : Ordering) → is_eq o ≡ true → o ≡ Equal
tied Less h = absurd (let clash : false ≡ true = h in cc)
tied Equal h = refl
tied Greater h = absurd (let clash : false ≡ true = h in cc)

-- neither tied nor turned round
less : (o p : Ordering) → p ≡ ordering_reverse o → is_lt p ≡ false → is_eq o ≡ false → o ≡ Less
less Less p e h k = refl
less Equal p e h k = absurd (let clash : true ≡ false = k in cc)
less Greater p e h k = absurd (let clash : true ≡ false = sym (ap is_lt e) ∙ h in cc)

not_is : (b : Bool) → not b ≡ true → b ≡ false
not_is true h = absurd (let clash : false ≡ true = h in cc)
not_is false h = refl

module _ {X : Type 0} (R : X → X → Ordering) (total : IsTotalOrder R) where
  abbrev same : X → X → Bool
  same x y = is_eq (R y x)

  abbrev one_if : X → X → ℕ
  one_if x y = cond (same x y) 1 0

  abbrev times : X → List X → ℕ
  times x [] = 0
  times x (y ∷ xs) = one_if x y + times x xs

  counted : (x : X) (xs : List X) → sum_by (one_if x) xs ≡ times x xs
  counted x [] = refl
  counted x (y ∷ xs) = sum_by-cons (one_if x) y xs ∙ ap (λ n. one_if x y + n) (counted x xs)

  moved : (x : X) (xs ys : List X) → IsPermutation xs ys → times x ys ≡ times x xs
  moved x xs ys h = sym (counted x ys) ∙ sum_by-IsPermutation (one_if x) xs ys h ∙ counted x xs

  abbrev pub distinct : List X → Bool
  distinct [] = true
  distinct (x ∷ xs) = not (list_any (same x) xs) && distinct xs

  never : (x : X) (xs : List X) → list_any (same x) xs ≡ false → times x xs ≡ 0
  never x [] h = refl
  never x (y ∷ xs) h =
      let parts = or_parts (same x y) (list_any (same x) xs) h in
      let none : one_if x y ≡ 0 = ap (λ b. cond b 1 0) parts.0 in
      let rest = never x xs parts.1 in
      omega arith

  none_of : (x : X) (xs : List X) → times x xs ≡ 0 → list_any (same x) xs ≡ false
  none_of x [] h = refl
  none_of x (y ∷ xs) h = by_test (same x y) refl h (none_of x xs)
    where
      by_test : (b : Bool) → same x y ≡ b → cond b 1 0 + times x xs ≡ 0 → (times x xs ≡ 0 → list_any (same x) xs ≡ false) →
          (b || list_any (same x) xs) ≡ false
      by_test true e k rest = absurd (omega arith)
      by_test false e k rest = rest (omega arith)

  alike : (x y : X) (xs : List X) → same x y ≡ true → times x xs ≡ times y xs
  alike x y [] h = refl
  alike x y (z ∷ xs) h =
      let here : one_if x z ≡ one_if y z = ap (λ o. cond (is_eq o) 1 0) (turned x y z h) in
      let rest = alike x y xs h in
      omega arith
    where
      turned : (x y z : X) → same x y ≡ true → R z x ≡ R z y
      turned x y z h = total.antisymm z x ∙ ap ordering_reverse (sym (total.congr y x z (tied (R y x) h))) ∙ sym (total.antisymm z y)

  pub at_most_once : (xs : List X) → distinct xs ≡ true → (x : X) → times x xs ≤ 1
  at_most_once [] h x = omega arith
  at_most_once (y ∷ xs) h x =
      let both = both_true (not (list_any (same y) xs)) (distinct xs) h in
      by_test (same x y) refl (at_most_once xs both.1 x) (never y xs (not_is (list_any (same y) xs) both.0))
    where
      by_test : (b : Bool) → same x y ≡ b → times x xs ≤ 1 → times y xs ≡ 0 → cond b 1 0 + times x xs ≤ 1
      by_test true e k none = let same_times = alike x y xs e in omega arith
      by_test false e k none = omega arith

  pub from_once : (xs : List X) → ((x : X) → times x xs ≤ 1) → distinct xs ≡ true
  from_once [] h = refl
  from_once (y ∷ xs) h =
      let own : one_if y y ≡ 1 = ap (λ o. cond (is_eq o) 1 0) (tied_itself total y) in
      let here = h y in
      let none : list_any (same y) xs ≡ false = none_of y xs (omega arith) in
      and_true (not (list_any (same y) xs)) (distinct xs) (ap not none)
      (from_once xs (λ x. let more = h x in omega arith))

  -- the order of a list does not matter
  pub distinct_moved : (xs ys : List X) → IsPermutation xs ys → distinct xs ≡ distinct ys
  distinct_moved xs ys h =
      both_ways (distinct xs) (distinct ys)
      (λ k. from_once ys (λ x. let count = moved x xs ys h in let most = at_most_once xs k x in omega arith))
      (λ k. from_once xs (λ x. let count = moved x xs ys h in let most = at_most_once ys k x in omega arith))

  abbrev Rises : List X → Type 0
  Rises xs = (k : ℕ) (d : X) → k + 1 < length xs → R (get_or xs k d) (get_or xs (k + 1) d) ≡ Less

  rest_rises : (x : X) (xs : List X) → Rises (x ∷ xs) → Rises xs
  rest_rises x xs h k d l =
      let next : suc k + 1 ≡ suc (k + 1) = omega arith in
      ap (λ n. R (get_or xs k d) (get_or (x ∷ xs) n d)) (sym next) ∙ h (suc k) d (omega arith)

  below_all : (x : X) (xs : List X) → Rises (x ∷ xs) → list_any (same x) xs ≡ false
  below_all x xs h = over x xs (λ d l. h 0 d (omega arith)) (rest_rises x xs h)
    where
      over : (x : X) (xs : List X) → ((d : X) → 0 < length xs → R x (get_or xs 0 d) ≡ Less) → Rises xs → list_any (same x) xs ≡ false
      over x [] first rises = refl
      over x (y ∷ xs) first rises =
          let below : R x y ≡ Less = first y (omega arith) in
          let differs : same x y ≡ false = ap is_eq (total.antisymm y x ∙ ap ordering_reverse below) in
          ap (λ b. b || list_any (same x) xs) differs
          ∙ over x xs (λ d l. total.trans x y (get_or xs 0 d) below (rises 0 d (omega arith))) (rest_rises y xs rises)

  pub rising_distinct : (xs : List X) → Rises xs → distinct xs ≡ true
  rising_distinct [] h = refl
  rising_distinct (x ∷ xs) h =
      and_true (not (list_any (same x) xs)) (distinct xs) (ap not (below_all x xs h)) (rising_distinct xs (rest_rises x xs h))

  -- a sorted list of which no neighbours are equal
  pub sorted_distinct : (xs : List X) → IsSorted R xs → ((k : ℕ) (d : X) → k + 1 < length xs → is_eq (R (get_or xs k d) (get_or xs (k + 1) d)) ≡ false) →
      distinct xs ≡ true
  sorted_distinct xs sorted differ =
      rising_distinct xs (λ k d l.
      less (R (get_or xs k d) (get_or xs (k + 1) d)) (R (get_or xs (k + 1) d) (get_or xs k d))
      (total.antisymm (get_or xs (k + 1) d) (get_or xs k d)) (sorted k d (omega arith) l) (differ k d l))

  pub equal_neighbours : (xs : List X) (k : ℕ) (d : X) → k + 1 < length xs → is_eq (R (get_or xs k d) (get_or xs (k + 1) d)) ≡ true → distinct xs ≡ false
  equal_neighbours [] k d l h = absurd (omega arith)
  equal_neighbours (x ∷ []) k d l h = absurd (omega arith)
  equal_neighbours (x ∷ y ∷ xs) zero d l h =
      let turned : same x y ≡ true = ap is_eq (total.antisymm y x ∙ ap ordering_reverse (tied (R x y) h)) in
      ap (λ b. not (b || list_any (same x) xs) && distinct (y ∷ xs)) turned
  equal_neighbours (x ∷ y ∷ xs) (suc k) d l h =
      let next : suc k + 1 ≡ suc (k + 1) = omega arith in
      let rest = equal_neighbours (y ∷ xs) k d (omega arith) (ap (λ n. is_eq (R (get_or (y ∷ xs) k d) (get_or (x ∷ y ∷ xs) n d))) (sym next) ∙ h) in
      ap (λ b. not (list_any (same x) (y ∷ xs)) && b) rest ∙ none (not (list_any (same x) (y ∷ xs)))
    where
      none : (b : Bool) → (b && false) ≡ false
      none true = refl
      none false = refl

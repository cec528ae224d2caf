-- An index that is made by one sort.
use Rattle.std.proofs.Common.{◌≡◌, ℕ, zero, suc, ◌+◌, ◌<◌, ◌==◌, false, true, List, [], ◌∷◌, length, slice_index, sym, refl, ◌∙◌, subst, inl, inr, arith}
use Rattle.std.specs.List.{range_with_len, AllByRecursion, IsDistinct}
use Rattle.std.specs.List.Sorted.{IsPermutation, IsSortedBy}
use Rattle.std.specs.Ordering.{nat_cmp, is_lt, ordering_reverse}
use Rattle.std.specs.FinMap.{nat_cmp-IsAntisymmetric}
use Rattle.std.specs.declared.cmp.Ordering.{Ordering}
use Rattle.std.specs.declared.cmp.Ordering.TheVariants.{Less, Equal, Greater}
use Rattle.std.proofs.lemmas.Bool.{cases_eq, eq-eqb, ne_eqb}
use Rattle.std.proofs.lemmas.Map.Keys.{IsDistinct-cons, IsDistinct-head, IsDistinct-tail, IsDistinct-IsPermutation}
use Rattle.ledger_rules.specs.Order.{KeyTexts, key_order, key_at, place_order, IsOrder}
use Rattle.request_rows.proofs.Orders.{both_total}
use Rattle.request_rows.proofs.Places.{both_equal}

flips : (x y : ℕ) → (x == y) ≡ (y == x)
flips x y =
    elim (cases_eq x y) [
      | inl same ↦ eq-eqb x y same ∙ sym (eq-eqb y x (sym same))
      | inr other ↦ ne_eqb x y other ∙ sym (ne_eqb y x (λ e. other (sym e)))
    ]

all_above : (a b n : ℕ) → a < b → AllByRecursion (λ y. (a == y) ≡ false) (range_with_len b n)
all_above a b zero less = tt
all_above a b (suc n) less = (ne_eqb a b (λ e. omega (arith, e, less)), all_above a (b + 1) n (omega (arith, less)))

range_distinct : (a n : ℕ) → IsDistinct ◌==◌ (range_with_len a n)
unfolding IsDistinct
range_distinct a zero = tt
range_distinct a (suc n) = IsDistinct-cons ◌==◌ a (range_with_len (a + 1) n) (all_above a (a + 1) n (omega arith)) (range_distinct (a + 1) n)

-- neighbours differ in a list whose elements do
differ : (xs : List ℕ) → IsDistinct ◌==◌ xs → (k : ℕ) → suc k < length xs → (slice_index xs k == slice_index xs (suc k)) ≡ false
differ [] d k below = absurd (omega (arith, below))
differ (x ∷ []) d k below = absurd (omega (arith, below))
differ (x ∷ y ∷ ys) d zero below = (IsDistinct-head ◌==◌ x (y ∷ ys) d).0
differ (x ∷ y ∷ ys) d (suc k) below = differ (y ∷ ys) (IsDistinct-tail ◌==◌ x (y ∷ ys) d) k (omega (arith, below))

-- of two places that differ, the one that is not greater is less
turned : (o back : Ordering) → o ≡ ordering_reverse back → is_lt back ≡ false → (back ≡ Equal → ⊥) → o ≡ Less
turned o Less is not_less untied = absurd (let wrong : true ≡ false = not_less in cc)
turned o Equal is not_less untied = absurd (untied refl)
turned o Greater is not_less untied = is

less_where : (keys : List KeyTexts) (p q : ℕ) → (p == q) ≡ false → is_lt (place_order keys q p) ≡ false → place_order keys p q ≡ Less
less_where keys p q other not_less =
    turned (place_order keys p q) (place_order keys q p) (both_total.antisymm (key_at keys p, p) (key_at keys q, q)) not_less
    (λ tied.
    let same : q ≡ p = nat_cmp-IsAntisymmetric q p (both_equal (key_order (key_at keys q) (key_at keys p)) (nat_cmp q p) tied).1 in
    let wrong : true ≡ false = sym (eq-eqb p q (sym same)) ∙ other in cc)

-- the places of all rows, sorted
pub sorted_order : (keys : List KeyTexts) (places : List ℕ) → IsPermutation (range_with_len 0 (length keys)) places
    → IsSortedBy (λ p q. is_lt (place_order keys p q)) places → IsOrder keys places
sorted_order keys places once sorted =
    let distinct = IsDistinct-IsPermutation ◌==◌ flips (range_with_len 0 (length keys)) places once (range_distinct 0 (length keys)) in
    record {
      each_once = once;
      ascends = λ k below.
          let next : suc k ≡ k + 1 = omega arith in
          let other : (slice_index places k == slice_index places (k + 1)) ≡ false =
          subst (λ m. (slice_index places k == slice_index places m) ≡ false) next (differ places distinct k (omega (arith, below))) in
          less_where keys (slice_index places k) (slice_index places (k + 1)) other (sorted k 0 (omega arith) below);
    }

-- What follows from the order of an index.
use Rattle.std.proofs.Common.{◌≡◌, ℕ, zero, suc, ◌+◌, ◌<◌, ◌≤◌, true, false, List, length, slice_index, get_or, sym, refl, ap, ◌∙◌, subst, inl, inr, arith, add-one, zero-add}
use Rattle.std.specs.List.{range_with_len, All, Contains}
use Rattle.std.specs.Ordering.{nat_cmp, ordering_then, is_lt}
use Rattle.std.specs.Cmp.{IsTotalOrder}
use Rattle.std.specs.declared.cmp.Ordering.{Ordering}
use Rattle.std.specs.declared.cmp.Ordering.TheVariants.{Less, Equal, Greater}
use Rattle.std.proofs.lemmas.Cmp.{then_total, on_total, nat_list_cmp_total, nat_cmp_total}
use Rattle.std.proofs.lemmas.Bool.{cases_lt}
use Rattle.std.proofs.lemmas.Grind.{get_or_default_zero}
use Rattle.std.proofs.lemmas.List.Elements.{All-from_get_or}
use Rattle.std.proofs.lemmas.List.Sorted.{All-permutation, Contains-permutation, length_permutation}
use Rattle.std.proofs.lemmas.List.FromFn.{length-range_with_len, get_or-range_with_len}
use Rattle.ledger_rules.specs.Order.{KeyTexts, key_order, key_at, place_order, IsOrder}
use Rattle.request_rows.specs.Indexed.{entry_order}

-- a key and a place are ordered by the key, and then by the place
abbrev pub both_order : KeyTexts × ℕ → KeyTexts × ℕ → Ordering
both_order a b = ordering_then (key_order a.0 b.0) (nat_cmp a.1 b.1)

pub key_total : IsTotalOrder key_order
key_total = then_total (on_total (λ (k : KeyTexts). k.first) nat_list_cmp_total) (on_total (λ (k : KeyTexts). k.second) nat_list_cmp_total)

pub both_total : IsTotalOrder both_order
both_total = then_total (on_total (λ (e : KeyTexts × ℕ). e.0) key_total) (on_total (λ (e : KeyTexts × ℕ). e.1) nat_cmp_total)

-- there are as many places as keys
pub length_order : (keys : List KeyTexts) (places : List ℕ) → IsOrder keys places → length places ≡ length keys
length_order keys places o = length_permutation _ _ o.each_once ∙ length-range_with_len 0 (length keys)

-- each place of an index is one of a row
pub places_below : (keys : List KeyTexts) (places : List ℕ) → IsOrder keys places → All (λ p. p < length keys) places
places_below keys places o =
    All-permutation (λ p. p < length keys) _ _ o.each_once
    (All-from_get_or (λ p. p < length keys) (range_with_len 0 (length keys)) 0
    (λ i within. let e = length-range_with_len 0 (length keys) in
    let l : i < length keys = omega arith in
    let g = get_or-range_with_len 0 (length keys) i 0 l in omega arith))

pub place_below : (keys : List KeyTexts) (places : List ℕ) → IsOrder keys places → (k : ℕ) → k < length places → slice_index places k < length keys
place_below keys places o k within = places_below keys places o k 0 within

-- each row's place stands in the index
pub place_there : (keys : List KeyTexts) (places : List ℕ) → IsOrder keys places → (p : ℕ) → p < length keys → Contains places p
place_there keys places o p within =
    Contains-permutation _ _ p o.each_once
    (p, let e = length-range_with_len 0 (length keys) in omega arith, get_or-range_with_len 0 (length keys) p p within ∙ zero-add p)

-- not only neighbours ascend
pub ascends_far : (keys : List KeyTexts) (places : List ℕ) → IsOrder keys places → (i j : ℕ) → i < j → j < length places
    → place_order keys (slice_index places i) (slice_index places j) ≡ Less
ascends_far keys places o i zero less within = absurd (omega arith)
ascends_far keys places o i (suc n) less within =
    let last : place_order keys (slice_index places n) (slice_index places (suc n)) ≡ Less =
    subst (λ m. place_order keys (slice_index places n) (slice_index places m) ≡ Less) (add-one n) (o.ascends n (omega arith)) in
    elim (cases_lt i n) [
      | inl lower ↦
          both_total.trans (key_at keys (slice_index places i), slice_index places i) (key_at keys (slice_index places n), slice_index places n)
          (key_at keys (slice_index places (suc n)), slice_index places (suc n)) (ascends_far keys places o i n lower (omega arith)) last
      | inr upper ↦
          let same : n ≡ i = omega arith in
          subst (λ m. place_order keys (slice_index places m) (slice_index places (suc n)) ≡ Less) same last
    ]

-- one step of the halving: where the entry in the middle comes before, all below it do; where not, none above it does
pub before_more : (keys : List KeyTexts) (places : List ℕ) → IsOrder keys places → (key : KeyTexts) (place m : ℕ) → m < length places
    → entry_order keys (slice_index places m) key place ≡ Less
    → (k : ℕ) → k < m + 1 → entry_order keys (slice_index places k) key place ≡ Less
before_more keys places o key place m within less k below =
    elim (cases_lt k m) [
      | inl lower ↦
          both_total.trans (key_at keys (slice_index places k), slice_index places k) (key_at keys (slice_index places m), slice_index places m)
          (key, place) (ascends_far keys places o k m lower within) less
      | inr upper ↦
          let same : m ≡ k = omega arith in
          subst (λ i. entry_order keys (slice_index places i) key place ≡ Less) same less
    ]

pub less_from_is_lt : (o : Ordering) → is_lt o ≡ true → o ≡ Less
less_from_is_lt Less h = refl
less_from_is_lt Equal h = cc
less_from_is_lt Greater h = cc

pub not_less : (o : Ordering) → ((o ≡ Less) → ⊥) → is_lt o ≡ false
not_less Less h = absurd (h refl)
not_less Equal h = refl
not_less Greater h = refl

pub behind_more : (keys : List KeyTexts) (places : List ℕ) → IsOrder keys places → (key : KeyTexts) (place m : ℕ)
    → is_lt (entry_order keys (slice_index places m) key place) ≡ false
    → (k : ℕ) → m ≤ k → k < length places → is_lt (entry_order keys (slice_index places k) key place) ≡ false
behind_more keys places o key place m not_before k above within =
    not_less (entry_order keys (slice_index places k) key place) (λ less.
    let first = before_more keys places o key place k within less m (omega arith) in
    let wrong : true ≡ false = ap is_lt (sym first) ∙ not_before in cc)

-- the order of what was found at place m of an index
pub order_found : (keys : List KeyTexts) (places : List ℕ) (m found : ℕ) (texts key : KeyTexts) (place : ℕ) (by_key by_place before : Ordering) → m < length places
    → found ≡ get_or places m found → texts ≡ key_at keys found → by_key ≡ key_order texts key → by_place ≡ nat_cmp found place
    → before ≡ ordering_then by_key by_place → before ≡ entry_order keys (slice_index places m) key place
order_found keys places m found texts key place by_key by_place before within read is answer then answer_is =
    let same : found ≡ slice_index places m = read ∙ get_or_default_zero places m found within in
    answer_is ∙ ap (λ o. ordering_then o by_place) answer ∙ ap (λ o. ordering_then (key_order texts key) o) then
    ∙ ap (λ t. ordering_then (key_order t key) (nat_cmp found place)) is ∙ ap (λ n. entry_order keys n key place) same

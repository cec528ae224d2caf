-- Keys have one order.
use Rattle.std.proofs.Common.{◌≡◌, ℕ, zero, suc, ◌<◌, ◌≤◌, List, length, slice_index, sym, ap, ◌∙◌, inl, inr, arith}
use Rattle.std.specs.Ordering.{ordering_reverse}
use Rattle.std.specs.declared.cmp.Ordering.TheVariants.{Less, Equal, Greater}
use Rattle.std.proofs.lemmas.Bool.{cases_lt}
use Rattle.std.proofs.lemmas.Cmp.{tied_itself}
use Rattle.std.proofs.lemmas.Grind.{get_or_default_zero}
use Rattle.std.proofs.lemmas.List.{same_lists}
use Rattle.ledger_rules.specs.Order.{KeyTexts, key_at, place_order, IsOrder}
use Rattle.request_rows.proofs.Orders.{both_total, length_order, place_below, place_there, ascends_far}

-- nothing is less than itself
not_itself : (keys : List KeyTexts) (p q : ℕ) → p ≡ q → place_order keys p q ≡ Less → ⊥
not_itself keys p q same less =
    let tied = tied_itself both_total (key_at keys q, q) in
    let wrong : Equal ≡ Less = sym tied ∙ ap (λ m. place_order keys m q) (sym same) ∙ less in cc

not_both : (keys : List KeyTexts) (p q : ℕ) → place_order keys p q ≡ Less → place_order keys q p ≡ Less → ⊥
not_both keys p q less back =
    let turned = both_total.antisymm (key_at keys p, p) (key_at keys q, q) in
    let wrong : Less ≡ Greater = sym less ∙ turned ∙ ap ordering_reverse back in cc

-- where the place that stands at k in one order stands in another: no earlier, if both agree below k
not_earlier : (keys : List KeyTexts) (one other : List ℕ) → IsOrder keys one → IsOrder keys other → (k : ℕ) → k < length one
    → ((j : ℕ) → j < k → slice_index one j ≡ slice_index other j)
    → (m : ℕ) × (k ≤ m) × (m < length other) × (slice_index other m ≡ slice_index one k)
not_earlier keys one other o p k within agree =
    let there = place_there keys other p (slice_index one k) (place_below keys one o k within) in
    let m = there.0 in
    let read : slice_index other m ≡ slice_index one k = sym (get_or_default_zero other m (slice_index one k) there.1) ∙ there.2 in (
      m,
      elim (cases_lt m k) [
        | inl lower ↦
            absurd (not_itself keys (slice_index one m) (slice_index one k) (agree m lower ∙ read) (ascends_far keys one o m k lower within))
        | inr upper ↦ upper
      ],
      there.1,
      read,
    )

agree_at : (keys : List KeyTexts) (one other : List ℕ) → IsOrder keys one → IsOrder keys other → (k : ℕ) → k < length one → k < length other
    → ((j : ℕ) → j < k → slice_index one j ≡ slice_index other j) → slice_index one k ≡ slice_index other k
agree_at keys one other o p k within inside agree =
    let in_other = not_earlier keys one other o p k within agree in
    let in_one = not_earlier keys other one p o k inside (λ j lower. sym (agree j lower)) in
    elim (cases_lt k in_other.0) [
      | inl behind ↦
          elim (cases_lt k in_one.0) [
            | inl after ↦
                let less = ap (λ m. place_order keys (slice_index other k) m) (sym in_other.3) ∙ ascends_far keys other p k in_other.0 behind in_other.2 in
                let back = ap (λ m. place_order keys (slice_index one k) m) (sym in_one.3) ∙ ascends_far keys one o k in_one.0 after in_one.2 in
                absurd (not_both keys (slice_index other k) (slice_index one k) less back)
            | inr at ↦
                let least = in_one.1 in
                let same : k ≡ in_one.0 = omega (arith, least, at) in
                ap (slice_index one) same ∙ in_one.3
          ]
      | inr at ↦
          let least = in_other.1 in
          let same : in_other.0 ≡ k = omega (arith, least, at) in
          sym in_other.3 ∙ ap (slice_index other) same
    ]

agree_below : (keys : List KeyTexts) (one other : List ℕ) → IsOrder keys one → IsOrder keys other
    → (n k : ℕ) → k < n → k < length one → k < length other → slice_index one k ≡ slice_index other k
agree_below keys one other o p zero k less within inside = absurd (omega arith)
agree_below keys one other o p (suc n) k less within inside =
    agree_at keys one other o p k within inside
    (λ j lower. agree_below keys one other o p n j (omega arith) (omega arith) (omega arith))

pub one_order : (keys : List KeyTexts) (one other : List ℕ) → IsOrder keys one → IsOrder keys other → one ≡ other
one_order keys one other o p =
    let first = length_order keys one o in
    let second = length_order keys other p in
    same_lists one other (first ∙ sym second) (λ k d within.
    let inside : k < length other = omega (arith, first, second, within) in
    get_or_default_zero one k d within
    ∙ agree_below keys one other o p (suc k) k (omega arith) within inside
    ∙ sym (get_or_default_zero other k d inside))

use Rattle.std.proofs.Common.{◌≡◌, ◌<◌, ◌+◌, ◌-◌, List, [], ◌∷◌, length, true, get_or, refl, sym, ap, ◌∙◌, arith}
use Rattle.element_names.specs.Keys.{Key, same_key, are_distinct}
use Rattle.element_names.proofs.Differing.{distinct_moved, sorted_distinct, equal_neighbours}
use Rattle.element_names.proofs.NameKeys.{order, order_total, equal_keys, keys_distinct}
use Rattle.element_names.proofs.distinct.are_distinct.Goals as goal

few_distinct : (keys : List Key) → length keys < 2 → are_distinct keys ≡ true
few_distinct [] few = refl
few_distinct (key ∷ []) few = refl
few_distinct (key ∷ other ∷ keys) few = absurd (omega arith)

pub returns-then-keys-lt2 : goal.returns-then-keys-lt2
returns-then-keys-lt2 c = sym (few_distinct c.args.keys.now c.if-keys-lt2.true)

pub returns-then-eq : goal.returns-then-eq
returns-then-eq c =
    let keys = c.sort_unstable.new.self in
    let here : c.pairs.i - 1 + 1 ≡ c.pairs.i = omega (arith, c.pairs.auto.i) in
    let none : Key = (0, record { ref_ptr = (0, 0); now = [] }) in
    let equal : same_key (get_or keys (c.pairs.i - 1) none) (get_or keys (c.pairs.i - 1 + 1) none) ≡ true =
    ap (λ n. same_key (get_or keys (c.pairs.i - 1) none) (get_or keys n none)) here ∙ sym c.eq.ensures ∙ c.if-eq.true in
    sym (sym (keys_distinct c.args.keys.now)
    ∙ distinct_moved order order_total c.args.keys.now keys c.sort_unstable.ensures.permutation
    ∙ equal_neighbours order order_total keys (c.pairs.i - 1) none (omega (arith, c.pairs-test.true, c.pairs.auto.i))
    (equal_keys (get_or keys (c.pairs.i - 1) none) (get_or keys (c.pairs.i - 1 + 1) none) ∙ equal))

pub returns : goal.returns
returns c =
    let keys = c.sort_unstable.new.self in
    let sorted = c.sort_unstable.ensures.sorted in
    sym (sym (keys_distinct c.args.keys.now)
    ∙ distinct_moved order order_total c.args.keys.now keys c.sort_unstable.ensures.permutation
    ∙ sorted_distinct order order_total keys sorted
    (λ k d l. equal_keys (get_or keys k d) (get_or keys (k + 1) d) ∙ c.pairs.invariant k d (omega arith)))

-- The part of an index that holds the places of one key.
use Rattle.std.proofs.Common.{◌≡◌, ℕ, ◌+◌, ◌-◌, ◌<◌, ◌≤◌, true, false, List, length, take, drop, slice_index, get_or, sym, refl, ap, ◌∙◌, subst, inl, inr, arith, length-drop}
use Rattle.std.specs.Ordering.{nat_cmp, ordering_then, is_lt}
use Rattle.std.specs.Cmp.{nat_cmp_is}
use Rattle.std.specs.FinMap.{slice_cmp-IsAntisymmetric, nat_cmp-IsAntisymmetric}
use Rattle.std.specs.Cmp.Lexicographic.{slice_cmp}
use Rattle.std.specs.declared.cmp.Ordering.{Ordering}
use Rattle.std.specs.declared.cmp.Ordering.TheVariants.{Less, Equal, Greater}
use Rattle.std.proofs.lemmas.Cmp.{ranked, tied_itself}
use Rattle.std.proofs.lemmas.Bool.{cases_lt}
use Rattle.std.proofs.lemmas.Grind.{get_or_default_zero}
use Rattle.std.proofs.lemmas.List.{get_or-take, get_or-drop, length-take-le}
use Rattle.std.proofs.lemmas.List.Elements.{All-from_get_or}
use Rattle.ledger_rules.specs.Order.{KeyTexts, key_order, key_at, place_order, IsOrder}
use Rattle.request_rows.specs.Indexed.{entry_order, IsRank, ArePlacesOf}
use Rattle.request_rows.proofs.Orders.{key_total, length_order, place_below, place_there}

pub less_number : (p q : ℕ) → nat_cmp p q ≡ Less → p < q
less_number p q h = ranked p q Less (sym h)

pub number_less : (p q : ℕ) → p < q → nat_cmp p q ≡ Less
number_less p q h = sym (nat_cmp_is p q Less h)

pub both_equal : (o q : Ordering) → ordering_then o q ≡ Equal → (o ≡ Equal) × (q ≡ Equal)
both_equal Less q h = absurd (let wrong : Less ≡ Equal = h in cc)
both_equal Equal q h = (refl, h)
both_equal Greater q h = absurd (let wrong : Greater ≡ Equal = h in cc)

-- keys that tie are one
pub same_key : (a b : KeyTexts) → key_order a b ≡ Equal → a ≡ b
same_key a b h =
    let parts = both_equal (slice_cmp nat_cmp a.first b.first) (slice_cmp nat_cmp a.second b.second) h in
    let first = slice_cmp-IsAntisymmetric nat_cmp-IsAntisymmetric a.first b.first parts.0 in
    let second = slice_cmp-IsAntisymmetric nat_cmp-IsAntisymmetric a.second b.second parts.1 in
    λ i. record { first = first i; second = second i }

-- an entry that ties with a key is ordered by its place
pub by_place : (keys : List KeyTexts) (key : KeyTexts) (p place : ℕ) → key_at keys p ≡ key → entry_order keys p key place ≡ nat_cmp p place
by_place keys key p place same =
    ap (λ t. ordering_then (key_order t key) (nat_cmp p place)) same
    ∙ ap (λ o. ordering_then o (nat_cmp p place)) (tied_itself key_total key)

tied_between : (o : Ordering) (p n : ℕ) → is_lt (ordering_then o (nat_cmp p 0)) ≡ false → ordering_then o (nat_cmp p n) ≡ Less → o ≡ Equal
tied_between Less p n h k = absurd (let wrong : true ≡ false = h in cc)
tied_between Equal p n h k = refl
tied_between Greater p n h k = absurd (let wrong : Greater ≡ Less = k in cc)

length_part : (xs : List ℕ) (a b : ℕ) → a ≤ b → b ≤ length xs → length (take (b - a) (drop a xs)) ≡ b - a
length_part xs a b up within = let e = length-drop a xs in length-take-le (b - a) (drop a xs) (omega (arith, e))

index_part : (xs : List ℕ) (a b k d : ℕ) → k < b - a → get_or (take (b - a) (drop a xs)) k d ≡ get_or xs (a + k) d
index_part xs a b k d within = get_or-take (b - a) (drop a xs) k d within ∙ get_or-drop a xs k d

before_all : (o : Ordering) (p n : ℕ) → p < n → ordering_then o (nat_cmp p 0) ≡ Less → ordering_then o (nat_cmp p n) ≡ Less
before_all Less p n below h = refl
before_all Equal p n below h = number_less p n below
before_all Greater p n below h = absurd (let wrong : Greater ≡ Less = h in cc)

-- the part of a key begins no later than it ends
pub ranks_ascend : (keys : List KeyTexts) (places : List ℕ) → IsOrder keys places → (key : KeyTexts) (first end : ℕ)
    → IsRank keys places key 0 first → IsRank keys places key (length places) end → first ≤ end
ranks_ascend keys places o key first end start stop =
    elim (cases_lt end first) [
      | inl lower ↦
          let within = start.within in
          let p = slice_index places end in
          let bound = place_below keys places o end (omega arith) in
          let size = length_order keys places o in
          let less = before_all (key_order (key_at keys p) key) p (length places) (omega (arith, bound, size)) (start.before end lower) in
          let not_less = stop.behind end (omega arith) (omega arith) in
          let wrong : true ≡ false = ap is_lt (sym less) ∙ not_less in absurd (cc)
      | inr upper ↦ upper
    ]

-- at each place between the ranks stands the key
pub key_between : (keys : List KeyTexts) (places : List ℕ) (key : KeyTexts) (first end : ℕ)
    → IsRank keys places key 0 first → IsRank keys places key (length places) end
    → (k : ℕ) → first ≤ k → k < end → key_at keys (slice_index places k) ≡ key
key_between keys places key first end start stop k above below =
    let within = stop.within in
    let p = slice_index places k in
    same_key (key_at keys p) key
    (tied_between (key_order (key_at keys p) key) p (length places) (start.behind k above (omega arith)) (stop.before k below))

-- and each place where the key stands lies between the ranks
pub between_ranks : (keys : List KeyTexts) (places : List ℕ) → IsOrder keys places → (key : KeyTexts) (first end : ℕ)
    → IsRank keys places key 0 first → IsRank keys places key (length places) end
    → (k : ℕ) → k < length places → key_at keys (slice_index places k) ≡ key → (first ≤ k) × (k < end)
between_ranks keys places o key first end start stop k within same =
    let p = slice_index places k in
    let bound = place_below keys places o k within in
    let size = length_order keys places o in (
      elim (cases_lt k first) [
        | inl lower ↦
            let less = less_number p 0 (sym (by_place keys key p 0 same) ∙ start.before k lower) in absurd (omega (arith, less))
        | inr upper ↦ upper
      ],
      elim (cases_lt k end) [
        | inl lower ↦ lower
        | inr upper ↦
            let less = by_place keys key p (length places) same ∙ number_less p (length places) (omega (arith, bound, size)) in
            let wrong : true ≡ false = ap is_lt (sym less) ∙ stop.behind k upper within in absurd (cc)
      ],
    )

pub places_between : (keys : List KeyTexts) (places : List ℕ) → IsOrder keys places → (key : KeyTexts) (first end : ℕ)
    → IsRank keys places key 0 first → IsRank keys places key (length places) end
    → ArePlacesOf keys key (take (end - first) (drop first places))
places_between keys places o key first end start stop =
    let up = ranks_ascend keys places o key first end start stop in
    let within = stop.within in
    let size = length_part places first end up within in
    record {
      sound = All-from_get_or (λ p. (p < length keys) × (key_at keys p ≡ key)) (take (end - first) (drop first places)) 0
          (λ k below.
          let short : k < end - first = omega (arith, below, size) in
          let read = index_part places first end k 0 short in
          let bound = place_below keys places o (first + k) (omega arith) in
          subst (λ p. (p < length keys) × (key_at keys p ≡ key)) (sym read)
          (bound, key_between keys places key first end start stop (first + k) (omega arith) (omega arith)));
      complete = λ p below same.
          let there = place_there keys places o p below in
          let k = there.0 in
          let read : slice_index places k ≡ p = sym (get_or_default_zero places k p there.1) ∙ there.2 in
          let inside = between_ranks keys places o key first end start stop k there.1 (ap (key_at keys) read ∙ same) in (
            k - first,
            omega (arith, size, inside.0, inside.1),
            index_part places first end (k - first) p (omega (arith, inside.0, inside.1))
                ∙ ap (λ i. get_or places i p) (let e : first + (k - first) ≡ k = omega (arith, inside.0) in e) ∙ there.2,
          );
      ascends = λ k below.
          let one : k < end - first = omega (arith, below, size) in
          let other : k + 1 < end - first = omega (arith, below, size) in
          let p = slice_index places (first + k) in
          let q = slice_index places (first + (k + 1)) in
          let next : first + k + 1 ≡ first + (k + 1) = omega arith in
          let order : place_order keys p q ≡ Less =
          subst (λ i. place_order keys p (slice_index places i) ≡ Less) next (o.ascends (first + k) (omega arith)) in
          let same_p = key_between keys places key first end start stop (first + k) (omega arith) (omega arith) in
          let same_q = key_between keys places key first end start stop (first + (k + 1)) (omega arith) (omega arith) in
          let tied : place_order keys p q ≡ nat_cmp p q =
          ap (λ t. ordering_then (key_order (key_at keys p) t) (nat_cmp p q)) same_q ∙ by_place keys key p q same_p in
          let less : p < q = less_number p q (sym tied ∙ order) in
          let read_p = index_part places first end k 0 one in
          let read_q = index_part places first end (k + 1) 0 other in
          omega (arith, less, read_p, read_q);
    }

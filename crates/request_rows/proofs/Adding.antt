-- An index with the place of one row more, the last of its list.
use Rattle.std.proofs.Common.{◌≡◌, ℕ, zero, suc, ◌+◌, ◌-◌, ◌<◌, ◌≤◌, true, false, List, [], ◌∷◌, ◌++◌, map, length, slice_index, get_or, sym, refl, ap, ◌∙◌, subst, inl, inr, arith, add-zero, length-append}
use Rattle.std.specs.List.{range_with_len, insert}
use Rattle.std.specs.List.Sorted.{IsPermutation}
use Rattle.std.specs.Ordering.{nat_cmp, ordering_then, is_lt, ordering_reverse}
use Rattle.std.specs.declared.cmp.Ordering.{Ordering}
use Rattle.std.specs.declared.cmp.Ordering.TheVariants.{Less, Equal, Greater}
use Rattle.std.proofs.lemmas.Bool.{cases_lt}
use Rattle.std.proofs.lemmas.List.{get_or_append_left, get_or_push, length-map, map-append}
use Rattle.std.proofs.lemmas.List.Edits.{length-insert, get_or-insert_at, get_or-insert_below, get_or-insert_above}
use Rattle.std.proofs.lemmas.List.Sorted.{IsPermutation-to_front, IsPermutation-cons, IsPermutation-insert, IsPermutation-trans}
use Rattle.ledger_rules.specs.Order.{KeyTexts, key_order, key_at, place_order, one_text, IsOrder}
use Rattle.request_rows.specs.Indexed.{entry_order, IsRank}
use Rattle.request_rows.proofs.Orders.{key_total, place_below}
use Rattle.request_rows.proofs.Places.{number_less}

pub range_push : (a n : ℕ) → range_with_len a (suc n) ≡ range_with_len a n ++ (a + n) ∷ []
range_push a zero = ap (λ x. x ∷ []) (sym (add-zero a))
range_push a (suc n) =
    let e : a + 1 + n ≡ a + suc n = omega arith in
    ap (λ xs. a ∷ xs) (range_push (a + 1) n ∙ ap (λ m. range_with_len (a + 1) n ++ m ∷ []) e)

each_once_more : (keys : List KeyTexts) (key : KeyTexts) (places : List ℕ) (rank : ℕ) → IsPermutation (range_with_len 0 (length keys)) places
    → IsPermutation (range_with_len 0 (length (keys ++ key ∷ []))) (insert places rank (length keys))
each_once_more keys key places rank once =
    let n = length keys in
    let size : length (keys ++ key ∷ []) ≡ suc (length keys) = let e = length-append keys (key ∷ []) in omega (arith, e) in
    let zero_more : 0 + length keys ≡ length keys = omega arith in
    let range : range_with_len 0 (length (keys ++ key ∷ [])) ≡ range_with_len 0 n ++ n ∷ [] =
    ap (range_with_len 0) size ∙ range_push 0 n ∙ ap (λ m. range_with_len 0 n ++ m ∷ []) zero_more in
    subst (λ r. IsPermutation r (insert places rank n)) (sym range)
    (IsPermutation-trans _ _ _ (IsPermutation-to_front (range_with_len 0 n) n)
    (IsPermutation-trans _ _ _ (IsPermutation-cons n _ _ once) (IsPermutation-insert places rank n)))

key_kept : (keys : List KeyTexts) (key : KeyTexts) (p : ℕ) → p < length keys → key_at (keys ++ key ∷ []) p ≡ key_at keys p
key_kept keys key p below = get_or_append_left keys (key ∷ []) (one_text []) p below

key_added : (keys : List KeyTexts) (key : KeyTexts) → key_at (keys ++ key ∷ []) (length keys) ≡ key
key_added keys key = get_or_push keys key (one_text []) (length keys) refl

order_kept : (keys : List KeyTexts) (key : KeyTexts) (p q : ℕ) → p < length keys → q < length keys
    → place_order (keys ++ key ∷ []) p q ≡ place_order keys p q
order_kept keys key p q one other =
    ap (λ t. ordering_then (key_order t (key_at (keys ++ key ∷ []) q)) (nat_cmp p q)) (key_kept keys key p one)
    ∙ ap (λ t. ordering_then (key_order (key_at keys p) t) (nat_cmp p q)) (key_kept keys key q other)

-- an entry that comes before the new one
order_before : (keys : List KeyTexts) (key : KeyTexts) (p : ℕ) → p < length keys
    → place_order (keys ++ key ∷ []) p (length keys) ≡ entry_order keys p key (length keys)
order_before keys key p one =
    ap (λ t. ordering_then (key_order t (key_at (keys ++ key ∷ []) (length keys))) (nat_cmp p (length keys))) (key_kept keys key p one)
    ∙ ap (λ t. ordering_then (key_order (key_at keys p) t) (nat_cmp p (length keys))) (key_added keys key)

-- of what does not come before, though its place is less, the key is greater
greater_key : (o : Ordering) (p n : ℕ) → p < n → is_lt (ordering_then o (nat_cmp p n)) ≡ false → o ≡ Greater
greater_key Less p n below h = absurd (let wrong : true ≡ false = h in cc)
greater_key Equal p n below h = absurd (let wrong : true ≡ false = ap is_lt (sym (number_less p n below)) ∙ h in cc)
greater_key Greater p n below h = refl

order_behind : (keys : List KeyTexts) (key : KeyTexts) (p : ℕ) → p < length keys → is_lt (entry_order keys p key (length keys)) ≡ false
    → place_order (keys ++ key ∷ []) (length keys) p ≡ Less
order_behind keys key p one h =
    let greater = greater_key (key_order (key_at keys p) key) p (length keys) one h in
    let less : key_order key (key_at keys p) ≡ Less =
    key_total.antisymm key (key_at keys p) ∙ ap ordering_reverse greater in
    ap (λ t. ordering_then (key_order t (key_at (keys ++ key ∷ []) p)) (nat_cmp (length keys) p)) (key_added keys key)
    ∙ ap (λ t. ordering_then (key_order key t) (nat_cmp (length keys) p)) (key_kept keys key p one)
    ∙ ap (λ o. ordering_then o (nat_cmp (length keys) p)) less

-- the new place goes in front of what does not come before it
pub order_more : (keys : List KeyTexts) (key : KeyTexts) (places : List ℕ) (rank : ℕ) → IsOrder keys places
    → IsRank keys places key (length keys) rank → IsOrder (keys ++ key ∷ []) (insert places rank (length keys))
order_more keys key places rank o r =
    let n = length keys in
    let all = keys ++ key ∷ [] in
    let within = r.within in
    let below_rank : (k : ℕ) → k < rank → get_or (insert places rank n) k 0 ≡ slice_index places k =
    λ k lower. get_or-insert_below places rank n 0 k lower within in
    let above_rank : (k : ℕ) → rank ≤ k → get_or (insert places rank n) (k + 1) 0 ≡ slice_index places k =
    λ k upper. get_or-insert_above places rank n 0 k upper within in
    let at_rank = get_or-insert_at places rank n 0 within in
    let size = length-insert places rank n within in
    let moved : (p q k : ℕ) → p ≡ get_or (insert places rank n) k 0 → q ≡ get_or (insert places rank n) (k + 1) 0
    → place_order all p q ≡ Less → place_order all (get_or (insert places rank n) k 0) (get_or (insert places rank n) (k + 1) 0) ≡ Less =
    λ p q k first second less.
    ap (λ m. place_order all m (get_or (insert places rank n) (k + 1) 0)) (sym first) ∙ ap (place_order all p) (sym second) ∙ less in
    let further : (k : ℕ) → rank < k → k + 1 < length (insert places rank n)
    → place_order all (get_or (insert places rank n) k 0) (get_or (insert places rank n) (k + 1) 0) ≡ Less =
    λ k behind below.
    let m = k - 1 in
    let next : k - 1 + 1 ≡ k = omega arith in
    let p = slice_index places m in
    let q = slice_index places k in
    let inside : k < length places = omega (arith, below, size) in
    let one = place_below keys places o m (omega arith) in
    let other = place_below keys places o k inside in
    let order = order_kept keys key p q one other
    ∙ ap (λ i. place_order keys p (slice_index places i)) (sym next) ∙ o.ascends m (omega arith) in
    moved p q k (sym (above_rank m (omega arith)) ∙ ap (λ i. get_or (insert places rank n) i 0) next)
    (sym (above_rank k (omega arith))) order in
    record {
      each_once = each_once_more keys key places rank o.each_once;
      ascends = λ k below.
          elim (cases_lt (k + 1) rank) [
            | inl lower ↦
                let p = slice_index places k in
                let q = slice_index places (k + 1) in
                let one = place_below keys places o k (omega arith) in
                let other = place_below keys places o (k + 1) (omega arith) in
                let order = order_kept keys key p q one other ∙ o.ascends k (omega arith) in
                moved p q k (sym (below_rank k (omega arith))) (sym (below_rank (k + 1) lower)) order
            | inr above ↦
                elim (cases_lt k rank) [
                  | inl last ↦
                      let p = slice_index places k in
                      let one = place_below keys places o k (omega arith) in
                      let next : rank ≡ k + 1 = omega arith in
                      moved p n k (sym (below_rank k last)) (sym at_rank ∙ ap (λ m. get_or (insert places rank n) m 0) next)
                      (order_before keys key p one ∙ r.before k last)
                  | inr upper ↦
                      elim (cases_lt rank k) [
                        | inl behind ↦ further k behind below
                        | inr at ↦
                            let same : rank ≡ k = omega arith in
                            let q = slice_index places k in
                            let inside : k < length places = omega (arith, below, size) in
                            let one = place_below keys places o k inside in
                            moved n q k (sym at_rank ∙ ap (λ m. get_or (insert places rank n) m 0) same) (sym (above_rank k upper))
                            (order_behind keys key q one (r.behind k upper inside))
                      ]
                ]
          ];
    }

-- the index of a list with one row more at its end
pub added : {X : Type 0} (key_of : X → KeyTexts) (rows rows' : List X) (row : X) (key : KeyTexts) (places places' : List ℕ) (rank place : ℕ)
    → IsOrder (map key_of rows) places → IsRank (map key_of rows) places key place rank
    → key ≡ key_of row → place ≡ length rows → rows' ≡ rows ++ row ∷ [] → places' ≡ insert places rank place
    → IsOrder (map key_of rows') places'
added key_of rows rows' row key places places' rank place o r same last rows_are places_are =
    let size : place ≡ length (map key_of rows) = last ∙ sym (length-map rows key_of) in
    let more = order_more (map key_of rows) key places rank o (subst (λ n. IsRank (map key_of rows) places key n rank) size r) in
    let keys : map key_of rows ++ key ∷ [] ≡ map key_of rows' =
    ap (λ k. map key_of rows ++ k ∷ []) same ∙ sym (map-append key_of rows (row ∷ [])) ∙ ap (map key_of) (sym rows_are) in
    let there : insert places rank (length (map key_of rows)) ≡ places' = ap (insert places rank) (sym size) ∙ sym places_are in
    subst (λ ks. IsOrder ks places') keys (subst (IsOrder (map key_of rows ++ key ∷ [])) there more)

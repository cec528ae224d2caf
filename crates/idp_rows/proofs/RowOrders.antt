-- The rows of a list come in the order of their IDs.
use Rattle.std.proofs.Common.{◌≡◌, ℕ, zero, suc, ◌+◌, ◌<◌, ◌^◌, true, List, [], ◌∷◌, ◌++◌, map, length, slice_index, sym, refl, ap, ◌∙◌, subst, inl, inr, arith, zero-add}
use Rattle.std.specs.List.{range_with_len}
use Rattle.std.specs.List.Sorted.{IsPermutation}
use Rattle.std.specs.Ordering.{nat_cmp, ordering_then}
use Rattle.std.specs.declared.cmp.Ordering.TheVariants.{Less, Equal}
use Rattle.std.specs.Cmp.Lexicographic.{slice_cmp}
use Rattle.std.proofs.lemmas.Bool.{cases_lt}
use Rattle.std.proofs.lemmas.List.{length-map, length_push, map_push, get_or_append_left, get_or_push}
use Rattle.std.proofs.lemmas.List.FromFn.{length-range_with_len, get_or-range_with_len}
use Rattle.std.proofs.lemmas.List.Sorted.{IsPermutation-refl}
use Rattle.ledger_rules.specs.Numbers.{has_number, AreBelow}
use Rattle.ledger_rules.proofs.Rising.{lesser_id}
use Rattle.ledger_rules.specs.Order.{one_text, key_at, key_order, place_order, IsOrder}
use Rattle.idp_rows.specs.Kept.{HaveNumbers, ComeInOrder, id_at}

-- one row more, whose number is greater than those of the others
pub order_more : {X : Type 0} (key : X → List ℕ) (rows : List X) (numbers : List ℕ) (count more : ℕ) → HaveNumbers numbers (map key rows) → ComeInOrder (map key rows) count
    → (number : ℕ) (row : X) → AreBelow number numbers → number < 2 ^ 64 → has_number number (key row) ≡ true → more ≡ count + 1
    → ComeInOrder (map key (rows ++ row ∷ [])) more
order_more key rows numbers count more have order number row below fits has one =
    let ids = map key rows in
    let id = key row in
    let sizes = length_push ids id in
    subst (λ ids. ComeInOrder ids more) (sym (map_push key rows row)) (record {
      long = omega (arith, one, sizes, order.long);
      ascends = λ k within.
          let first = get_or_append_left ids (id ∷ []) [] k (omega (arith, within, sizes)) in
          let less : slice_cmp nat_cmp (id_at ids k) (id_at (ids ++ id ∷ []) (suc k)) ≡ Less =
          elim (cases_lt (suc k) (length ids)) [
            | inl lower ↦ ap (slice_cmp nat_cmp (id_at ids k)) (get_or_append_left ids (id ∷ []) [] (suc k) lower) ∙ order.ascends k lower
            | inr upper ↦
                let last : length ids ≡ suc k = omega (arith, within, upper, sizes) in
                ap (slice_cmp nat_cmp (id_at ids k)) (get_or_push ids id [] (suc k) last)
                ∙ lesser_id (slice_index numbers k) number (id_at ids k) id (below k (omega (arith, last, have.long))) fits (have.each k (omega (arith, last))) has
          ] in
          ap (λ i. slice_cmp nat_cmp i (id_at (ids ++ id ∷ []) (suc k))) first ∙ less;
    })

map_map : {X Y Z : Type 0} (g : Y → Z) (f : X → Y) (rows : List X) → map g (map f rows) ≡ map (λ row. g (f row)) rows
map_map g f [] = refl
map_map g f (row ∷ rows) = ap (λ rest. g (f row) ∷ rest) (map_map g f rows)

key_there : (ids : List (List ℕ)) (k : ℕ) → key_at (map one_text ids) k ≡ one_text (id_at ids k)
key_there [] k = refl
key_there (id ∷ ids) zero = refl
key_there (id ∷ ids) (suc k) = key_there ids k

order_of_ids : (ids : List (List ℕ)) (count : ℕ) → ComeInOrder ids count → IsOrder (map one_text ids) (range_with_len 0 count)
order_of_ids ids count order =
    let keys = map one_text ids in
    let size : count ≡ length keys = order.long ∙ sym (length-map ids one_text) in
    record {
      each_once = subst (λ n. IsPermutation (range_with_len 0 n) (range_with_len 0 count)) size (IsPermutation-refl (range_with_len 0 count));
      ascends = λ k within.
          let long = length-range_with_len 0 count in
          let one : slice_index (range_with_len 0 count) k ≡ k = get_or-range_with_len 0 count k 0 (omega (arith, within, long)) ∙ zero-add k in
          let other : slice_index (range_with_len 0 count) (k + 1) ≡ suc k = get_or-range_with_len 0 count (k + 1) 0 (omega (arith, within, long)) ∙ omega arith in
          let less = order.ascends k (omega (arith, within, long, order.long)) in
          ap (λ p. place_order keys p (slice_index (range_with_len 0 count) (k + 1))) one ∙ ap (place_order keys k) other
          ∙ ap (λ t. ordering_then (key_order t (key_at keys (suc k))) (nat_cmp k (suc k))) (key_there ids k)
          ∙ ap (λ t. ordering_then (key_order (one_text (id_at ids k)) t) (nat_cmp k (suc k))) (key_there ids (suc k))
          ∙ ap (λ o. ordering_then (ordering_then o Equal) (nat_cmp k (suc k))) less;
    }

-- so their places are in order
pub order_is : {X : Type 0} (key : X → List ℕ) (rows : List X) (count : ℕ) (places : List ℕ) → ComeInOrder (map key rows) count → places ≡ range_with_len 0 count
    → IsOrder (map (λ row. one_text (key row)) rows) places
order_is key rows count places order are =
    subst (λ keys. IsOrder keys places) (map_map one_text key rows) (subst (IsOrder (map one_text (map key rows))) (sym are) (order_of_ids (map key rows) count order))

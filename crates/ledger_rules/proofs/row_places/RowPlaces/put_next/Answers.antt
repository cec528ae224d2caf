use Rattle.std.proofs.Common.{◌≡◌, ◌∙◌, ◌+◌, ◌∷◌, ◌++◌, ℕ, zero, suc, [], length, ap, sym, arith, add-zero, zero-add}
use Rattle.std.specs.List.{range_with_len}
use Rattle.std.proofs.lemmas.List.{length_push}
use Rattle.ledger_rules.proofs.row_places.RowPlaces.put_next.Goals as goal

range_push : (a n : ℕ) → range_with_len a n ++ (a + n) ∷ [] ≡ range_with_len a (suc n)
range_push a zero = ap (λ x. x ∷ []) (add-zero a)
range_push a (suc n) =
    let next : a + suc n ≡ a + 1 + n = omega arith in
    ap (λ xs. a ∷ xs) (ap (λ m. range_with_len (a + 1) n ++ m ∷ []) next ∙ range_push (a + 1) n)

pub invariant_of-self : goal.invariant_of-self
invariant_of-self c =
    let old = c.self.inside.places.items in
    let more = old ++ c.len-place.result ∷ [] in
    let size : suc (length old) ≡ length more = omega (arith, length_push old c.len-place.result) in
    let counted : c.len-place.result ≡ length old = omega (arith, c.len-place.ensures, c.self.inside.places.ok.0) in
    c.in-Ok.ensures.items ∙ ap (λ n. old ++ n ∷ []) counted ∙ ap (λ xs. xs ++ length old ∷ []) c.self.invariant
    ∙ ap (λ n. range_with_len 0 (length old) ++ n ∷ []) (sym (zero-add (length old)))
    ∙ range_push 0 (length old) ∙ ap (range_with_len 0) size ∙ ap (λ xs. range_with_len 0 (length xs)) (sym c.in-Ok.ensures.items)

use Rattle.std.proofs.Common.{◌≡◌, ◌∙◌, map, sym, ap, subst, length, not, List, [], ◌∷◌, ℕ, refl, ◌==◌, get_or, arith}
use Rattle.std.proofs.lemmas.Bool.{ne_eqb}
use Rattle.std.proofs.lemmas.List.{get_or_default, length-map}
use Rattle.request_rows.specs.Rows.{is_spent}
use Rattle.ledger_rules.specs.Order.{one_text}
use Rattle.request_rows.specs.Indexed.{ArePlacesOf}
use Rattle.request_rows.specs.declared.row.OpenedRow.{OpenedRow}
use Rattle.request_rows.proofs.Finding.{is_any, is_none, spent_tests}
use Rattle.request_rows.proofs.rows.Rows.is_spent.Goals as goal

-- the request is spent where it has a place
some_place : (rows : List OpenedRow) (request : List ℕ) (places : List ℕ) → ArePlacesOf (map (λ row. one_text row.request) rows) (one_text request) places
    → not (length places == 0) ≡ is_spent rows request
some_place rows request [] a =
    sym (is_none (λ row. one_text row.request) (one_text request) _ _ (spent_tests request) rows [] a 0 (λ i d less. absurd (omega arith)) (omega arith))
some_place [] request (p ∷ ps) a = absurd (let sound = a.sound 0 0 (omega arith) in omega (arith, sound.0))
some_place (x ∷ xs) request (p ∷ ps) a =
    let sound = a.sound 0 0 (omega arith) in
    let size = length-map (x ∷ xs) (λ row. one_text row.request) in
    ap not (ne_eqb (length (p ∷ ps)) 0 (λ e. omega (arith, e)))
    ∙ sym (is_any (λ row. one_text row.request) (one_text request) _ _ (spent_tests request) (x ∷ xs) (p ∷ ps) a 0 (λ i d less. absurd (omega arith)) (omega arith)
    (get_or (x ∷ xs) p x) (get_or_default (x ∷ xs) p x (get_or (x ∷ xs) p x) (omega (arith, size, sound.0))) refl)

pub returns : goal.returns
returns c =
    let rows = c.self.inside.lists.opened.items in
    let request = c.args.request.now in
    let places = subst (λ key. ArePlacesOf (map (λ row. one_text row.request) rows) key c.places_of-places.result.now) c.one.ensures c.places_of-places.ensures in
    ap not c.is_empty.ensures ∙ some_place rows request c.places_of-places.result.now places ∙ ap (λ v. is_spent v.opened request) c.self.view_is

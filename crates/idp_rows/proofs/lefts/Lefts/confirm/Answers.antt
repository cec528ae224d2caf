use Rattle.std.proofs.Common.{◌≡◌, ◌∙◌, true, Bool, ℕ, List, get_or, sym, ap, subst}
use Rattle.idp_rows.specs.declared.row.LeftRow.{LeftRow}
use Rattle.std.proofs.Math.Seq.{map-set_same}
use Rattle.idp_rows.specs.RowsOf.{confirmed_if}
use Rattle.idp_rows.specs.Kept.{HaveNumbers}
use Rattle.idp_rows.proofs.RowPlaces.{marked_or, unmarked_or, same_so, differs_so, marked_at, marked_nowhere}
use Rattle.idp_rows.proofs.lefts.Lefts.confirm.Goals as goal

abbrev key : LeftRow → List ℕ
key row = row.request

abbrev mark : LeftRow → Bool
mark row = row.confirmed

-- the row of an ID is marked
abbrev step : List ℕ → LeftRow → LeftRow
step id row = confirmed_if (Rattle.std.specs.Str.bytes_eq id (key row)) row

changes : (id : List ℕ) (row : LeftRow) → key row ≡ id → record row { confirmed = true } ≡ step id row
changes id row same = λ i. record row { confirmed = sym (marked_or row.confirmed (Rattle.std.specs.Str.bytes_eq id (key row)) (same_so id (key row) same)) i }

stays : (id : List ℕ) (row : LeftRow) → (key row ≡ id → ⊥) → step id row ≡ row
stays id row differs = λ i. record row { confirmed = unmarked_or row.confirmed (Rattle.std.specs.Str.bytes_eq id (key row)) (differs_so id (key row) differs) i }

pub invariant_of-self : goal.invariant_of-self
invariant_of-self c =
    let row = c.index_mut.result.now in
    subst (HaveNumbers c.self.inside.numbers.listed)
    (sym (map-set_same key c.self.inside.rows.items c.in-Some.place (record row { confirmed = true }) row (ap key c.index_mut.ensures.value))) c.self.invariant

pub returns-in-Some-clause-rows : goal.returns-in-Some-clause-rows
returns-in-Some-clause-rows c =
    let row = c.index_mut.result.now in
    let id = c.args.request.now in
    let new = record row { confirmed = true } in
    let rows = ap (λ v. v.rows) c.self.view_is in
    let read = c.index_mut.ensures.value ∙ ap (λ rows. get_or rows c.in-Some.place row) rows in
    ap (λ rows. Rattle.std.proofs.Common.set rows c.in-Some.place new) rows
    ∙ marked_at key mark c.args.self.now.rows id (step id) c.in-Some.place c.in-Some.ensures.some row new read (changes id row) (stays id)

pub returns-in_default-clause-rows : goal.returns-in_default-clause-rows
returns-in_default-clause-rows c =
    let id = c.args.request.now in
    sym (marked_nowhere key mark c.args.self.now.rows id (step id) c.in_default.ensures.none (stays id))

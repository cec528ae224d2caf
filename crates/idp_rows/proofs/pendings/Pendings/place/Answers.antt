use Rattle.std.proofs.Common.{◌≡◌, ◌∙◌, false, List, sym, ap, subst}
use Rattle.std.specs.List.{list_any}
use Rattle.std.specs.Str.{bytes_eq}
use Rattle.std.proofs.lemmas.Slice.Eq.{bytes_eq-Decides}
use Rattle.idp_rows.specs.declared.row.PendingRow.{PendingRow}
use Rattle.idp_rows.specs.Kept.{IsRowAt}
use Rattle.idp_rows.proofs.RowPlaces.{row_at, none_at_all, none_but_other}
use Rattle.idp_rows.proofs.pendings.Pendings.place.Goals as goal

abbrev key : PendingRow → List Rattle.std.proofs.Common.ℕ
key row = row.pending

pub returns-in_err-place-clause-none : goal.returns-in_err-place-clause-none
returns-in_err-place-clause-none c =
    let id = c.args.pending.now in
    let none = none_at_all key c.self.inside.rows.items c.self.inside.numbers.listed c.self.invariant.0 id c.in_err-place.ensures in
    rw c.from_residual.ensures (subst (λ rows. list_any (λ (row : PendingRow). bytes_eq (key row) id) rows ≡ false) (ap (λ v. v.rows) c.self.view_is) none)

pub returns-then-eq-clause-some : goal.returns-then-eq-clause-some
returns-then-eq-clause-some c =
    let id = c.args.pending.now in
    let row = c.index.result.now in
    let same : key row ≡ id = sym c.as_str.ensures ∙ (bytes_eq-Decides c.as_str.result.now id).0 (sym c.if-eq.ensures) in
    subst (λ rows. IsRowAt key rows id c.in_ok-place.place) (ap (λ v. v.rows) c.self.view_is)
    (row_at key c.self.inside.rows.items c.self.inside.numbers.listed c.self.invariant.0 id c.in_ok-place.place c.in_ok-place.ensures row c.index.ensures same)

pub returns-else-eq-clause-none : goal.returns-else-eq-clause-none
returns-else-eq-clause-none c =
    let id = c.args.pending.now in
    let row = c.index.result.now in
    let fails : bytes_eq (key row) id ≡ false = ap (λ text. bytes_eq text id) (sym c.as_str.ensures) ∙ sym c.if-eq.ensures in
    let none = none_but_other key c.self.inside.rows.items c.self.inside.numbers.listed c.self.invariant.0 id c.in_ok-place.place c.in_ok-place.ensures row c.index.ensures fails in
    subst (λ rows. list_any (λ (row : PendingRow). bytes_eq (key row) id) rows ≡ false) (ap (λ v. v.rows) c.self.view_is) none

use Rattle.std.proofs.Common.{◌≡◌, ◌∙◌, false, get_or, sym, ap, subst}
use Rattle.std.specs.List.{list_any}
use Rattle.std.specs.Str.{bytes_eq}
use Rattle.std.proofs.lemmas.Slice.Eq.{bytes_eq-Decides}
use Rattle.round_rows.specs.declared.row.RoundRow.{RoundRow}
use Rattle.round_rows.specs.Kept.{HasRequestAt}
use Rattle.round_rows.proofs.Places.{row_at, none_at_all, none_but_other, read_place}
use Rattle.round_rows.proofs.rows.RoundRows.place.Goals as goal

pub returns-in_err-at-clause-none : goal.returns-in_err-at-clause-none
returns-in_err-at-clause-none c =
    let id = c.args.request.now in
    let none = none_at_all c.self.inside.rows.items c.self.inside.numbers.listed c.self.inside.places.items c.self.invariant id c.in_err-at.ensures in
    rw c.from_residual.ensures (subst (λ rows. list_any (λ (row : RoundRow). bytes_eq row.request id) rows ≡ false) (ap (λ v. v.rows) c.self.view_is) none)

pub returns-then-eq-clause-some : goal.returns-then-eq-clause-some
returns-then-eq-clause-some c =
    let id = c.args.request.now in
    let row = c.index-2.result.now in
    let rows = c.self.inside.rows.items in
    let numbers = c.self.inside.numbers.listed in
    let places = c.self.inside.places.items in
    let place = read_place rows numbers places c.self.invariant id c.in_ok-at.at c.in_ok-at.ensures c.index.result.now c.index.ensures in
    let same : row.request ≡ id = sym c.as_str.ensures ∙ (bytes_eq-Decides c.as_str.result.now id).0 (sym c.if-eq.ensures) in
    let read : row ≡ get_or rows (Rattle.std.specs.List.slice_index places c.in_ok-at.at) row = c.index-2.ensures ∙ ap (λ k. get_or rows k row) place in
    let at = row_at rows numbers places c.self.invariant id c.in_ok-at.at c.in_ok-at.ensures row read same in
    subst (λ k. HasRequestAt c.args.self.now.rows id k) (sym place) (subst (λ rows. HasRequestAt rows id (Rattle.std.specs.List.slice_index places c.in_ok-at.at)) (ap (λ v. v.rows) c.self.view_is) at)

pub returns-else-eq-clause-none : goal.returns-else-eq-clause-none
returns-else-eq-clause-none c =
    let id = c.args.request.now in
    let row = c.index-2.result.now in
    let rows = c.self.inside.rows.items in
    let numbers = c.self.inside.numbers.listed in
    let places = c.self.inside.places.items in
    let place = read_place rows numbers places c.self.invariant id c.in_ok-at.at c.in_ok-at.ensures c.index.result.now c.index.ensures in
    let fails : bytes_eq row.request id ≡ false = ap (λ text. bytes_eq text id) (sym c.as_str.ensures) ∙ sym c.if-eq.ensures in
    let read : row ≡ get_or rows (Rattle.std.specs.List.slice_index places c.in_ok-at.at) row = c.index-2.ensures ∙ ap (λ k. get_or rows k row) place in
    let none = none_but_other rows numbers places c.self.invariant id c.in_ok-at.at c.in_ok-at.ensures row read fails in
    subst (λ rows. list_any (λ (row : RoundRow). bytes_eq row.request id) rows ≡ false) (ap (λ v. v.rows) c.self.view_is) none

use Rattle.std.proofs.Common.{◌∙◌, false, true, length, get_or, sym, ap, arith}
use Rattle.round_rows.proofs.Places.{found_at, found_nowhere, at_within, read_row}
use Rattle.round_rows.proofs.rows.RoundRows.waiting.Goals as goal

pub returns-in_err-place-clause-round : goal.returns-in_err-place-clause-round
returns-in_err-place-clause-round c test =
    rw c.from_residual.ensures
    (found_nowhere c.args.self.now.rows c.args.request.now c.in_err-place.ensures.none test)

pub index-row-requires : goal.index-row-requires
index-row-requires c =
    let within = at_within c.args.self.now.rows c.args.request.now c.in_ok-place.place c.in_ok-place.ensures.some in
    omega (arith, within, ap (λ v. length v.rows) c.self.view_is, c.self.inside.rows.ok.0)

pub returns-then-is_done-clause-round : goal.returns-then-is_done-clause-round
returns-then-is_done-clause-round c test =
    let row = c.index-row.result.now in
    let read = c.index-row.ensures ∙ ap (λ v. get_or v.rows c.in_ok-place.place row) c.self.view_is in
    found_at c.args.self.now.rows c.args.request.now c.in_ok-place.place c.in_ok-place.ensures.some row read true (sym c.if-is_done.ensures) test

pub returns-else-is_done-clause-round : goal.returns-else-is_done-clause-round
returns-else-is_done-clause-round c test =
    let row = c.index-row.result.now in
    let read = c.index-row.ensures ∙ ap (λ v. get_or v.rows c.in_ok-place.place row) c.self.view_is in
    found_at c.args.self.now.rows c.args.request.now c.in_ok-place.place c.in_ok-place.ensures.some row read false (sym c.if-is_done.ensures) test

pub returns-else-is_done-clause-only : goal.returns-else-is_done-clause-only
returns-else-is_done-clause-only c =
    let row = c.index-row.result.now in
    let read = c.index-row.ensures ∙ ap (λ v. get_or v.rows c.in_ok-place.place row) c.self.view_is in
    let at = c.in_ok-place.ensures.some in
    (c.in_ok-place.place, at, read_row c.args.self.now.rows c.args.request.now c.in_ok-place.place at row read)

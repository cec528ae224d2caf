use Rattle.std.proofs.Common.{◌∙◌, ◌&&◌, not, Bool, ℕ, List, get_or, sym, ap}
use Rattle.idp_rows.specs.declared.row.LeftRow.{LeftRow}
use Rattle.idp_rows.specs.Finding.{visible}
use Rattle.std.specs.Prelude.{nat_lt}
use Rattle.idp_rows.proofs.RowPlaces.{live_at, live_nowhere}
use Rattle.idp_rows.proofs.lefts.Lefts.is_waiting_now.Goals as goal

abbrev key : LeftRow → List ℕ
key row = row.request

abbrev mark : LeftRow → Bool
mark row = row.confirmed

pub returns-then-not-row : goal.returns-then-not-row
returns-then-not-row c =
    let row = c.index-row.result.now in
    let more : LeftRow → Bool = λ r. visible r.until c.args.now c.args.horizon in
    let read = c.index-row.ensures ∙ ap (λ v. get_or v.rows c.in-Some.place row) c.self.view_is in
    ap (λ n. nat_lt n row.until) c.max.ensures
    ∙ sym (live_at key mark c.args.self.now.rows c.args.request.now more c.in-Some.place c.in-Some.ensures.some row read ∙ ap (λ b. not b && more row) c.if-not-row.true)

pub returns-else-not-row : goal.returns-else-not-row
returns-else-not-row c =
    let row = c.index-row.result.now in
    let more : LeftRow → Bool = λ r. visible r.until c.args.now c.args.horizon in
    let read = c.index-row.ensures ∙ ap (λ v. get_or v.rows c.in-Some.place row) c.self.view_is in
    ap not c.if-not-row.false
    ∙ sym (live_at key mark c.args.self.now.rows c.args.request.now more c.in-Some.place c.in-Some.ensures.some row read ∙ ap (λ b. not b && more row) c.if-not-row.false)

pub returns-in-None : goal.returns-in-None
returns-in-None c =
    let more : LeftRow → Bool = λ r. visible r.until c.args.now c.args.horizon in
    sym (live_nowhere key mark c.args.self.now.rows c.args.request.now more c.in-None.ensures.none)

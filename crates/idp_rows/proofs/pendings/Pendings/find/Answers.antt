use Rattle.std.proofs.Common.{◌≡◌, ◌∙◌, ◌<◌, ◌&&◌, not, true, false, Bool, ℕ, List, get_or, length, cond, None, Some, sym, ap, subst, arith}
use Rattle.idp_rows.specs.declared.row.PendingRow.{PendingRow}
use Rattle.std.specs.Prelude.{nat_lt, max}
use Rattle.std.proofs.lemmas.Bool.{lt-ltb}
use Rattle.std.proofs.lemmas.Bool.Decides.{nat_tests}
use Rattle.idp_rows.specs.Finding.{visible}
use Rattle.idp_rows.proofs.RowPlaces.{live_found, live_unfound, at_within}
use Rattle.idp_rows.proofs.pendings.Pendings.find.Goals as goal
use Rattle.idp_rows.proofs.pendings.Pendings.find.Goals.{else-not-row-via-then-not-row+else-max-row, else-not-row-via-else-not-row}

abbrev key : PendingRow → List ℕ
key row = row.pending

abbrev mark : PendingRow → Bool
mark row = row.used

pub returns-in_err-place : goal.returns-in_err-place
returns-in_err-place c =
    let more : PendingRow → Bool = λ r. visible r.until c.args.now c.args.horizon in
    rw c.from_residual.ensures (sym (live_unfound key mark c.args.self.now.rows c.args.pending.now more c.in_err-place.ensures.none))

pub index-row-requires : goal.index-row-requires
index-row-requires c =
    let within = at_within key mark c.args.self.now.rows c.args.pending.now c.in_ok-place.place c.in_ok-place.ensures.some in
    omega (arith, within, ap (λ v. length v.rows) c.self.view_is, c.self.inside.rows.ok.0)

pub returns-then-max-row : goal.returns-then-max-row
returns-then-max-row c =
    let row = c.index-row.result.now in
    let more : PendingRow → Bool = λ r. visible r.until c.args.now c.args.horizon in
    let read = c.index-row.ensures ∙ ap (λ v. get_or v.rows c.in_ok-place.place row) c.self.view_is in
    let seen : more row ≡ true = lt-ltb (max c.args.now c.args.horizon) row.until (subst (λ n. n < row.until) c.max.ensures c.if-max-row.true) in
    sym (live_found key mark c.args.self.now.rows c.args.pending.now more c.in_ok-place.place c.in_ok-place.ensures.some row read
    ∙ ap (λ b. cond (not b && more row) (Some row) None) c.if-not-row.true ∙ ap (λ b. cond b (Some row) None) seen)

pub returns-else-not-row : goal.returns-else-not-row
returns-else-not-row c =
    let row = c.index-row.result.now in
    let more : PendingRow → Bool = λ r. visible r.until c.args.now c.args.horizon in
    let read = c.index-row.ensures ∙ ap (λ v. get_or v.rows c.in_ok-place.place row) c.self.view_is in
    let found = live_found key mark c.args.self.now.rows c.args.pending.now more c.in_ok-place.place c.in_ok-place.ensures.some row read in
    elim c.else-not-row.branch [
      | else-not-row-via-then-not-row+else-max-row w ↦
          let past : nat_lt (max c.args.now c.args.horizon) row.until ≡ false = grind (arith, nat_tests, w.max.ensures, w.if-max-row.false) in
          sym (found ∙ ap (λ b. cond (not b && more row) (Some row) None) w.if-not-row.true ∙ ap (λ b. cond b (Some row) None) past)
      | else-not-row-via-else-not-row w ↦ sym (found ∙ ap (λ b. cond (not b && more row) (Some row) None) w.if-not-row.false)
    ]

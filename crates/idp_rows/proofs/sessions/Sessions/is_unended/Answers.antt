use Rattle.std.proofs.Common.{◌∙◌, Bool, ℕ, List, get_or, sym, ap}
use Rattle.idp_rows.specs.declared.row.SessionRow.{SessionRow}
use Rattle.idp_rows.proofs.RowPlaces.{free_at, free_nowhere}
use Rattle.idp_rows.proofs.sessions.Sessions.is_unended.Goals as goal

abbrev key : SessionRow → List ℕ
key row = row.cookie

abbrev mark : SessionRow → Bool
mark row = row.ended

pub returns-in-Some : goal.returns-in-Some
returns-in-Some c =
    let row = c.index.result.now in
    let read = c.index.ensures ∙ ap (λ v. get_or v.rows c.in-Some.place row) c.self.view_is in
    sym (free_at key mark c.args.self.now.rows c.args.cookie.now c.in-Some.place c.in-Some.ensures.some row read)

pub returns-in-None : goal.returns-in-None
returns-in-None c = sym (free_nowhere key mark c.args.self.now.rows c.args.cookie.now c.in-None.ensures.none)

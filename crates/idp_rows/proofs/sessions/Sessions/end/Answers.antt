use Rattle.std.proofs.Common.{◌≡◌, ◌∙◌, true, Bool, ℕ, List, get_or, sym, ap, subst}
use Rattle.idp_rows.specs.declared.row.SessionRow.{SessionRow}
use Rattle.idp_rows.specs.RowsOf.{ended_if, ended_where}
use Rattle.idp_rows.specs.Kept.{HaveNumbers, ComeInOrder, AreLast, SessionsView, cookies}
use Rattle.idp_rows.proofs.RowPlaces.{marked_or, unmarked_or, same_so, differs_so, marked_at, marked_nowhere}
use Rattle.idp_rows.proofs.IssueLaws.{ended_cookies, last_ended}
use Rattle.idp_rows.proofs.sessions.Sessions.end.Goals as goal

abbrev key : SessionRow → List ℕ
key row = row.cookie

abbrev mark : SessionRow → Bool
mark row = row.ended

-- the row of an ID is marked
abbrev step : List ℕ → SessionRow → SessionRow
step id row = ended_if (Rattle.std.specs.Str.bytes_eq id (key row)) row

changes : (id : List ℕ) (row : SessionRow) → key row ≡ id → record row { ended = true } ≡ step id row
changes id row same = λ i. record row { ended = sym (marked_or row.ended (Rattle.std.specs.Str.bytes_eq id (key row)) (same_so id (key row) same)) i }

stays : (id : List ℕ) (row : SessionRow) → (key row ≡ id → ⊥) → step id row ≡ row
stays id row differs = λ i. record row { ended = unmarked_or row.ended (Rattle.std.specs.Str.bytes_eq id (key row)) (differs_so id (key row) differs) i }

pub invariant_of-self : goal.invariant_of-self
invariant_of-self c =
    let row = c.index_mut.result.now in
    let id = c.args.cookie.now in
    let rows = c.self.inside.rows.items in
    let test : SessionRow → Bool = λ r. Rattle.std.specs.Str.bytes_eq id (key r) in
    let at = subst (λ rows. Rattle.idp_rows.specs.Kept.IsRowAt key rows id c.in-Some.place) (sym (ap (λ v. v.rows) c.self.view_is)) c.in-Some.ensures.some in
    let is : Rattle.std.proofs.Common.set rows c.in-Some.place (record row { ended = true }) ≡ ended_where test rows =
    marked_at key mark rows id (step id) c.in-Some.place at row (record row { ended = true }) c.index_mut.ensures.value (changes id row) (stays id) in (
      subst (λ rows. HaveNumbers c.self.inside.numbers.listed (cookies rows)) (sym is)
          (subst (HaveNumbers c.self.inside.numbers.listed) (sym (ended_cookies test rows)) c.self.invariant.0),
      subst (λ rows. AreLast rows c.self.inside.last.items c.self.inside.issues.rows) (sym is)
          (last_ended test rows c.self.inside.last.items c.self.inside.issues.rows c.self.invariant.1),
      subst (λ rows. ComeInOrder (cookies rows) c.self.inside.places.count) (sym is)
          (subst (λ ids. ComeInOrder ids c.self.inside.places.count) (sym (ended_cookies test rows)) c.self.invariant.2),
    )

pub returns-in-Some : goal.returns-in-Some
returns-in-Some c =
    let row = c.index_mut.result.now in
    let id = c.args.cookie.now in
    let new = record row { ended = true } in
    let rows = ap (λ (v : SessionsView). v.rows) c.self.view_is in
    let read = c.index_mut.ensures.value ∙ ap (λ rows. get_or rows c.in-Some.place row) rows in
    let ended = ap (λ rows. Rattle.std.proofs.Common.set rows c.in-Some.place new) rows
    ∙ marked_at key mark c.args.self.now.rows id (step id) c.in-Some.place c.in-Some.ensures.some row new read (changes id row) (stays id) in
    λ i. record (c.self.view_is i) { rows = ended i }

pub returns-in_default : goal.returns-in_default
returns-in_default c =
    let id = c.args.cookie.now in
    let now = c.args.self.now in
    let same = sym (marked_nowhere key mark now.rows id (step id) c.in_default.ensures.none (stays id)) in
    λ i. record now { rows = same i }

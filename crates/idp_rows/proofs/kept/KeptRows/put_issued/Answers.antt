use Rattle.std.proofs.Common.{◌≡◌, ◌∙◌, ◌+◌, ◌++◌, ◌∷◌, [], ℕ, false, Some, true, List, ap, sym, subst, arith}
use Rattle.ledger_rules.specs.Numbers.{has_number, AreBelow}
use Rattle.idp_rows.specs.declared.row.SessionRow.{SessionRow}
use Rattle.idp_rows.specs.RowsOf.{used_where, issued_row, session_row}
use Rattle.idp_rows.specs.Kept.{StandingView}
use Rattle.idp_rows.proofs.RowPlaces.{below_more, below_later}
use Rattle.idp_rows.proofs.StandingRows.{IsFresh, fresh_assertion, fresh_message, fresh_cookie, fresh_index, begun_pending, none_begun, session_there, sessions_some, sessions_none, above_some, above_none}
use Rattle.idp_rows.proofs.kept.KeptRows.put_issued.Goals as goal
use Rattle.idp_rows.proofs.kept.KeptRows.put_issued.Goals.{In-Some}
use Rattle.owned_values.specs.Options.{is_there}

-- what an Issued of a pending login begins
begins : (c : In-Some) → (pending : List ℕ) × (c.args.r.pending ≡ Some pending) × (c.in-Some.session ≡ session_row false c.args.r)
begins c = begun_pending c.args.r c.in-Some.session (sym c.requires.session ∙ c.in-Some.is)

cookie_fresh : (c : In-Some) → IsFresh c.args.self.now.next (c.args.r.first + 2) c.args.r.cookie
cookie_fresh c = let b = begins c in fresh_cookie c.args.self.now.rows c.args.self.now.next c.args.r b.0 b.1 c.requires.is

index_fresh : (c : In-Some) → IsFresh c.args.self.now.next (c.args.r.first + 3) c.args.r.index
index_fresh c = let b = begins c in fresh_index c.args.self.now.rows c.args.self.now.next c.args.r b.0 b.1 c.requires.is

next_is : (c : In-Some) → c.self.inside.next ≡ c.args.self.now.next
next_is c = ap (λ (v : StandingView). v.next) c.self.view_is

pub overflow_add-r : goal.overflow_add-r
overflow_add-r c = let below = (cookie_fresh (goal.at.overflow_add-r c).In-Some).below in omega (arith, below)

pub begin-requires-clause-below : goal.begin-requires-clause-below
begin-requires-clause-below c =
    let s = (goal.at.begin-requires-clause-below c).In-Some in
    below_later c.self.inside.next (c.args.r.first + 2) c.self.inside.sessions.numbers c.self.invariant.1 (omega (arith, next_is s, (fresh_assertion c.args.self.now.rows c.args.self.now.next c.args.r c.requires.is).least_is))

pub begin-requires-clause-has : goal.begin-requires-clause-has
begin-requires-clause-has c =
    let s = (goal.at.begin-requires-clause-has c).In-Some in
    ap (λ (row : SessionRow). has_number (c.args.r.first + 2) row.cookie) (begins s).2 ∙ (cookie_fresh s).has

pub begin-requires-clause-same : goal.begin-requires-clause-same
begin-requires-clause-same c = sym (ap (λ (row : SessionRow). row.cookie) (begins (goal.at.begin-requires-clause-same c).In-Some).2)

pub overflow_add-self : goal.overflow_add-self
overflow_add-self c = let below = (index_fresh (goal.at.overflow_add-self c).In-Some).below in omega (arith, below)

pub invariant_of-self : goal.invariant_of-self
invariant_of-self c =
    let s = (goal.at.invariant_of-self c).In-Some in
    let least = (fresh_assertion c.args.self.now.rows c.args.self.now.next c.args.r c.requires.is).least_is in
    let next = next_is s in
    let r = c.args.r in (
      subst (AreBelow (r.first + 4)) (sym c.use_up.ensures.numbers) (below_later c.self.inside.next (r.first + 4) c.self.inside.pendings.numbers c.self.invariant.0 (omega (arith, next, least))),
      subst (AreBelow (r.first + 4)) (sym c.begin.ensures.numbers) (below_more c.self.inside.next (r.first + 4) (r.first + 2) c.self.inside.sessions.numbers c.self.invariant.1 (omega (arith, next, least)) (omega arith)),
      below_later c.self.inside.next (r.first + 4) c.self.inside.lefts.numbers c.self.invariant.2 (omega (arith, next, least)),
      below_later c.self.inside.next (r.first + 4) c.self.inside.rounds.numbers c.self.invariant.3 (omega (arith, next, least)),
      omega (arith, (index_fresh s).below),
    )

pub issue-requires-clause-there : goal.issue-requires-clause-there
issue-requires-clause-there c =
    let none = none_begun c.args.r (sym c.requires.session ∙ c.in-None.is) in
    let there = session_there c.args.self.now.rows c.args.self.now.next c.args.r none c.requires.is in
    subst (λ (v : StandingView). Rattle.std.specs.List.list_any (λ (row : SessionRow). Rattle.std.specs.Str.bytes_eq row.cookie c.args.r.cookie) v.rows.sessions ≡ true) (sym c.self.view_is) there

pub overflow_add-self-in-None : goal.overflow_add-self-in-None
overflow_add-self-in-None c =
    let below = (fresh_message c.args.self.now.rows c.args.self.now.next c.args.r c.requires.is).below in omega (arith, below)

pub invariant_of-self-in-None : goal.invariant_of-self-in-None
invariant_of-self-in-None c =
    let least = (fresh_assertion c.args.self.now.rows c.args.self.now.next c.args.r c.requires.is).least_is in
    let next = ap (λ (v : StandingView). v.next) c.self.view_is in
    let r = c.args.r in (
      subst (AreBelow (r.first + 2)) (sym c.use_up.ensures.numbers) (below_later c.self.inside.next (r.first + 2) c.self.inside.pendings.numbers c.self.invariant.0 (omega (arith, next, least))),
      subst (AreBelow (r.first + 2)) (sym c.issue.ensures.numbers) (below_later c.self.inside.next (r.first + 2) c.self.inside.sessions.numbers c.self.invariant.1 (omega (arith, next, least))),
      below_later c.self.inside.next (r.first + 2) c.self.inside.lefts.numbers c.self.invariant.2 (omega (arith, next, least)),
      below_later c.self.inside.next (r.first + 2) c.self.inside.rounds.numbers c.self.invariant.3 (omega (arith, next, least)),
      omega (arith, (fresh_message c.args.self.now.rows c.args.self.now.next c.args.r c.requires.is).below),
    )

pub returns-in-Some : goal.returns-in-Some
returns-in-Some c =
    let s = (goal.at.returns-in-Some c).In-Some in
    let r = c.args.r in
    let old = c.args.self.now in
    let b = begins s in
    let pendings = c.use_up.ensures.rows ∙ ap (λ (v : StandingView). used_where (λ row. is_there row.pending r.pending) v.rows.pendings) c.self.view_is in
    let issues = c.begin.ensures.issues ∙ ap (λ (v : StandingView). v.rows.issues ++ issued_row r ∷ []) c.self.view_is in
    let sessions = c.begin.ensures.rows ∙ ap (λ (v : StandingView). v.rows.sessions ++ c.in-Some.session ∷ []) c.self.view_is
    ∙ sessions_some old.rows.sessions r c.in-Some.session b.0 b.1 b.2 in
    let lefts = ap (λ (v : StandingView). v.rows.lefts) c.self.view_is in
    let rounds = ap (λ (v : StandingView). v.rows.rounds) c.self.view_is in
    record {
      rows = λ i. record { pendings = pendings i; issues = issues i; sessions = sessions i; lefts = lefts i; rounds = rounds i };
      next = omega (arith, above_some r b.0 b.1, (fresh_assertion old.rows old.next r c.requires.is).least_is);
    }

pub returns-in-None : goal.returns-in-None
returns-in-None c =
    let r = c.args.r in
    let old = c.args.self.now in
    let none = none_begun r (sym c.requires.session ∙ c.in-None.is) in
    let pendings = c.use_up.ensures.rows ∙ ap (λ (v : StandingView). used_where (λ row. is_there row.pending r.pending) v.rows.pendings) c.self.view_is in
    let issues = c.issue.ensures.issues ∙ ap (λ (v : StandingView). v.rows.issues ++ issued_row r ∷ []) c.self.view_is in
    let sessions = c.issue.ensures.rows ∙ ap (λ (v : StandingView). v.rows.sessions) c.self.view_is ∙ sessions_none old.rows.sessions r none in
    let lefts = ap (λ (v : StandingView). v.rows.lefts) c.self.view_is in
    let rounds = ap (λ (v : StandingView). v.rows.rounds) c.self.view_is in
    record {
      rows = λ i. record { pendings = pendings i; issues = issues i; sessions = sessions i; lefts = lefts i; rounds = rounds i };
      next = omega (arith, above_none r none, (fresh_assertion old.rows old.next r c.requires.is).least_is);
    }

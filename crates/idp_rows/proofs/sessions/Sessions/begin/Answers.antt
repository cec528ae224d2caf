use Rattle.std.proofs.Common.{◌≡◌, ◌∙◌, ◌<◌, ◌++◌, ◌∷◌, [], false, List, ℕ, ap, sym, subst, length, arith}
use Rattle.std.specs.List.{list_any}
use Rattle.std.specs.Str.{bytes_eq}
use Rattle.idp_rows.specs.Kept.{AreLast, HaveNumbers, ComeInOrder, SessionsView, cookies, last_place}
use Rattle.idp_rows.specs.declared.row.SessionRow.{SessionRow}
use Rattle.idp_rows.proofs.RowPlaces.{have_more, fresh_id}
use Rattle.idp_rows.proofs.RowOrders.{order_more}
use Rattle.idp_rows.proofs.IssueLaws.{last_begun}
use Rattle.idp_rows.proofs.sessions.Sessions.begin.Goals as goal
use Rattle.idp_rows.proofs.sessions.Sessions.begin.Goals.{After-self}

abbrev key : SessionRow → List ℕ
key row = row.cookie

fresh : (c : After-self) → list_any (λ (r : SessionRow). bytes_eq (key r) c.args.row.cookie) c.self.inside.rows.items ≡ false
fresh c =
    fresh_id key c.self.inside.rows.items c.self.inside.numbers.listed c.self.invariant.0 c.args.number c.args.row.cookie
    (λ k within. subst (λ (v : SessionsView). (k : ℕ) → k < length v.numbers → Rattle.std.specs.List.slice_index v.numbers k < c.args.number) (sym c.self.view_is) c.requires.below k within)
    (omega arith) c.requires.has

pub put-requires-clause-previous : goal.put-requires-clause-previous
put-requires-clause-previous c =
    sym (ap (last_place c.self.inside.issues.rows) c.requires.same ∙ c.self.invariant.1.none c.args.row.cookie (fresh (goal.at.put-requires-clause-previous c).After-self))

pub put-requires-2-clause-below : goal.put-requires-2-clause-below
put-requires-2-clause-below c =
    subst (λ (v : SessionsView). (k : ℕ) → k < length v.numbers → Rattle.std.specs.List.slice_index v.numbers k < c.args.number) (sym c.self.view_is) c.requires.below

pub invariant_of-self : goal.invariant_of-self
invariant_of-self c =
    let rows = c.self.inside.rows.items in
    let issues = c.self.inside.issues.rows in
    let numbers = have_more key rows c.self.inside.numbers.listed c.self.invariant.0 c.args.number c.args.row c.requires.has in
    let begun = last_begun rows c.self.inside.last.items issues c.self.invariant.1 c.args.row c.args.issue c.requires.same (fresh (goal.at.invariant_of-self c).After-self) in
    let last = c.in-Ok-push.ensures.items ∙ ap (λ n. c.self.inside.last.items ++ n ∷ []) (ap length c.rows.ensures) in
    let more = rows ++ c.args.row ∷ [] in
    let places = c.self.inside.last.items ++ length issues ∷ [] in
    let its = c.self.inside.numbers.listed ++ c.args.number ∷ [] in (
      subst (λ ns. HaveNumbers ns (cookies c.push.new.self.items)) (sym c.put-2.ensures.listed)
          (subst (λ rows. HaveNumbers its (cookies rows)) (sym c.in-Ok.ensures.items) numbers),
      subst (λ rows. AreLast rows c.push-2.new.self.items c.put.new.self.rows) (sym c.in-Ok.ensures.items)
          (subst (λ ls. AreLast more ls c.put.new.self.rows) (sym last) (subst (AreLast more places) (sym c.put.ensures.rows) begun)),
      subst (λ rows. ComeInOrder (cookies rows) c.put_next.new.self.count) (sym c.in-Ok.ensures.items)
          (order_more key rows c.self.inside.numbers.listed c.self.inside.places.count c.put_next.new.self.count c.self.invariant.0 c.self.invariant.2 c.args.number c.args.row
          (subst (λ (v : SessionsView). (k : ℕ) → k < length v.numbers → Rattle.std.specs.List.slice_index v.numbers k < c.args.number) (sym c.self.view_is) c.requires.below) (omega arith) c.requires.has c.put_next.ensures.count),
    )

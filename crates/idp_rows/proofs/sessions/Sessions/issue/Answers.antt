use Rattle.std.proofs.Common.{◌≡◌, ◌++◌, ◌∷◌, [], ap, sym, subst, length, set, refl}
use Rattle.idp_rows.specs.Kept.{AreLast, IsRowAt}
use Rattle.idp_rows.specs.declared.row.SessionRow.{SessionRow}
use Rattle.idp_rows.proofs.IssueLaws.{last_issued}
use Rattle.idp_rows.proofs.sessions.Sessions.issue.Goals as goal

pub invariant_of-self : goal.invariant_of-self
invariant_of-self c =
    let rows = c.self.inside.rows.items in
    let issues = c.self.inside.issues.rows in
    let id = c.args.issue.cookie in
    let at = subst (λ rows. IsRowAt (λ (row : SessionRow). row.cookie) rows id c.in-Some.session) (sym (ap (λ v. v.rows) c.self.view_is))
    (subst (λ text. IsRowAt (λ (row : SessionRow). row.cookie) c.args.self.now.rows text c.in-Some.session) c.as_str.ensures c.in-Some.ensures.some) in
    let issued = last_issued rows c.self.inside.last.items issues c.self.invariant.1 id c.in-Some.session at c.args.issue refl in
    let place : length c.rows.result.now ≡ length issues = ap length c.rows.ensures in (
      c.self.invariant.0,
      subst (λ is. AreLast rows (set c.self.inside.last.items c.in-Some.session (length c.rows.result.now)) is) (sym c.put.ensures.rows)
          (subst (λ n. AreLast rows (set c.self.inside.last.items c.in-Some.session n) (issues ++ c.args.issue ∷ [])) (sym place) issued),
      c.self.invariant.2,
    )

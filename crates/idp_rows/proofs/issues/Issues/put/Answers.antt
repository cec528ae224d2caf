use Rattle.std.proofs.Common.{◌∙◌, ap, sym, subst}
use Rattle.idp_rows.specs.Kept.{ArePrevious, last_place}
use Rattle.idp_rows.proofs.IssueLaws.{previous_more}
use Rattle.idp_rows.proofs.issues.Issues.put.Goals as goal

pub invariant_of-self : goal.invariant_of-self
invariant_of-self c =
    let rows = c.self.inside.rows.items in
    let is = c.requires.previous ∙ ap (λ v. last_place v.rows c.args.row.cookie) (sym c.self.view_is) in
    let more = previous_more rows c.self.inside.previous.items c.self.invariant c.args.row c.args.previous is in
    subst (λ rows. ArePrevious rows c.push-2.new.self.items) (sym c.in-Ok.ensures.items)
    (subst (ArePrevious _) (sym c.in-Ok-push.ensures.items) more)

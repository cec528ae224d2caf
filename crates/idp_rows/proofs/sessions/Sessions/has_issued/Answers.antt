use Rattle.std.proofs.Common.{◌<◌, length, subst, sym}
use Rattle.idp_rows.specs.Kept.{SessionsView}
use Rattle.idp_rows.proofs.IssueLaws.{is_last, row_with, last_of_row}
use Rattle.idp_rows.proofs.sessions.Sessions.has_issued.Goals as goal

pub has_issued-requires : goal.has_issued-requires
has_issued-requires c =
    let rows = c.self.inside.rows.items in
    let within : c.args.place < length rows = subst (λ (v : SessionsView). c.args.place < length v.rows) (sym c.self.view_is) c.requires in
    let row = row_with rows c.args.place within in
    let is = last_of_row rows c.self.inside.last.items c.self.inside.issues.rows c.self.invariant.1 c.args.place row.0 row.1 c.index.result.now c.index.ensures in
    (is_last c.self.inside.issues.rows row.0.cookie c.index.result.now is).within

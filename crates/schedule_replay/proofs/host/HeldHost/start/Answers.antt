use Rattle.std.proofs.Common.{ap, ◌∙◌, refl, None, cond}
use Rattle.std.specs.FinMap as map
use Rattle.std.specs.Cmp.{nat_cmp_total}
use Rattle.conn_table.specs.Table.{Table}
use Rattle.conn_table.proofs.Tables.{tied}
use Rattle.schedule_replay.proofs.host.HeldHost.start.Goals as goal

pub started-requires : goal.started-requires
started-requires g c =
    let conn = c.args.conn in
    let old = c.args.self.now.conns.now in
    ap (λ (t : Table). map.get t conn) c.gone.ensures ∙ map.get-remove nat_cmp_total old conn conn
    ∙ ap (λ b. cond b None (map.get old conn)) (tied conn conn refl)

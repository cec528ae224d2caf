use Rattle.std.proofs.Common.{refl, subst, sym, ap, ◌∙◌, None, cond}
use Rattle.std.specs.FinMap as map
use Rattle.std.specs.Cmp.{nat_cmp_total}
use Rattle.conn_table.specs.declared.progress.Start.TheVariants as start
use Rattle.conn_table.specs.Calls.{IsStarted}
use Rattle.conn_table.specs.Table.{Table}
use Rattle.conn_table.proofs.Tables.{tied}
use Rattle.http_wire.specs.Answers.{fixed}
use Rattle.serve_loop.specs.Turns.{Taken, Full, StarvedStart}
use Rattle.serve_loop.proofs.Outgoing.{only_sends}
use Rattle.serve_loop.proofs.turns.Serving.start.Goals as goal

pub started-requires : goal.started-requires
started-requires g c = let conn = c.args.conn in
    let old = c.args.self.now.conns.now in
    ap (λ (t : Table). map.get t conn) c.gone.ensures
    ∙ map.get-remove nat_cmp_total old conn conn ∙ ap (λ b. cond b None (map.get old conn)) (tied conn conn refl)

pub returns-in-Taken-clause-does : goal.returns-in-Taken-clause-does
returns-in-Taken-clause-does g c = (
  Taken c.args.conn,
  refl,
  (
    subst (λ (t : Table). IsStarted t c.args.conn start.Taken c.started.new.self) c.gone.ensures c.in-Taken.ensures,
    refl,
  ),
)

pub returns-in-TableFull-clause-does : goal.returns-in-TableFull-clause-does
returns-in-TableFull-clause-does g c = let conn = c.args.conn in
    let started = subst
    (λ (t : Table). IsStarted t conn start.TableFull c.started.new.self) c.gone.ensures c.in-TableFull.ensures in (
      Full conn,
      refl,
      (
        subst (IsStarted (map.remove c.args.self.now.conns.now conn) conn start.TableFull)
            (sym c.send_page.ensures.conns) started,
        only_sends g.D.Disk.shows g.L.Link.shows g.C.Clock.to_come
            _ c.send_page.new.self c.send_page.ensures.others conn (fixed 503) c.send_page.ensures.sends,
      ),
    )

pub returns-in-NoMemory-clause-does : goal.returns-in-NoMemory-clause-does
returns-in-NoMemory-clause-does g c =
    let started = subst
    (λ (t : Table). IsStarted t c.args.conn start.NoMemory c.started.new.self) c.gone.ensures c.in-NoMemory.ensures in
    let page = c.send_page-in-NoMemory in (
      StarvedStart c.args.conn,
      refl,
      (
        subst (IsStarted (map.remove c.args.self.now.conns.now c.args.conn) c.args.conn start.NoMemory)
            (sym page.ensures.conns) started,
        only_sends g.D.Disk.shows g.L.Link.shows g.C.Clock.to_come _ page.new.self page.ensures.others c.args.conn
            (fixed 52) page.ensures.sends,
      ),
    )

use Rattle.std.proofs.Common.{ℕ, subst, sym, ap, ◌∙◌}
use Rattle.std.specs.Prelude.{IfSome}
use Rattle.std.specs.FinMap as map
use Rattle.crash_disk.specs.Moments.{LeavesOnly}
use Rattle.http_wire.specs.declared.answer.Answer.{Answer}
use Rattle.http_wire.specs.Requests.{Whole, Reads}
use Rattle.http_wire.specs.Views.{answer_bytes}
use Rattle.conn_table.specs.Table.{Table}
use Rattle.serve_loop.specs.Held.{world_in}
use Rattle.serve_loop.specs.Worlds.{OnlySends}
use Rattle.serve_loop.proofs.Outgoing.{only_sends}
use Rattle.serve_loop.proofs.turns.Serving.answer.Goals as goal

pub returns-clause-answers : goal.returns-clause-answers
returns-clause-answers g c =
    let told = world_in g.D.Disk.shows g.L.Link.shows g.C.Clock.to_come c.ask-answer.new.self in
    let now = world_in g.D.Disk.shows g.L.Link.shows g.C.Clock.to_come c.send_answer.new.self in
    let others = c.send_answer.ensures.others in
    let a = c.ask-answer.ensures.asked in
    let sends : OnlySends c.args.conn (answer_bytes c.ask-answer.result) told now = only_sends
    g.D.Disk.shows g.L.Link.shows g.C.Clock.to_come c.ask-answer.new.self c.send_answer.new.self others c.args.conn
    (answer_bytes c.ask-answer.result) c.send_answer.ensures.sends in (
      a.0,
      a.1,
      record {
        request = subst (λ (n : ℕ).
            IfSome (map.get c.args.self.now.conns.now n) (λ bytes. Reads bytes (Whole a.0.request))) (sym a.1) a.3;
        told = told;
        asks = a.4;
        sends = subst (λ (n : ℕ). OnlySends n (answer_bytes a.0.answer) told now)
            (sym a.1) (subst (λ (r : Answer). OnlySends c.args.conn (answer_bytes r) told now) (sym a.2) sends);
        gone = c.gone.ensures ∙ ap (λ (t : Table). map.remove t c.args.conn) (c.send_answer.ensures.conns
            ∙ c.ask-answer.ensures.conns) ∙ ap (λ (n : ℕ). map.remove c.args.self.now.conns.now n) (sym a.1);
      },
      subst (λ disk. LeavesOnly g.D.Disk.shows
          c.args.self.now.disk.now disk (g.N.Node.rules.leaves a.0.node a.0.disk a.0.request a.0.now)) (sym others.disk) a.5,
    )

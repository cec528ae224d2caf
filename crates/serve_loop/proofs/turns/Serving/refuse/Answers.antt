use Rattle.std.proofs.Common.{ap, ◌∙◌}
use Rattle.std.specs.FinMap as map
use Rattle.http_wire.specs.Answers.{fixed}
use Rattle.conn_table.specs.Table.{Table}
use Rattle.serve_loop.proofs.Outgoing.{only_sends}
use Rattle.serve_loop.proofs.turns.Serving.refuse.Goals as goal

pub returns-clause-lets_go : goal.returns-clause-lets_go
returns-clause-lets_go g c = record {
  sends = only_sends g.D.Disk.shows g.L.Link.shows g.C.Clock.to_come c.args.self.now
      c.send_page.new.self c.send_page.ensures.others c.args.conn (fixed c.args.code) c.send_page.ensures.sends;
  gone = c.gone.ensures ∙ ap (λ (t : Table). map.remove t c.args.conn) c.send_page.ensures.conns;
}

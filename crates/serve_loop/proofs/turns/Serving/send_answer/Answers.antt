use Rattle.std.proofs.Common.{ℕ, List, sym, ap, ◌∙◌, subst}
use Rattle.http_wire.specs.Views.{answer_bytes}
use Rattle.serve_loop.specs.Worlds.{GoesOut}
use Rattle.serve_loop.proofs.turns.Serving.send_answer.Goals as goal

pub returns-in-Fixed-clause-sends : goal.returns-in-Fixed-clause-sends
returns-in-Fixed-clause-sends g c =
    subst (λ (bytes : List ℕ). GoesOut c.args.conn bytes (g.L.Link.shows c.args.self.now.link.now).told (g.L.Link.shows
    c.send_page.new.self.link.now).told (g.L.Link.shows c.args.self.now.link.now).send_faults (g.L.Link.shows
    c.send_page.new.self.link.now).send_faults) (sym (ap answer_bytes c.in-Fixed.is)) c.send_page.ensures.sends

pub returns-in-Full-clause-sends : goal.returns-in-Full-clause-sends
returns-in-Full-clause-sends g c = subst (λ (bytes : List ℕ). GoesOut
    c.args.conn bytes (g.L.Link.shows c.args.self.now.link.now).told (g.L.Link.shows c.send.new.self.link.now).told
    (g.L.Link.shows c.args.self.now.link.now).send_faults (g.L.Link.shows c.send.new.self.link.now).send_faults)
    (c.as_slice.ensures ∙ sym (ap answer_bytes c.in-Full.is)) c.send.ensures.sends

use Rattle.std.proofs.Common.{◌≡◌, ℕ, List, take, drop, subst}
use Rattle.http_wire.specs.Answers.{fixed}
use Rattle.serve_loop.specs.Worlds.{GoesOut}
use Rattle.serve_loop.proofs.Outgoing.{front_of}
use Rattle.serve_loop.proofs.turns.Serving.send_page.Goals as goal

pub returns-clause-sends : goal.returns-clause-sends
returns-clause-sends g c = let n = c.put_fixed-end.result in
    let is : take n c.put_fixed-end.new.out ≡ fixed c.args.code = front_of n c.put_fixed-end.new.out
    (fixed c.args.code) (drop n _) c.put_fixed-end.ensures.text c.put_fixed-end.ensures.length in
    subst (λ (bytes : List ℕ). GoesOut c.args.conn bytes (g.L.Link.shows c.args.self.now.link.now).told
    (g.L.Link.shows c.send.new.self.link.now).told (g.L.Link.shows c.args.self.now.link.now).send_faults
    (g.L.Link.shows c.send.new.self.link.now).send_faults) is c.send.ensures.sends

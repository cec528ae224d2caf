use Rattle.std.proofs.Common.{◌≡◌, ◌≤◌, length}
use Rattle.serve_loop.specs.Held.{SameObjects}
use Rattle.serve_loop.specs.Worlds.{IsAnswered}
use Rattle.serve_loop.proofs.Rounds.{Since}
use Rattle.serve_loop.proofs.turns.Serving.run.Given as goal

abbrev pub invariant-loop-events : goal.invariant-loop-events
invariant-loop-events g l = let first = l.initial.self in
    record {
      since : Since (IsAnswered g.N.Node.rules)
          g.N.Node.rules.leaves g.D.Disk.shows g.L.Link.shows g.C.Clock.to_come first l.events l.self;
      own : g.N.Node.rules.own l.self.node.now (g.D.Disk.shows l.self.disk.now).told;
      faults : (g.D.Disk.shows first.disk.now).faults ≤ (g.D.Disk.shows l.self.disk.now).faults;
      link_faults : (g.L.Link.shows first.link.now).faults ≤ (g.L.Link.shows l.self.link.now).faults;
      objects : SameObjects first l.self;
      room : length l.into ≡ 65536;
    }

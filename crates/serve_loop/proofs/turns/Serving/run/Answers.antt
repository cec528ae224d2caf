use Rattle.std.proofs.Common.{refl, ◌≡◌, ◌<◌, length, true, false, Ok, Err, subst, sym, ◌∙◌, arith, rules}
use Rattle.std.specs.Prelude.{Result}
use Rattle.serve_loop.specs.declared.served.Served.{Served}
use Rattle.serve_loop.specs.declared.served.ServeFault.{ServeFault}
use Rattle.serve_loop.specs.declared.served.ServeFault.TheVariants.{LinkFault}
use Rattle.serve_loop.specs.Serving.{Ends}
use Rattle.serve_loop.specs.Held.{world_in}
use Rattle.serve_loop.specs.Worlds.{IsAnswered}
use Rattle.serve_loop.proofs.Rounds.{none_done, one_more_done, same_objects, rose_before, ended}
use Rattle.serve_loop.proofs.turns.Serving.run.Goals as goal

pub loop-events-init : goal.loop-events-init
loop-events-init g c = record {
  since =
      none_done (IsAnswered g.N.Node.rules) g.N.Node.rules.leaves g.D.Disk.shows g.L.Link.shows
      g.C.Clock.to_come g.met.D.Disk.counts_now g.met.D.Disk.only_now c.args.self.now c.requires.none_kept;
  own = c.requires.own;
  faults = omega arith;
  link_faults = omega arith;
  objects = record { node = refl; link = refl; disk = refl; clock = refl };
  room = c.requires.room;
}

pub loop-events-preserved : goal.loop-events-preserved
loop-events-preserved g c = let first = c.args.self.now in
    let old = c.loop-events.self in
    let new = c.turn.new.self in
    let held = c.loop-events.invariant in
    let turn = rw c.if-not-branch.false at c.in_ok-turn.ensures.ok in
    record {
      since = one_more_done (IsAnswered g.N.Node.rules) g.N.Node.rules.leaves
          g.D.Disk.shows g.L.Link.shows g.C.Clock.to_come g.met.D.Disk.counts_now
          g.met.D.Disk.only_now first c.loop-events.events old new turn.1 turn.0 held.since turn.2 turn.3 turn.4;
      own = c.turn.ensures.own;
      faults = omega (arith, held.faults, c.turn.ensures.disk_faults);
      link_faults = omega (arith, held.link_faults, c.turn.ensures.faults.never_falls);
      objects = same_objects first old new held.objects c.turn.ensures.objects;
      room = c.turn.auto.into ∙ held.room;
    }

pub returns-in_err-turn : goal.returns-in_err-turn
returns-in_err-turn g c = let first = c.args.self.now in
    let old = c.loop-events.self in
    let new = c.turn.new.self in
    let held = c.loop-events.invariant in
    let same = c.in_err-turn.ensures.err in
    let counts = c.in_err-turn.ensures.faults in
    let result = c.from_residual.result in
    let fault : result ≡ Err LinkFault = search rules in
    let more : length held.since.turns < c.args.budget = omega (arith, held.since.counted, c.loop-events-test.true) in
    let at = world_in g.D.Disk.shows g.L.Link.shows g.C.Clock.to_come in
    record {
      serves = ended (IsAnswered g.N.Node.rules) g.N.Node.rules.leaves g.D.Disk.shows
          g.L.Link.shows g.C.Clock.to_come first old new c.loop-events.events c.args.budget result held.since same.1
          (subst (λ (r : Result Served ServeFault). Ends c.args.budget held.since.turns (at old) r (at new))
          (sym fault) (more, same.0));
      own = c.turn.ensures.own;
      disk_faults = omega (arith, held.faults, c.turn.ensures.disk_faults);
      link_faults = record {
        never_falls = omega (arith, held.link_faults, counts.never_falls);
        failed = λ e. rose_before (g.L.Link.shows first.link.now).faults
            (g.L.Link.shows old.link.now).faults (g.L.Link.shows new.link.now).faults held.link_faults counts.failed;
      };
      memory = λ e. cc (fault);
      objects = same_objects first old new held.objects c.turn.ensures.objects;
    }

pub returns-then-not-branch : goal.returns-then-not-branch
returns-then-not-branch g c = let first = c.args.self.now in
    let old = c.loop-events.self in
    let new = c.turn.new.self in
    let held = c.loop-events.invariant in
    let stop = rw c.if-not-branch.true at c.in_ok-turn.ensures.ok in
    let more : length held.since.turns < c.args.budget = omega (arith, held.since.counted, c.loop-events-test.true) in
    record {
      serves = ended (IsAnswered g.N.Node.rules) g.N.Node.rules.leaves
          g.D.Disk.shows g.L.Link.shows g.C.Clock.to_come first old new c.loop-events.events c.args.budget
          (Ok (record { events = c.loop-events.events; stopped = true })) held.since stop.1
          (sym held.since.counted, (more, stop.0));
      own = c.turn.ensures.own;
      disk_faults = omega (arith, held.faults, c.turn.ensures.disk_faults);
      link_faults = record {
        never_falls = omega (arith, held.link_faults, c.turn.ensures.faults.never_falls);
        failed = λ e. absurd (cc);
      };
      memory = λ e. cc;
      objects = same_objects first old new held.objects c.turn.ensures.objects;
    }

pub returns : goal.returns
returns g c = let last = c.loop-events.self in
    let held = c.loop-events.invariant in
    let all : length held.since.turns ≡ c.args.budget = omega
    (arith, held.since.counted, c.loop-events-test.false, c.loop-events.auto.events-end) in
    record {
      serves = ended (IsAnswered g.N.Node.rules) g.N.Node.rules.leaves
          g.D.Disk.shows g.L.Link.shows g.C.Clock.to_come c.args.self.now last last c.loop-events.events c.args.budget
          (Ok (record { events = c.args.budget; stopped = false })) held.since refl (sym all, (all, refl));
      own = held.own;
      disk_faults = held.faults;
      link_faults = record { never_falls = held.link_faults; failed = λ e. absurd (cc) };
      memory = λ e. cc;
      objects = held.objects;
    }

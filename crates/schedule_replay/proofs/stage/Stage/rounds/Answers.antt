use Rattle.std.proofs.Common.{◌≡◌, ◌+◌, suc, subst, arith, ℕ}
use Rattle.schedule_replay.specs.Deployments.{Rounds}
use Rattle.schedule_replay.specs.Views.{sending_view, stage_in}
use Rattle.schedule_replay.proofs.Arriving.{same_stage}
use Rattle.schedule_replay.proofs.stage.Stage.rounds.Goals as goal

pub loop-round-preserved : goal.loop-round-preserved
loop-round-preserved g c =
    let sp = g.S.Node.rules in
    let idp = g.P.Node.rules in
    let first = c.args.self.now in
    let round = c.loop-round.round in
    let new = c.arrive_at-in-loop-round.new.self in
    let next : suc round ≡ round + 1 = omega arith in
    record {
      done =
          subst (λ (n : ℕ). Rounds sp idp c.args.number c.args.size (sending_view c.args.first) (sending_view c.args.second) n (stage_in first) (stage_in new))
          next
          (stage_in c.loop-round.self, stage_in c.arrive_at.new.self, c.loop-round.invariant.done, c.in_ok-arrive_at.ensures.ok, c.in_ok-arrive_at-2.ensures.ok);
      own = c.in_ok-arrive_at-2.ensures.own;
      objects =
          same_stage first c.arrive_at.new.self new
          (same_stage first c.loop-round.self c.arrive_at.new.self c.loop-round.invariant.objects c.in_ok-arrive_at.ensures.objects)
          c.in_ok-arrive_at-2.ensures.objects;
    }

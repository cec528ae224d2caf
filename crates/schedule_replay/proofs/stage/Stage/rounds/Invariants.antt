use Rattle.schedule_replay.specs.Deployments.{Rounds}
use Rattle.schedule_replay.specs.Views.{OwnsBoth, SameStage, sending_view, stage_in}
use Rattle.schedule_replay.proofs.stage.Stage.rounds.Given as goal

abbrev pub invariant-loop-round : goal.invariant-loop-round
invariant-loop-round g l =
    let sp = g.S.Node.rules in
    let idp = g.P.Node.rules in
    record {
      done : Rounds sp idp l.number l.size (sending_view l.first) (sending_view l.second) l.round (stage_in l.initial.self) (stage_in l.self);
      own : OwnsBoth sp idp (stage_in l.self);
      objects : SameStage l.initial.self l.self;
    }

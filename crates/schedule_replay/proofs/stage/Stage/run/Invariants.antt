use Rattle.std.proofs.Common.{◌≡◌, ◌≤◌, ℕ, List}
use Rattle.saml_outside.specs.Sinks.{then_bytes}
use Rattle.schedule_replay.specs.Runs.{shown}
use Rattle.schedule_replay.specs.Steps.{Replays}
use Rattle.schedule_replay.specs.Views.{OwnsBoth, SameStage, stage_in}
use Rattle.schedule_replay.proofs.stage.Stage.run.Given as goal

abbrev pub invariant-loop-i : goal.invariant-loop-i
invariant-loop-i g l =
    let sp = g.S.Node.rules in
    let idp = g.P.Node.rules in
    record {
      done :
          (text : List ℕ) × Replays sp idp l.i l.steps (stage_in l.initial.self) text (stage_in l.self)
          × (g.K.Sink.taken l.out ≡ then_bytes (g.K.Sink.taken l.initial.out) (shown l.quiet text));
      own : OwnsBoth sp idp (stage_in l.self);
      objects : SameStage l.initial.self l.self;
      faults : g.K.Sink.faults_of l.initial.out ≤ g.K.Sink.faults_of l.out;
    }

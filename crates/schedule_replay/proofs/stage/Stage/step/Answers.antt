use Rattle.std.proofs.Common.{subst, sym}
use Rattle.schedules.specs.declared.step.Step.{Step}
use Rattle.schedule_replay.specs.Steps.{Does}
use Rattle.schedule_replay.specs.Views.{stage_in}
use Rattle.schedule_replay.proofs.Arriving.{where_ok}
use Rattle.schedule_replay.proofs.stage.Stage.step.Goals as goal

pub returns-in-Pair-clause-ok : goal.returns-in-Pair-clause-ok
returns-in-Pair-clause-ok g c =
    let sp = g.S.Node.rules in
    let idp = g.P.Node.rules in
    where_ok c.pair.result c.pair.ensures.ok
    (λ did. subst (λ (step : Step). Does sp idp c.args.number step (stage_in c.args.self.now) (stage_in c.pair.new.self)) (sym c.in-Pair.is) did)

use Rattle.std.proofs.Common.{subst}
use Rattle.schedule_replay.specs.Deployments.{Deployment, Starts}
use Rattle.schedule_replay.specs.Views.{sending_view, stage_in}
use Rattle.schedule_replay.proofs.Arriving.{where_ok}
use Rattle.schedule_replay.proofs.stage.Stage.exchange.Goals as goal

pub returns-clause-ok : goal.returns-clause-ok
returns-clause-ok g c =
    let sp = g.S.Node.rules in
    let idp = g.P.Node.rules in
    let one = stage_in c.start.new.self in
    where_ok c.rounds.result c.rounds.ensures.ok
    (λ came. record {
      one = one;
      both = stage_in c.start-2.new.self;
      starts =
          subst (λ (d : Deployment g.row.S.Denot g.row.P.Denot). Starts sp idp (sending_view c.args.first) d one) c.in_ok-disconnect.ensures.ok
          c.in_ok-start.ensures.ok;
      starts_other = c.in_ok-start-2.ensures.ok;
      rounds = came.0;
      all = came.1;
      arrive = came.2;
    })

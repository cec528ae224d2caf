use Rattle.std.proofs.Common.{Option, sym, ap, subst}
use Rattle.std.specs.Option.{option_map}
use Rattle.schedule_replay.specs.Deployments.{Hears}
use Rattle.schedule_replay.specs.Hosts.{Outcome}
use Rattle.schedule_replay.specs.Views.{outcome_view, stage_in}
use Rattle.schedule_replay.proofs.Arriving.{where_ok}
use Rattle.schedule_replay.proofs.stage.Stage.arrive.Goals as goal

pub returns-in-Some-clause-ok : goal.returns-in-Some-clause-ok
returns-in-Some-clause-ok g c =
    let sending = c.args.sending.now in
    let behind = stage_in c.bring.new.self in
    let after = stage_in c.hear.new.self in
    let is = ap (λ reply. option_map outcome_view reply) c.in-Some.is in
    where_ok c.hear.result c.hear.ensures.ok
    (λ hears. record {
      known = option_map outcome_view c.in_ok-reply.field-0;
      behind = behind;
      brings = c.in_ok-reply.ensures.brings;
      hears = subst (λ (o : Option Outcome). Hears c.args.number sending o behind after) (sym is) hears;
    })

pub returns-in-None-clause-ok : goal.returns-in-None-clause-ok
returns-in-None-clause-ok g c =
    let sending = c.args.sending.now in
    let behind = stage_in c.bring.new.self in
    let after = stage_in c.tell_stop.new.self in
    let is = ap (λ reply. option_map outcome_view reply) c.in-None.is in
    where_ok c.tell_stop.result c.tell_stop.ensures.ok
    (λ hears. record {
      known = option_map outcome_view c.in_ok-reply.field-0;
      behind = behind;
      brings = c.in_ok-reply.ensures.brings;
      hears = subst (λ (o : Option Outcome). Hears c.args.number sending o behind after) (sym is) hears;
    })

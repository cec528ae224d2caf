use Rattle.std.proofs.Common.{◌≡◌, ◌+◌, ◌++◌, [], ap, refl, sym, ◌∙◌, subst, arith, rules, length, Err}
use Rattle.std.proofs.lemmas.Option.{slice_get_read}
use Rattle.schedule_replay.specs.Deployments.{Deployment}
use Rattle.schedule_replay.specs.Runs.{shown}
use Rattle.schedule_replay.specs.Steps.{Replays}
use Rattle.schedule_replay.specs.Views.{stage_in}
use Rattle.schedule_replay.proofs.Arriving.{same_stage}
use Rattle.schedule_replay.proofs.Replaying.{one_more, printed_more, printed_part}
use Rattle.schedule_replay.proofs.stage.Stage.run.Goals as goal

pub loop-i-preserved : goal.loop-i-preserved
loop-i-preserved g c =
    let sp = g.S.Node.rules in
    let idp = g.P.Node.rules in
    let first = c.args.self.now in
    let taken = g.K.Sink.taken in
    let i = c.loop-i.i in
    let steps = c.args.steps.now in
    let held = c.loop-i.invariant in
    let did = c.in_ok-play.ensures.ok in
    let is = slice_get_read steps (length steps) i c.index-steps-i.result refl c.loop-i-test.true c.index-steps-i.is in
    let replays = one_more sp idp i steps c.index-steps-i.result (stage_in first) (stage_in c.loop-i.self) did.0 held.done.0 held.done.1 is did.1 did.2 in
    record {
      done = (
        held.done.0 ++ did.0.lines,
        subst (λ (d : Deployment g.row.S.Denot g.row.P.Denot). Replays sp idp (i + 1) steps (stage_in first) (held.done.0 ++ did.0.lines) d) (sym did.3) replays,
        printed_more c.args.quiet (taken c.args.out.now) (taken c.loop-i.out) (taken c.play.new.out) held.done.0 did.0.lines held.done.2 did.4,
      );
      own = c.in_ok-play.ensures.own;
      objects = same_stage first c.loop-i.self c.play.new.self held.objects c.in_ok-play.ensures.objects;
      faults = omega (arith, held.faults, c.in_ok-play.ensures.never_falls);
    }

pub returns-in_err-play-clause-write_fault : goal.returns-in_err-play-clause-write_fault
returns-in_err-play-clause-write_fault g c =
    let sp = g.S.Node.rules in
    let idp = g.P.Node.rules in
    let same : c.from_residual.result ≡ Err c.in_err-play.field-0.0 = search rules in
    let first = c.args.self.now in
    let taken = g.K.Sink.taken in
    let i = c.loop-i.i in
    let steps = c.args.steps.now in
    let held = c.loop-i.invariant in
    let is = slice_get_read steps (length steps) i c.index-steps-i.result refl c.loop-i-test.true c.index-steps-i.is in
    λ fault.
    let did = c.play.ensures.write_fault (c.in_err-play.was ∙ sym same ∙ fault) in (
      i + 1,
      held.done.0 ++ did.0.lines,
      record did.0 { lines = [] },
      length (shown c.args.quiet held.done.0) + did.1,
      one_more sp idp i steps c.index-steps-i.result (stage_in first) (stage_in c.loop-i.self) did.0 held.done.0 held.done.1 is did.2 did.3,
      record {
        sp = ap (λ (d : Deployment g.row.S.Denot g.row.P.Denot). d.sp) did.4;
        idp = ap (λ (d : Deployment g.row.S.Denot g.row.P.Denot). d.idp) did.4;
      },
      printed_part c.args.quiet (taken c.args.out.now) (taken c.loop-i.out) (taken c.play.new.out) held.done.0 did.0.lines did.1 held.done.2 did.5,
    )

pub returns-in_err-play-clause-no_memory : goal.returns-in_err-play-clause-no_memory
returns-in_err-play-clause-no_memory g c =
    let same : c.from_residual.result ≡ Err c.in_err-play.field-0.0 = search rules in
    let held = c.loop-i.invariant in
    λ fault. (
      c.loop-i.i,
      held.done.0,
      stage_in c.loop-i.self,
      held.done.1,
      c.play.ensures.no_memory (c.in_err-play.was ∙ sym same ∙ fault) ∙ held.done.2,
    )

use Rattle.std.proofs.Common.{◌≡◌, ap, refl, sym, ◌∙◌, subst, inr, rules, length, Err, Result}
use Rattle.std.specs.Prelude.{take}
use Rattle.schedule_replay.specs.declared.fault.ReplayFault.{ReplayFault}
use Rattle.schedule_replay.specs.declared.fault.ReplayFault.TheVariants.{NoMemory}
use Rattle.schedule_replay.specs.declared.tally.Tally.{Tally}
use Rattle.schedule_replay.specs.Lines.{summary}
use Rattle.schedule_replay.specs.Runs.{shown}
use Rattle.schedule_replay.specs.Views.{HasNodes, stage_in}
use Rattle.schedule_replay.proofs.Replaying.{Ended, ends_early, printed_last}
use Rattle.schedule_replay.proofs.stage.Stage.perform.Goals as goal

pub returns-in_err-run-clause-ends : goal.returns-in_err-run-clause-ends
returns-in_err-run-clause-ends g c =
    let sp = g.S.Node.rules in
    let idp = g.P.Node.rules in
    let fault = c.in_err-run.field-0.0 in
    let same : c.from_residual.result ≡ Err fault = search rules in
    let first = stage_in c.args.self.now in
    let now = stage_in c.run.new.self in
    let before = g.K.Sink.taken c.args.out.now in
    let after = g.K.Sink.taken c.run.new.out in
    subst (λ (r : Result Tally ReplayFault). Ended sp idp c.args.steps.now c.args.quiet first (λ last. HasNodes last now) r before after) (sym same)
    (ends_early sp idp c.args.steps.now c.args.quiet first now fault before after
    (λ is. c.run.ensures.write_fault (c.in_err-run.was ∙ ap (λ (f : ReplayFault). Err f) is))
    (λ is. c.run.ensures.no_memory (c.in_err-run.was ∙ ap (λ (f : ReplayFault). Err f) is)))

pub returns-in_err-line-clause-ends : goal.returns-in_err-line-clause-ends
returns-in_err-line-clause-ends g c =
    let sp = g.S.Node.rules in
    let idp = g.P.Node.rules in
    let same : c.from_residual-in_err-line.result ≡ Err NoMemory = search rules in
    let now = stage_in c.run.new.self in
    let did = c.in_ok-run.ensures.ok in
    subst
    (λ (r : Result Tally ReplayFault). Ended sp idp c.args.steps.now c.args.quiet (stage_in c.args.self.now) (λ last. HasNodes last now) r
    (g.K.Sink.taken c.args.out.now) (g.K.Sink.taken c.run.new.out))
    (sym same) (record { done = length c.args.steps.now; text = did.0; last = now; replays = did.1 }, did.2, λ fed. absurd (fed refl))

pub returns-in-Ok-clause-ends : goal.returns-in-Ok-clause-ends
returns-in-Ok-clause-ends g c =
    let now = stage_in c.run.new.self in
    let did = c.in_ok-run.ensures.ok in
    let taken = g.K.Sink.taken in (
      record { done = length c.args.steps.now; text = did.0; last = now; replays = did.1 },
      (
        refl,
        refl,
        printed_last (taken c.args.out.now) (taken c.run.new.out) (taken c.put.new.self) (shown c.args.quiet did.0) c.as_bytes.result.now (summary now.tally)
            did.2 c.in-Ok.ensures.puts (c.as_bytes.ensures.value ∙ c.in_ok-line.ensures),
      ),
      λ fed. record { sp = refl; idp = refl },
    )

pub returns-clause-ends : goal.returns-clause-ends
returns-clause-ends g c =
    let now = stage_in c.run.new.self in
    let did = c.in_ok-run.ensures.ok in
    let taken = g.K.Sink.taken in
    let n = c.in-Err.field-0.sent in (
      record { done = length c.args.steps.now; text = did.0; last = now; replays = did.1 },
      (
        n,
        inr (
          refl,
          printed_last (taken c.args.out.now) (taken c.run.new.out) (taken c.put.new.self) (shown c.args.quiet did.0) (take n c.as_bytes.result.now)
              (take n (summary now.tally)) did.2 c.in-Err.ensures.puts.1 (ap (take n) (c.as_bytes.ensures.value ∙ c.in_ok-line.ensures)),
        ),
      ),
      λ fed. record { sp = refl; idp = refl },
    )

use Rattle.std.proofs.Common.{◌≡◌, refl, ℕ, List, subst, sym, ap, ◌∙◌}
use Rattle.std.specs.Prelude.{take}
use Rattle.saml_outside.specs.Sinks.{then_bytes}
use Rattle.schedule_replay.specs.Runs.{shown}
use Rattle.schedule_replay.specs.Views.{stage_in}
use Rattle.schedule_replay.proofs.stage.Stage.play.Goals as goal

pub returns-in_err-print-clause-write_fault : goal.returns-in_err-print-clause-write_fault
returns-in_err-print-clause-write_fault g c =
    let after = stage_in c.step.new.self in
    let taken = g.K.Sink.taken in
    let part = c.in_err-print.ensures.part in
    λ fault. (
      after,
      part.0,
      c.in_ok-step.ensures.ok,
      sym c.is_starved.ensures ∙ c.if-is_starved.false,
      refl,
      subst (λ (lines : List ℕ). taken c.print.new.out ≡ then_bytes (taken c.args.out.now) (take part.0 (shown c.args.quiet lines))) c.as_slice.ensures.value part.1,
    )

pub returns-clause-ok : goal.returns-clause-ok
returns-clause-ok g c =
    let after = stage_in c.step.new.self in
    let taken = g.K.Sink.taken in (
      after,
      c.in_ok-step.ensures.ok,
      sym c.is_starved.ensures ∙ c.if-is_starved.false,
      ap (λ (lines : List ℕ). record after { lines = lines }) c.clear.ensures.items,
      subst (λ (lines : List ℕ). taken c.print.new.out ≡ then_bytes (taken c.args.out.now) (shown c.args.quiet lines)) c.as_slice.ensures.value
          c.in_ok-print.ensures.ok,
    )

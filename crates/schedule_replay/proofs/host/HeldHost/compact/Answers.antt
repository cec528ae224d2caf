use Rattle.std.proofs.Common.{refl, sym, ap, ◌∙◌, None, Some}
use Rattle.schedule_replay.specs.Views.{host_in}
use Rattle.schedule_replay.proofs.host.HeldHost.compact.Goals as goal

pub returns-then-stopped-clause-ends : goal.returns-then-stopped-clause-ends
returns-then-stopped-clause-ends g c =
    let a = c.in_ok-shown.ensures.compacts in (
      None,
      refl,
      (a.0, host_in c.compaction.new.self, a.2, sym c.stopped.ensures ∙ c.if-stopped.true, c.in_ok-recover.ensures.recovers),
    )

pub returns-clause-ends : goal.returns-clause-ends
returns-clause-ends g c =
    let a = c.in_ok-shown.ensures.compacts in
    (Some a.0, ap (λ words. Some words) a.1, (a.2, sym c.stopped.ensures ∙ c.if-stopped.false))

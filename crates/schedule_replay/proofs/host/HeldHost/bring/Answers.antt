use Rattle.std.proofs.Common.{sym, ◌∙◌}
use Rattle.schedule_replay.specs.Views.{host_in, outcome_view}
use Rattle.schedule_replay.proofs.host.HeldHost.bring.Goals as goal

pub returns-then-stopped-clause-brings : goal.returns-then-stopped-clause-brings
returns-then-stopped-clause-brings g c = (
  outcome_view c.in_ok-reply.reply,
  host_in c.take.new.self,
  c.in_ok-reply.ensures.takes,
  sym c.stopped.ensures ∙ c.if-stopped.true,
  c.in_ok-recover.ensures.recovers,
)

pub returns-clause-brings : goal.returns-clause-brings
returns-clause-brings g c = (c.in_ok-reply.ensures.takes, sym c.stopped.ensures ∙ c.if-stopped.false)

use Rattle.schedules.proofs.Making.{AreMade}
use Rattle.schedules.proofs.make.make_schedule.Given as goal

abbrev pub invariant-loop-i : goal.invariant-loop-i
invariant-loop-i l = AreMade l.i l.start l.number l.steps.items

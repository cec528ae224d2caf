use Rattle.std.proofs.Common.{arith, ap}
use Rattle.gate_journal.specs.Format.{sizes}
use Rattle.gate_journal.proofs.Payloads.{sizes-take}
use Rattle.gate_journal.proofs.journal.Journal.place.Goals as goal

pub size_before-requires : goal.size_before-requires
size_before-requires c = omega (arith, ap sizes c.deref.ensures.value, sizes-take c.args.i c.deref.result.now, c.self.invariant.0, c.self.invariant.1)

pub overflow_add-result : goal.overflow_add-result
overflow_add-result c = omega (arith, ap sizes c.deref.ensures.value, sizes-take c.args.i c.deref.result.now, c.self.invariant.0, c.self.invariant.1, c.size_before.ensures)

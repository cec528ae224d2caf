use Rattle.std.proofs.Common.{◌≡◌, take}
use Rattle.gate_journal.specs.Format.{sizes}
use Rattle.gate_journal.proofs.journal.size_before.Given as goal

abbrev pub invariant-loop-record : goal.invariant-loop-record
invariant-loop-record l = l.size ≡ sizes (take l.record-index l.records)

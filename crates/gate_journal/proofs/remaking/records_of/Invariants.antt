use Rattle.std.proofs.Common.{◌≡◌, take}
use Rattle.gate_journal.proofs.remaking.records_of.Given as goal

abbrev pub invariant-loop-payload : goal.invariant-loop-payload
invariant-loop-payload l = l.records.items ≡ take l.payload-index l.payloads

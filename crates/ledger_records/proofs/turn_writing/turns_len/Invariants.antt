use Rattle.std.proofs.Common.{◌≡◌, ◌+◌, length, take}
use Rattle.std.specs.List.{flat_map}
use Rattle.ledger_records.specs.Fields.{turn}
use Rattle.ledger_records.specs.Writing.{capped}
use Rattle.ledger_records.proofs.turn_writing.turns_len.Given as goal

abbrev pub invariant-loop-value : goal.invariant-loop-value
invariant-loop-value l = l.len ≡ capped (4 + length (flat_map turn (take l.value-index l.value-items)))

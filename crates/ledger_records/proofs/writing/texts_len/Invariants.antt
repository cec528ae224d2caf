use Rattle.std.proofs.Common.{◌≡◌, ◌+◌, length, take}
use Rattle.std.specs.List.{flat_map}
use Rattle.ledger_records.specs.Fields.{text}
use Rattle.ledger_records.specs.Writing.{capped}
use Rattle.ledger_records.proofs.writing.texts_len.Given as goal

abbrev pub invariant-loop-value : goal.invariant-loop-value
invariant-loop-value l = l.len ≡ capped (4 + length (flat_map text (take l.value-index l.value-items)))

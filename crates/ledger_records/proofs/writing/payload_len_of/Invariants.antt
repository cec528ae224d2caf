use Rattle.std.proofs.Common.{◌≡◌, ◌+◌, length, take}
use Rattle.std.specs.Prelude.{map}
use Rattle.ledger_records.specs.Fields.{bytes_of}
use Rattle.ledger_records.specs.Writing.{field_view, capped}
use Rattle.ledger_records.proofs.writing.payload_len_of.Given as goal

abbrev pub invariant-loop-field : goal.invariant-loop-field
invariant-loop-field l = l.len ≡ capped (1 + length (bytes_of (map field_view (take l.field-index l.fields))))

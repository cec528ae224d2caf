use Rattle.std.proofs.Common.{◌≡◌, ◌∷◌, take}
use Rattle.std.specs.Prelude.{map}
use Rattle.ledger_records.specs.Fields.{bytes_of, AreFields}
use Rattle.ledger_records.specs.Writing.{field_view}
use Rattle.ledger_records.proofs.writing.payload_of.Given as goal

-- the fields before the index are put
abbrev pub invariant-loop-field : goal.invariant-loop-field
invariant-loop-field l = record {
  put : l.out ≡ l.kind ∷ bytes_of (map field_view (take l.field-index l.fields));
  held : AreFields (map field_view (take l.field-index l.fields));
}

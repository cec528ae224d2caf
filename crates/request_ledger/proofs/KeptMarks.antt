-- Records with marks that say which are kept.
use Rattle.std.proofs.Common.{List}
use Rattle.ledger_records.specs.declared.sp_record.SpRecord.{SpRecord}
use Rattle.record_ledger.specs.Marks as marks
use Rattle.request_ledger.specs.Record.{request_rules}

-- a record, behind whether it is kept
abbrev pub Marked : Type 0
Marked = marks.Marked SpRecord

-- those that name this record are kept just where it is
abbrev pub NamersOf : Marked → List Marked → Type 0
NamersOf = marks.NamersOf request_rules

abbrev pub AreClosed : List Marked → Type 0
AreClosed = marks.AreClosed request_rules

-- Which payloads are records of an identity provider's ledger.
use Rattle.std.specs.Prelude.{ℕ, Bool, List}
use Rattle.std.specs.List.{flat_map}
use Rattle.ledger_records.specs.declared.idp_record.IdpRecord.{IdpRecord}
use Rattle.ledger_records.specs.Found.{idp_record}
use Rattle.ledger_records.specs.IdpRecord.{idp_bytes}
use Rattle.ledger_rules.specs.Numbers.{above}
use Rattle.record_ledger.specs.Rules.{RecordRules}
use Rattle.record_ledger.specs.Rules as any
use Rattle.idp_rows.specs.RowsOf.{rows_of, rows_of_kind}
use Rattle.idp_rows.specs.Record.{drawn, is_next}
use Rattle.idp_ledger.specs.Naming.{has_visible, names}

-- the least number above all that these records drew
abbrev pub next_of : List IdpRecord → ℕ
next_of records = above (flat_map drawn records)

-- a record of the ledger behind these
unfoldable pub is_record : List IdpRecord → IdpRecord → Bool
is_record before r = is_next (rows_of before) (next_of before) r

-- What is said of these records. A payload is the same record in both versions of a journal.
abbrev pub idp_rules : RecordRules IdpRecord
idp_rules = record {
  bytes = λ version r. idp_bytes r;
  found = λ version payload. idp_record payload;
  is_record = is_record;
  drawn = drawn;
  rows_of_kind = λ records r. rows_of_kind (rows_of records) r;
  has_visible = has_visible;
  names = names;
}

-- each is a record of the ledger behind those before it
abbrev pub AreRecordsAfter : List IdpRecord → List IdpRecord → Type 0
AreRecordsAfter = any.AreRecordsAfter idp_rules

abbrev pub AreRecords : List IdpRecord → Type 0
AreRecords = any.AreRecords idp_rules

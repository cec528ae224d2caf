-- Which rows records stand for, and what a ledger asks of these.
use Rattle.std.specs.Prelude.{◌≡◌, List}
use Rattle.ledger_records.specs.declared.idp_record.IdpRecord.{IdpRecord}
use Rattle.record_ledger.specs.Rules.{RowRules}
use Rattle.idp_rows.specs.RowsOf.{rows_of}
use Rattle.idp_rows.specs.Kept.{StandingView, HasRoom, KeepsRoom}
use Rattle.idp_ledger.specs.Record.{next_of}

-- These are the rows of these records, and the least number above all that they drew.
pub record AreRowsOf (standing : StandingView) (records : List IdpRecord) : Type 0 where
  pub rows : standing.rows ≡ rows_of records
  pub next : standing.next ≡ next_of records

-- What is said of these rows.
abbrev pub idp_row_rules : RowRules IdpRecord StandingView
idp_row_rules = record {
  stands = AreRowsOf;
  has_room = λ standing r. HasRoom standing.spare r;
  keeps_room = λ old new. KeepsRoom old.spare new.spare;
  is_ready = λ standing. Unit {0};
}

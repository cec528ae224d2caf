-- How the code keeps the rows of records.
use Rattle.std.specs.Prelude.{◌≡◌, ℕ, ◌<◌, ◌≤◌, max, Bool, true, List, map, length}
use Rattle.request_rows.specs.Rows.{RowsView}
use Rattle.ledger_records.specs.declared.hub_record.HubRecord.{HubRecord}
use Rattle.ledger_records.specs.declared.hub_record.HubRecord.TheVariants as kinds
use Rattle.ledger_rules.specs.Numbers.{above}
use Rattle.record_ledger.specs.Rules.{RowRules}
use Rattle.hub_ledger.specs.declared.row.BelowRow.{BelowRow}
use Rattle.hub_ledger.specs.RowsOf.{HubRows, rows_of, rows_after}
use Rattle.hub_ledger.specs.Record.{drawn, next_of}
pub use Rattle.request_ledger.specs.Standing.{HaveNumbers, IsAskedAt, AreMarks}

-- for how many more rows of each kind there is memory
pub record RowSpare : Type 0 where
  pub asked : ℕ
  pub opened : ℕ

-- the rows and whether they have indexes, the least number above all that were drawn, and the memory that was made ready
pub record StandingView : Type 0 where
  pub rows : HubRows
  pub is_indexed : Bool
  pub next : ℕ
  pub spare : RowSpare

-- the rows that are kept, and those below beside them
abbrev pub rows_with : RowsView → List BelowRow → HubRows
rows_with rows below = record { asked = rows.asked; below = below; opened = rows.opened }

-- there is memory for the rows of a record
abbrev pub HasRoom : RowSpare → HubRecord → Type 0
HasRoom spare (kinds.Routed r) = 0 < spare.asked
HasRoom spare (kinds.Backed r) = 0 < spare.opened
HasRoom spare (kinds.Spoke r) = Unit {0}

-- no memory that was made ready is given up
pub record KeepsRoom (old new : RowSpare) : Type 0 where
  pub asked : old.asked ≤ new.asked
  pub opened : old.opened ≤ new.opened

-- 32 bits hold the place of each row, and each request upwards has one below
pub record AreCounted (rows : HubRows) : Type 0 where
  pub asked : length rows.asked ≤ 4294967295
  pub opened : length rows.opened ≤ 4294967295
  pub below : length rows.below ≡ length rows.asked

-- and that of one more of each kind
pub record AreFew (rows : HubRows) : Type 0 where
  pub asked : length rows.asked < 4294967295
  pub opened : length rows.opened < 4294967295

-- the marks say which requests are spent
abbrev pub AreSpent : List Bool → HubRows → Type 0
AreSpent spent rows = AreMarks spent (map (λ row. row.request) rows.asked) (map (λ row. row.request) rows.opened)

-- what stands after one record more
pub record IsAfter (old new : StandingView) (r : HubRecord) : Type 0 where
  pub rows : new.rows ≡ rows_after old.rows r
  pub indexed : new.is_indexed ≡ old.is_indexed
  pub next : new.next ≡ max old.next (above (drawn r))

-- These are the rows of these records, and the least number above all that they drew.
pub record AreRowsOf (standing : StandingView) (records : List HubRecord) : Type 0 where
  pub rows : standing.rows ≡ rows_of records
  pub next : standing.next ≡ next_of records

-- What is said of these rows.
abbrev pub hub_row_rules : RowRules HubRecord StandingView
hub_row_rules = record {
  stands = AreRowsOf;
  has_room = λ standing r. HasRoom standing.spare r;
  keeps_room = λ old new. KeepsRoom old.spare new.spare;
  is_ready = λ standing. standing.is_indexed ≡ true;
}

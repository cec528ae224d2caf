-- How the code keeps the rows of records.
use Rattle.std.specs.Prelude.{◌≡◌, ℕ, ◌<◌, ◌≤◌, max, min, Bool, true, false, List, map, length, slice_index, slice_index_or, slice_get, Option, None, Some, Vec}
use Rattle.request_rows.specs.declared.row.AskedRow.{AskedRow}
use Rattle.request_rows.specs.declared.row.OpenedRow.{OpenedRow}
use Rattle.request_rows.specs.declared.row.LeftRow.{LeftRow}
use Rattle.request_rows.specs.Rows.{RowsView}
use Rattle.ledger_records.specs.declared.sp_record.SpRecord.{SpRecord}
use Rattle.ledger_records.specs.declared.sp_record.SpRecord.TheVariants as kinds
use Rattle.ledger_rules.specs.Numbers.{AreBelow, above, has_number}
use Rattle.record_ledger.specs.Rules.{RowRules}
use Rattle.request_rows.specs.Indexed.{room}
use Rattle.request_ledger.specs.RowsOf.{SpRows, is_among, rows_of, rows_after}
use Rattle.request_ledger.specs.Record.{drawn, next_of}
pub use Rattle.ledger_rules.specs.Texts.{id_at}

-- for how many more rows of each kind there is memory
pub record RowSpare : Type 0 where
  pub asked : ℕ
  pub opened : ℕ
  pub left : ℕ

-- the rows and whether they have indexes, the least number above all that were drawn, and the memory that was made ready
pub record StandingView : Type 0 where
  pub rows : SpRows
  pub is_indexed : Bool
  pub next : ℕ
  pub spare : RowSpare

abbrev pub rows_in : RowsView → SpRows
rows_in rows = record { asked = rows.asked; opened = rows.opened; left = rows.left }

-- the IDs of rows begin with these numbers, which are below the next one
pub record HaveNumbers (next : ℕ) (numbers : List ℕ) (ids : List (List ℕ)) : Type 0 where
  pub long : length numbers ≡ length ids
  pub each : (k : ℕ) → k < length ids → has_number (slice_index numbers k) (id_at ids k) ≡ true
  pub below : AreBelow next numbers

-- there is memory for the row of a record
abbrev pub HasRoom : RowSpare → SpRecord → Type 0
HasRoom spare (kinds.Asked r) = 0 < spare.asked
HasRoom spare (kinds.Opened r) = 0 < spare.opened
HasRoom spare (kinds.Left r) = 0 < spare.left
HasRoom spare (kinds.Ended r) = Unit {0}
HasRoom spare (kinds.Confirmed r) = Unit {0}

-- there is memory for the mark of a request, where a record asks one
abbrev pub HasMarkRoom : ℕ → SpRecord → Type 0
HasMarkRoom n (kinds.Asked r) = 0 < n
HasMarkRoom n (kinds.Opened r) = Unit {0}
HasMarkRoom n (kinds.Left r) = Unit {0}
HasMarkRoom n (kinds.Ended r) = Unit {0}
HasMarkRoom n (kinds.Confirmed r) = Unit {0}

-- for how many more rows there is memory where each asked row has a mark
abbrev pub marked_spare : {A : Type 0} → RowSpare → Option (Vec Bool A) → RowSpare
marked_spare spare None = spare
marked_spare spare (Some spent) = record spare { asked = min spare.asked (room spent) }

-- no memory that was made ready is given up
pub record KeepsRoom (old new : RowSpare) : Type 0 where
  pub asked : old.asked ≤ new.asked
  pub opened : old.opened ≤ new.opened
  pub left : old.left ≤ new.left

-- 32 bits hold the place of each row
pub record AreCounted (rows : RowsView) : Type 0 where
  pub asked : length rows.asked ≤ 4294967295
  pub opened : length rows.opened ≤ 4294967295
  pub left : length rows.left ≤ 4294967295

-- and that of one more of each kind
pub record AreFew (rows : SpRows) : Type 0 where
  pub asked : length rows.asked < 4294967295
  pub opened : length rows.opened < 4294967295
  pub left : length rows.left < 4294967295

-- at that place alone there is the row of this request
pub record IsAskedAt (asked : List AskedRow) (request : List ℕ) (place : ℕ) : Type 0 where
  pub within : place < length asked
  pub request_is : id_at (map (λ row. row.request) asked) place ≡ request
  pub only : (k : ℕ) → k < length asked → id_at (map (λ row. row.request) asked) k ≡ request → k ≡ place

-- each request that was asked has a mark, which says whether it is among those of sessions, and these were asked
pub record AreMarks (marks : List Bool) (asked opened : List (List ℕ)) : Type 0 where
  pub long : length marks ≡ length asked
  pub each : (k : ℕ) → k < length asked → slice_index_or marks k false ≡ is_among (id_at asked k) opened
  pub named : (id : List ℕ) → is_among id opened ≡ true → is_among id asked ≡ true

-- the marks say which requests are spent
abbrev pub AreSpent : List Bool → SpRows → Type 0
AreSpent spent rows = AreMarks spent (map (λ row. row.request) rows.asked) (map (λ row. row.request) rows.opened)

-- which requests are spent is known by marks while rows are gathered, and by the index of the rows from then on
abbrev pub KnowsSpent : {A : Type 0} → StandingView → Option (Vec Bool A) → Type 0
KnowsSpent standing None = standing.is_indexed ≡ true
KnowsSpent standing (Some spent) = AreSpent spent.items standing.rows

-- the same behind one record more
abbrev pub KnowsSpentAfter : {A : Type 0} → StandingView → SpRecord → Option (Vec Bool A) → Type 0
KnowsSpentAfter standing r None = standing.is_indexed ≡ true
KnowsSpentAfter standing r (Some spent) = AreSpent spent.items (rows_after standing.rows r)

-- there is memory for one mark more, while there are marks
abbrev pub HasMark : {A : Type 0} → Option (Vec Bool A) → Type 0
HasMark None = Unit {0}
HasMark (Some spent) = 0 < room spent

-- the marks are the same, and no memory that was made ready for them is given up
abbrev pub KeepsMarks : {A : Type 0} → Option (Vec Bool A) → Option (Vec Bool A) → Type 0
KeepsMarks None None = Unit {0}
KeepsMarks None (Some new) = ⊥
KeepsMarks (Some old) None = ⊥
KeepsMarks (Some old) (Some new) = (new.items ≡ old.items) × (room old ≤ room new)

-- at that place there is the session of this token, which is not closed, and no other session has it
pub record IsOpenAt (opened : List OpenedRow) (token : List ℕ) (place : ℕ) : Type 0 where
  pub row : OpenedRow
  pub there : slice_get opened place ≡ Some row
  pub token_is : row.token ≡ token
  pub unclosed : row.closed ≡ false
  pub only : (k : ℕ) (other : OpenedRow) → slice_get opened k ≡ Some other → other.token ≡ token → k ≡ place

-- at that place there is the logout of this request, which is not confirmed, and no other logout has it
pub record IsWaitingAt (left : List LeftRow) (request : List ℕ) (place : ℕ) : Type 0 where
  pub row : LeftRow
  pub there : slice_get left place ≡ Some row
  pub request_is : row.request ≡ request
  pub waits : row.confirmed ≡ false
  pub only : (k : ℕ) (other : LeftRow) → slice_get left k ≡ Some other → other.request ≡ request → k ≡ place

-- what stands after one record more
pub record IsAfter (old new : StandingView) (r : SpRecord) : Type 0 where
  pub rows : new.rows ≡ rows_after old.rows r
  pub indexed : new.is_indexed ≡ old.is_indexed
  pub next : new.next ≡ max old.next (above (drawn r))

-- These are the rows of these records, and the least number above all that they drew.
pub record AreRowsOf (standing : StandingView) (records : List SpRecord) : Type 0 where
  pub rows : standing.rows ≡ rows_of records
  pub next : standing.next ≡ next_of records

-- What is said of these rows.
abbrev pub request_row_rules : RowRules SpRecord StandingView
request_row_rules = record {
  stands = AreRowsOf;
  has_room = λ standing r. HasRoom standing.spare r;
  keeps_room = λ old new. KeepsRoom old.spare new.spare;
  is_ready = λ standing. standing.is_indexed ≡ true;
}

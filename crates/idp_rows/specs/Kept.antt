-- How the code keeps the rows of records.
use Rattle.std.specs.Prelude.{◌≡◌, ℕ, suc, ◌<◌, ◌≤◌, max, Bool, true, false, List, [], ◌∷◌, length, map, take, slice_index, slice_index_or, slice_get, Option, None, Some, if◌then◌else◌}
use Rattle.std.specs.List.{list_any}
use Rattle.std.specs.Str.{bytes_eq}
use Rattle.std.specs.Ordering.{nat_cmp}
use Rattle.std.specs.declared.cmp.Ordering.TheVariants.{Less}
use Rattle.std.specs.Cmp.Lexicographic.{slice_cmp}
use Rattle.ledger_records.specs.declared.idp_record.IdpRecord.{IdpRecord}
use Rattle.ledger_records.specs.declared.idp_record.IdpRecord.TheVariants as kinds
use Rattle.ledger_rules.specs.Numbers.{above, has_number}
use Rattle.round_rows.specs.Kept.{AreFew as AreFewRounds}
use Rattle.idp_rows.specs.declared.row.PendingRow.{PendingRow}
use Rattle.idp_rows.specs.declared.row.IssuedRow.{IssuedRow}
use Rattle.idp_rows.specs.declared.row.SessionRow.{SessionRow}
use Rattle.idp_rows.specs.declared.row.LeftRow.{LeftRow}
use Rattle.idp_rows.specs.RowsOf.{IdpRows, session_row, rows_after}
use Rattle.idp_rows.specs.Record.{drawn}
pub use Rattle.ledger_rules.specs.Texts.{id_at}

-- for how many more rows of each kind there is memory
pub record RowSpare : Type 0 where
  pub pendings : ℕ
  pub issues : ℕ
  pub lefts : ℕ
  pub rounds : ℕ

-- the rows, the least number above all that were drawn, and the memory that was made ready
pub record StandingView : Type 0 where
  pub rows : IdpRows
  pub next : ℕ
  pub spare : RowSpare

-- rows of a kind that are found by their numbers
pub record PendingsView : Type 0 where
  pub rows : List PendingRow
  pub numbers : List ℕ
  pub spare : ℕ

pub record LeftsView : Type 0 where
  pub rows : List LeftRow
  pub numbers : List ℕ
  pub spare : ℕ

-- the issued rows, which are found by those behind them
pub record IssuesView : Type 0 where
  pub rows : List IssuedRow
  pub spare : ℕ

-- sessions, with the assertions that were issued in them
pub record SessionsView : Type 0 where
  pub rows : List SessionRow
  pub issues : List IssuedRow
  pub numbers : List ℕ
  pub spare : ℕ

-- the IDs of rows begin with these numbers
pub record HaveNumbers (numbers : List ℕ) (ids : List (List ℕ)) : Type 0 where
  pub long : length numbers ≡ length ids
  pub each : (k : ℕ) → k < length ids → has_number (slice_index numbers k) (id_at ids k) ≡ true

-- The IDs of rows ascend by bytes, and there are so many.
pub record ComeInOrder (ids : List (List ℕ)) (count : ℕ) : Type 0 where
  pub long : count ≡ length ids
  pub ascends : (k : ℕ) → suc k < length ids → slice_cmp nat_cmp (id_at ids k) (id_at ids (suc k)) ≡ Less

-- the IDs of the rows
abbrev pub pending_ids : List PendingRow → List (List ℕ)
pending_ids rows = map (λ row. row.pending) rows

abbrev pub cookies : List SessionRow → List (List ℕ)
cookies rows = map (λ row. row.cookie) rows

abbrev pub requests : List LeftRow → List (List ℕ)
requests rows = map (λ row. row.request) rows

-- the place of the last assertion that was issued in the session of a cookie
abbrev pub here_or_later : Bool → Option ℕ → Option ℕ
here_or_later here (Some k) = Some (suc k)
here_or_later here None = if here then Some 0 else None

abbrev pub last_place : List IssuedRow → (cookie : List ℕ) → Option ℕ
last_place [] cookie = None
last_place (row ∷ rows) cookie = here_or_later (bytes_eq row.cookie cookie) (last_place rows cookie)

-- with each issued row stands the place of the one before it in the same session
pub record ArePrevious (rows : List IssuedRow) (previous : List (Option ℕ)) : Type 0 where
  pub long : length previous ≡ length rows
  pub each : (k : ℕ) (row : IssuedRow) → slice_get rows k ≡ Some row → slice_index_or previous k None ≡ last_place (take k rows) row.cookie

-- with each session stands the place of its last issued row, and there is none without a session
pub record AreLast (sessions : List SessionRow) (last : List ℕ) (issues : List IssuedRow) : Type 0 where
  pub long : length last ≡ length sessions
  pub each : (k : ℕ) (row : SessionRow) → slice_get sessions k ≡ Some row → last_place issues row.cookie ≡ Some (slice_index last k)
  pub none : (cookie : List ℕ) → list_any (λ row. bytes_eq row.cookie cookie) sessions ≡ false → last_place issues cookie ≡ None

-- there is memory for the rows of a record
abbrev pub HasRoom : RowSpare → IdpRecord → Type 0
HasRoom spare (kinds.Pending r) = 0 < spare.pendings
HasRoom spare (kinds.Issued r) = 0 < spare.issues
HasRoom spare (kinds.Ended r) = Unit {0}
HasRoom spare (kinds.Left r) = 0 < spare.lefts
HasRoom spare (kinds.Confirmed r) = Unit {0}
HasRoom spare (kinds.Spoke r) = Unit {0}
HasRoom spare (kinds.Round r) = 0 < spare.rounds
HasRoom spare (kinds.Told r) = 0 < spare.rounds

-- no memory that was made ready is given up
pub record KeepsRoom (old new : RowSpare) : Type 0 where
  pub pendings : old.pendings ≤ new.pendings
  pub issues : old.issues ≤ new.issues
  pub lefts : old.lefts ≤ new.lefts
  pub rounds : old.rounds ≤ new.rounds

-- 32 bits hold the place of each row, and of one more of each kind, and the count of one answer more
pub record AreFew (rows : IdpRows) : Type 0 where
  pub pendings : length rows.pendings < 4294967295
  pub issues : length rows.issues < 4294967295
  pub sessions : length rows.sessions < 4294967295
  pub lefts : length rows.lefts < 4294967295
  pub rounds : AreFewRounds rows.rounds

-- at that place there is the row of this ID, and no other row has it
pub record IsRowAt {X : Type 0} (key : X → List ℕ) (rows : List X) (id : List ℕ) (place : ℕ) : Type 0 where
  pub row : X
  pub there : slice_get rows place ≡ Some row
  pub id_is : key row ≡ id
  pub only : (k : ℕ) (other : X) → slice_get rows k ≡ Some other → key other ≡ id → k ≡ place

-- the session that a record begins
abbrev pub session_begun : IdpRecord → Option SessionRow
session_begun (kinds.Issued r) = begun_where r.pending
  where
    begun_where : Option (List ℕ) → Option SessionRow
    begun_where None = None
    begun_where (Some pending) = Some (session_row false r)
session_begun other = None

-- what stands after one record more
pub record IsAfter (old new : StandingView) (r : IdpRecord) : Type 0 where
  pub rows : new.rows ≡ rows_after old.rows r
  pub next : new.next ≡ max old.next (above (drawn r))

-- How the code keeps rounds, and what it finds by the request for which one waits.
use Rattle.std.specs.Prelude.{◌≡◌, ℕ, ◌<◌, Bool, true, ◌&&◌, List, [], ◌∷◌, ◌++◌, length, slice_index, slice_get, Option, None, Some, if◌then◌else◌}
use Rattle.std.specs.List.{find}
use Rattle.ledger_rules.specs.Numbers.{has_number}
use Rattle.round_rows.specs.declared.row.RoundRow.{RoundRow}
use Rattle.round_rows.specs.declared.row.NextRequest.{NextRequest}
use Rattle.round_rows.specs.Rounds.{waits_for}

-- the rows, the numbers of all requests that were made, and how many more fit in without memory
pub record RoundsView : Type 0 where
  pub rows : List RoundRow
  pub numbers : List ℕ
  pub spare : ℕ

-- the last request of the row at a place begins with one of the numbers, beside which that place stands
pub record IsPlaced (numbers places : List ℕ) (k : ℕ) (row : RoundRow) : Type 0 where
  pub at : ℕ
  pub within : at < length numbers
  pub place : slice_index places at ≡ k
  pub has : has_number (slice_index numbers at) row.request ≡ true

-- With each number stands the place of a row, and each row is found by the number of its last request.
pub record ArePlaced (rows : List RoundRow) (numbers places : List ℕ) : Type 0 where
  pub long : length places ≡ length numbers
  pub within : (p : ℕ) → p < length places → slice_index places p < length rows
  pub each : (k : ℕ) (row : RoundRow) → slice_get rows k ≡ Some row → IsPlaced numbers places k row

-- At that place there is a row with this request, and no other row has it.
pub record HasRequestAt (rows : List RoundRow) (request : List ℕ) (place : ℕ) : Type 0 where
  pub row : RoundRow
  pub there : slice_get rows place ≡ Some row
  pub is : row.request ≡ request
  pub only : (k : ℕ) (other : RoundRow) → slice_get rows k ≡ Some other → other.request ≡ request → k ≡ place

-- This row has the request, at one place, and no row at another place has it.
abbrev pub HasItAlone : List RoundRow → (request : List ℕ) → RoundRow → Type 0
HasItAlone rows request row = (place : ℕ) × (at : HasRequestAt rows request place) × (at.row ≡ row)

-- This is the only round that waits for the answer to a request: the one that is found with any test more.
abbrev pub passing : (RoundRow → Bool) → Option RoundRow → Option RoundRow
passing test None = None
passing test (Some row) = if test row then Some row else None

abbrev pub IsRoundOf : List RoundRow → (request : List ℕ) → Option RoundRow → Type 0
IsRoundOf rows request found =
    (test : RoundRow → Bool) → find (λ row. waits_for request row && test row) rows ≡ passing test found

-- 32 bits hold the place of each row and of one more, and each count and one more.
pub record AreFew (rows : List RoundRow) : Type 0 where
  pub rows_are : length rows < 4294967295
  pub told : (k : ℕ) (row : RoundRow) → slice_get rows k ≡ Some row → row.told < 4294967295
  pub confirmed : (k : ℕ) (row : RoundRow) → slice_get rows k ≡ Some row → row.confirmed < 4294967295

-- the number of a request more, where there is one
abbrev pub numbers_with : Option NextRequest → List ℕ → List ℕ
numbers_with None numbers = numbers
numbers_with (Some next) numbers = numbers ++ next.number ∷ []

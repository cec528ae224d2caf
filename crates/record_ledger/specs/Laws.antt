-- The laws of a ledger.
use Rattle.std.specs.Prelude.{◌≡◌, ℕ, ◌+◌, ◌≤◌, true, List, length, Some, IfSome, Ok, ◌∷◌, ◌++◌}
use Rattle.crash_disk.specs.Disk.{Image}
use Rattle.ledger_rules.specs.Numbers.{are_fresh}
use Rattle.record_ledger.specs.Rules.{RecordRules, RowRules, next_of, AreRecords}
use Rattle.record_ledger.specs.Ledger.{Held, ledger_in}
use Rattle.record_ledger.specs.Compacting.{AreKept}
use Rattle.record_ledger.specs.Runs.{Event, Leads, CompactsAt, IsVisibleThroughout, Stays}

module _ {R : Type 0} (rules : RecordRules R) where
  -- what an image stands for has records of the ledger, each behind those before it
  abbrev pub ImagesHoldRecords : Type 0
  ImagesHoldRecords = (image : Image) (held : Held R) → ledger_in rules image ≡ Ok (Some held) → AreRecords rules held.records

  -- what is kept of records of a ledger are records of a ledger
  abbrev pub KeptAreRecords : Type 0
  KeptAreRecords = (now horizon : ℕ) (records kept : List R) → AreRecords rules records → AreKept rules now horizon records kept → AreRecords rules kept

  -- What is kept in a ledger, and visible at each moment at which a run compacts it, stays there to the end of the run.
  abbrev pub VisibleRecordsStay : Type 0
  VisibleRecordsStay =
      (start held : Held R) (events : List (Event R)) (moments : List ℕ) (before behind : List R) (r : R) → Leads rules start events held
      → CompactsAt moments events → start.records ≡ before ++ r ∷ behind → IsVisibleThroughout rules start.header.horizon moments r
      → Stays rules r behind events held

  -- the payload of a record has at most one byte more in version 2
  abbrev pub IsOneByteMore : Type 0
  IsOneByteMore = (version : ℕ) (r : R) → length (rules.bytes 2 r) ≤ length (rules.bytes version r) + 1

  -- the numbers of a record of the ledger are greater than all before them
  abbrev pub AreFreshlyDrawn : Type 0
  AreFreshlyDrawn = (before : List R) (r : R) → rules.is_record before r ≡ true → are_fresh (next_of rules before) (rules.drawn r) ≡ true

  -- there are no more rows of a kind than records
  abbrev pub AreRowsOfRecords : Type 0
  AreRowsOfRecords = (records : List R) (r : R) → IfSome (rules.rows_of_kind records r) (λ n. n ≤ length records)

-- the memory that is ready is not given up where nothing changes
abbrev pub KeepsItself : {R S : Type 0} → RowRules R S → Type 0
KeepsItself {R} {S} row_rules = (standing : S) → row_rules.keeps_room standing standing

-- What is said of the records of a ledger, and which payloads are its records.
use Rattle.std.specs.Prelude.{◌≡◌, ℕ, ◌<◌, Bool, true, List, [], ◌∷◌, ◌++◌, length, Option, None, Some, Result, Ok, Err, if◌then◌else◌}
use Rattle.std.specs.List.{flat_map}
use Rattle.ledger_rules.specs.Numbers.{Drawn, above}

-- What is said of the records of one kind of ledger.
pub record RecordRules (R : Type 0) : Type 0 where
  -- the payload of a record in a journal of a version, and the record that a payload is
  pub bytes : (version : ℕ) → R → List ℕ
  pub found : (version : ℕ) → List ℕ → Option R
  -- whether a record is one of the ledger behind these
  pub is_record : List R → R → Bool
  -- the IDs that a record draws, with their numbers
  pub drawn : R → List Drawn
  -- how many rows of its kind these records have, where a record has rows
  pub rows_of_kind : List R → R → Option ℕ
  -- whether a row of a record is visible
  pub has_visible : (now horizon : ℕ) → R → Bool
  -- whether the first record names a row of the second
  pub names : R → R → Bool

-- What is said of the rows that are kept of records.
pub record RowRules (R S : Type 0) : Type 1 where
  -- they are the rows of these records
  pub stands : S → List R → Type 0
  -- there is memory for the rows of a record
  pub has_room : S → R → Type 0
  -- no memory that was made ready is given up
  pub keeps_room : (old new : S) → Type 0
  -- they were made ready to be asked for, once all records were read
  pub is_ready : S → Type 0

-- They are the rows of these records, ready to be asked for.
abbrev pub StandReady : {R S : Type 0} → RowRules R S → S → List R → Type 0
StandReady row_rules standing records = row_rules.stands standing records × row_rules.is_ready standing

module _ {R : Type 0} (rules : RecordRules R) where
  -- the least number above all that these records drew
  abbrev pub next_of : List R → ℕ
  next_of records = above (flat_map rules.drawn records)

  -- The records that the payloads of a journal of this version are, behind these, or the number of the first payload that is
  -- none.
  abbrev pub with_next : List R → Option R → (R → Result (List R) ℕ) → Result (List R) ℕ
  with_next before None go_on = Err (length before)
  with_next before (Some r) go_on = if rules.is_record before r then go_on r else Err (length before)

  unfoldable pub records_from : ℕ → List R → List (List ℕ) → Result (List R) ℕ
  records_from version before [] = Ok before
  records_from version before (payload ∷ payloads) =
      with_next before (rules.found version payload) (λ r. records_from version (before ++ r ∷ []) payloads)

  abbrev pub records_of : ℕ → List (List ℕ) → Result (List R) ℕ
  records_of version payloads = records_from version [] payloads

  -- each is a record of the ledger behind those before it
  abbrev pub AreRecordsAfter : List R → List R → Type 0
  AreRecordsAfter before [] = Unit {0}
  AreRecordsAfter before (r ∷ later) = (rules.is_record before r ≡ true) × AreRecordsAfter (before ++ r ∷ []) later

  abbrev pub AreRecords : List R → Type 0
  AreRecords records = AreRecordsAfter [] records

-- A record may be put behind those that stand there: 32 bits hold the place of each, it is a record of the ledger, and there
-- is memory for its rows.
pub record CanPut {R S : Type 0} (rules : RecordRules R) (row_rules : RowRules R S) (standing : S) (r : R) : Type 0 where
  pub records : List R
  pub stand : row_rules.stands standing records
  pub few : length records < 4294967295
  pub is : rules.is_record records r ≡ true
  pub room : row_rules.has_room standing r

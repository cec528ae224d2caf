-- What two files of a journal are judged as, and what is printed of them.
use Rattle.std.specs.Prelude.{◌≡◌, ℕ, Bool, true, false, List, [], ◌∷◌, ◌++◌, length, Option, None, Some, Result, Ok, Err}
use Rattle.std.specs.List.{flat_map}
use Rattle.gate_journal.specs.Format.{Kept, Fault}
use Rattle.record_ledger.specs.Rules.{RecordRules, records_of}
use Rattle.record_ledger.specs.Ledger.{Held, of_journal}
use Rattle.record_lines.specs.declared.judging.Judged.{Judged}
use Rattle.record_lines.specs.declared.judging.Judged.TheVariants as found

-- the lines of records, in their order
abbrev pub lines : {R : Type 0} → (R → List ℕ) → List R → List ℕ
lines line records = flat_map line records

module _ {R : Type 0} (rules : RecordRules R) where
  -- What a journal is judged as: none there yet; a file, each of whose payloads is a record of the ledger; or the file and
  -- the place of what is wrong.
  abbrev pub IsJudged : Result (Option Kept) Fault → Judged → Type 0
  IsJudged journal found.Nothing = of_journal rules journal ≡ Ok None
  IsJudged journal (found.Records file) =
      (held : Held R) × (of_journal rules journal ≡ Ok (Some held)) × (records_of rules file.version file.payloads ≡ Ok held.records)
  IsJudged journal (found.Foreign file place) = of_journal rules journal ≡ Err (record { file = file; place = place })

  -- These rows are those of the records that the payloads are.
  pub record AreRead {S : Type 0} (stands : S → List R → Type 0) (version : ℕ) (payloads : List (List ℕ)) (standing : S) : Type 0 where
    pub records : List R
    pub are : records_of rules version payloads ≡ Ok records
    pub stand : stands standing records

  -- One payload more was read, or it is no record behind the others.
  abbrev pub ReadsOne : {S : Type 0} → (S → List R → Type 0) → ℕ → List (List ℕ) → List ℕ → Bool → S → Type 0
  ReadsOne stands version payloads payload true standing = AreRead stands version (payloads ++ payload ∷ []) standing
  ReadsOne stands version payloads payload false standing =
      (later : List (List ℕ)) → records_of rules version (payloads ++ payload ∷ later) ≡ Err (length payloads)

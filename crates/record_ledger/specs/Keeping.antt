-- How the code keeps a ledger: its journal, and what the records stand for.
use Rattle.std.specs.Prelude.{◌≡◌, ℕ, Bool, List, [], map, Some, Result, Ok, Err}
use Rattle.gate_journal.specs.Format.{Committed, Kept}
use Rattle.gate_journal.specs.Journal.{OpenedJournal}
use Rattle.record_ledger.specs.Rules.{RecordRules, records_of}
use Rattle.record_ledger.specs.Ledger.{Held, OpenedLedger}

-- the records, none where there is a payload that is none
abbrev pub ok_records : {R : Type 0} → Result (List R) ℕ → List R
ok_records (Ok records) = records
ok_records (Err n) = []

module _ {R : Type 0} (rules : RecordRules R) where
  abbrev pub records_in : Committed → List R
  records_in holds = ok_records (records_of rules holds.version holds.payloads)

  abbrev pub held_in : Kept → Held R
  held_in kept = record { file = kept.file; version = kept.holds.version; header = kept.holds.header; records = records_in kept.holds }

  abbrev pub opened_of : {S : Type 0} → OpenedJournal → S → List ℕ → Bool → OpenedLedger R S
  opened_of journal standing key broken = record {
    held = held_in journal.kept;
    key = key;
    broken = broken;
    payload_spare = journal.spare;
    standing = standing;
  }

  -- The payloads of a journal of version 2 are records of the ledger, and what stands there is what they stand for.
  pub record StandsFor {S : Type 0} (stands : S → List R → Type 0) (holds : Committed) (standing : S) : Type 0 where
    pub version : holds.version ≡ 2
    pub records : List R
    pub are : records_of rules 2 holds.payloads ≡ Ok records
    pub spelled : holds.payloads ≡ map (rules.bytes 2) records
    pub stand : stands standing records

  -- The payload is that of this record, and the record is found in it.
  pub record IsPayload (payload : List ℕ) (r : R) : Type 0 where
    pub spelled : payload ≡ rules.bytes 2 r
    pub found : rules.found 2 payload ≡ Some r

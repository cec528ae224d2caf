-- What a compaction keeps of a journal.
use Rattle.std.specs.Prelude.{◌≡◌, ℕ, Bool, List, Ok}
use Rattle.ledger_rules.specs.Kept.{selected}
use Rattle.gate_journal.specs.Format.{Kept}
use Rattle.gate_journal.specs.Journal.{Fits}
use Rattle.record_ledger.specs.Rules.{RecordRules, records_of}
use Rattle.record_ledger.specs.Compacting.{AreFlags}

module _ {R : Type 0} (rules : RecordRules R) where
  -- these payloads are records of a ledger
  pub record AreRead (payloads : List (List ℕ)) : Type 0 where
    pub records : List R
    pub are : records_of rules 2 payloads ≡ Ok records

  -- what payloads stand for
  pub record AreStanding {S : Type 0} (stands : S → List R → Type 0) (payloads : List (List ℕ)) (standing : S) : Type 0 where
    pub records : List R
    pub are : records_of rules 2 payloads ≡ Ok records
    pub stand : stands standing records

  -- the payloads of the records that are kept at a moment, which fit a file, and what they stand for
  pub record IsChosen {S : Type 0} (stands : S → List R → Type 0) (now : ℕ) (kept : Kept) (payloads : List (List ℕ)) (standing : S) : Type 0 where
    pub flags : List Bool
    pub are : (records : List R) → records_of rules 2 kept.holds.payloads ≡ Ok records → AreFlags rules now kept.holds.header.horizon records flags
    pub payloads_are : payloads ≡ selected flags kept.holds.payloads
    pub stand : AreStanding stands payloads standing
    pub fits : Fits payloads

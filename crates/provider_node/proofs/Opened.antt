-- What is opened holds records of a ledger, since what an image stands for does.
use Rattle.std.specs.Prelude.{Option, None, Some, Result, Ok, Err, if◌then◌else◌}
use Rattle.std.proofs.Common.{◌≡◌, ◌==◌, ◌+◌, Bool, true, false, refl, subst, sym}
use Rattle.crash_disk.specs.Disk.{Image}
use Rattle.crash_disk.specs.Torn.{other_file}
use Rattle.gate_journal.specs.Format.{Fault}
use Rattle.record_ledger.specs.Laws.{ImagesHoldRecords}
use Rattle.record_ledger.specs.Ledger.{Held, empty_ledger, ledger_in, migrated, taken}
use Rattle.record_ledger.specs.Rules.{RecordRules, AreRecords}

-- a migration leaves the records
pub migrated_records : {R : Type 0} (held : Held R) (b : Bool) → (if b then record held {
  file = other_file held.file;
  version = 2;
  header = record (held.header) { generation = held.header.generation + 1 };
} else held).records ≡ held.records
migrated_records held true = refl
migrated_records held false = refl

module _ {R : Type 0} (rules : RecordRules R) (hold : ImagesHoldRecords rules) (image : Image) (held : Held R) where
  by_found : (found : Result (Option (Held R)) Fault) → ledger_in rules image ≡ found → taken found ≡ Ok held
      → AreRecords rules held.records
  by_found (Ok None) is opens =
      let same : empty_ledger ≡ held = cc in subst (λ (h : Held R). AreRecords rules h.records) same tt
  by_found (Ok (Some before)) is opens =
      let same : migrated before ≡ held = cc in
      subst (λ (h : Held R). AreRecords rules h.records) same
      (subst (AreRecords rules) (sym (migrated_records before (before.version == 1))) (hold image before is))
  by_found (Err fault) is opens = absurd (cc)

  pub opened_records : taken (ledger_in rules image) ≡ Ok held → AreRecords rules held.records
  opened_records opens = by_found (ledger_in rules image) refl opens

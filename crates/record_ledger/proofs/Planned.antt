-- Which plan a call of a ledger follows, by that of its journal.
use Rattle.std.specs.Prelude.{◌==◌, if◌then◌else◌}
use Rattle.std.proofs.Common.{◌≡◌, ⊎_elim, ℕ, ◌+◌, Bool, true, false, List, [], ◌++◌, map, Option, None, Some, Result, Ok, Err, refl, sym, ap, ◌∙◌, arith}
use Rattle.std.proofs.lemmas.Bool.Decides.{nat_tests}
use Rattle.crash_disk.specs.declared.file_no.FileNo.{FileNo}
use Rattle.crash_disk.specs.declared.file_no.FileNo.TheVariants.{Zero, One}
use Rattle.crash_disk.specs.Disk.{DiskState, image_of, reads_of}
use Rattle.crash_disk.specs.Plans.{after_all}
use Rattle.crash_disk.specs.Torn.{other_file}
use Rattle.gate_journal.specs.Calls.{making_anew, making_first, remaking, syncing_both, where_none}
use Rattle.gate_journal.specs.Calls as journals
use Rattle.gate_journal.specs.Format.{Kept, Fault, journal}
use Rattle.gate_journal.specs.Journal.{made_anew}
use Rattle.gate_journal.specs.Opening.{opened}
use Rattle.record_ledger.specs.Calls.{migrating, opening}
use Rattle.record_ledger.specs.Ledger.{Held, held_of, of_journal, some_held, with_records, kept_of, migrated}
use Rattle.record_ledger.specs.Loading.{IsLoaded, to_version_2}
use Rattle.record_ledger.specs.Rules.{RecordRules}
use Rattle.record_ledger.proofs.OpenLaws.{first, held_first, opened_cases}

-- a sync changes nothing of what is read
reads_synced : (d : DiskState) (file : FileNo) → reads_of (after_all syncing_both d) file ≡ reads_of d file
reads_synced d Zero = refl
reads_synced d One = refl

is_one : (n : ℕ) → (n == 1) ≡ true → n ≡ 1
is_one n e = grind (arith, nat_tests)

module _ {R : Type 0} (rules : RecordRules R) where
  migrating_synced : (found : Result (Option (Held R)) Fault) (d : DiskState) → migrating rules found (after_all syncing_both d) ≡ migrating rules found d
  migrating_synced (Ok None) d = refl
  migrating_synced (Ok (Some held)) d =
      let kept = kept_of rules (migrated held) in
      ap (λ (bytes : List ℕ). if held.version == 1 then making_anew kept.file kept.holds bytes else []) (reads_synced d kept.file)
  migrating_synced (Err fault) d = refl

  -- what a journal holds that was opened is migrated as what the disk stands for
  pub opening_is : (d : DiskState) (kept : Kept) → opened (journal (image_of d)) ≡ Ok kept →
      journals.opening d ++ migrating rules (some_held (held_of rules kept)) (after_all (journals.opening d) d) ≡ opening rules d
  opening_is d kept e = ⊎_elim stands made (opened_cases (journal (image_of d)) kept e)
    where
      stands : journal (image_of d) ≡ Ok (Some kept) →
          journals.opening d ++ migrating rules (some_held (held_of rules kept)) (after_all (journals.opening d) d) ≡ opening rules d
      stands found =
          (λ i. (syncing_both ++ where_none (found i) (making_first (reads_of d Zero)))
          ++ migrating rules (some_held (held_of rules kept)) (after_all (syncing_both ++ where_none (found i) (making_first (reads_of d Zero))) d))
          ∙ ap (λ plan. (syncing_both ++ []) ++ plan) (migrating_synced (some_held (held_of rules kept)) d)
          ∙ sym (λ i. (syncing_both ++ where_none (found i) (making_first (reads_of d Zero))) ++ migrating rules (of_journal rules (found i)) d)

      made : (journal (image_of d) ≡ Ok None) × (first ≡ kept) →
          journals.opening d ++ migrating rules (some_held (held_of rules kept)) (after_all (journals.opening d) d) ≡ opening rules d
      made (none, is) =
          (λ i. journals.opening d ++ migrating rules (some_held (held_of rules (sym is i))) (after_all (journals.opening d) d))
          ∙ ap (λ found. journals.opening d ++ migrating rules (some_held found) (after_all (journals.opening d) d)) (held_first rules)
          ∙ ap (λ found. journals.opening d ++ migrating rules (of_journal rules found) d) (sym none)

  -- a journal of these records
  abbrev of_records : Kept → List R → Held R
  of_records kept records = record { file = kept.file; version = kept.holds.version; header = kept.holds.header; records = records }

  abbrev in_2 : Held R → Held R
  in_2 held =
      record held { file = other_file held.file; version = 2; header = record (held.header) { generation = held.header.generation + 1 } }

  by_version : (kept : Kept) (records : List R) (made : List (List ℕ)) (d : DiskState) (b : Bool) → (b ≡ true → made ≡ map (rules.bytes 2) records) →
      (if b then remaking (if b then made_anew made kept.holds.header.horizon kept.holds.header.next kept else kept) d else [])
      ≡ (if b then remaking (kept_of rules (if b then in_2 (of_records kept records) else of_records kept records)) d else [])
  by_version kept records made d true anew =
      ap (λ (ps : List (List ℕ)). remaking (made_anew ps kept.holds.header.horizon kept.holds.header.next kept) d) (anew refl)
  by_version kept records made d false anew = refl

  module _ {S : Type 0} (stands : S → List R → Type 0) where
    -- the payloads of version 2 that were made are those of the ledger in version 2
    pub migrating_is : (kept : Kept) (standing : S) (made : List (List ℕ)) → IsLoaded rules stands kept.holds.version kept.holds.payloads standing made →
        (d : DiskState) → to_version_2 made kept d ≡ migrating rules (some_held (held_of rules kept)) d
    migrating_is kept standing made loaded d =
        by_version kept loaded.records made d (kept.holds.version == 1) (λ one. loaded.anew (is_one kept.holds.version one))
        ∙ sym (ap (λ found. migrating rules (some_held (with_records kept found)) d) loaded.are)

-- a journal of version 1 is made anew
pub version_one : (payloads : List (List ℕ)) (kept : Kept) → kept.holds.version ≡ 1 → (d : DiskState) →
    remaking (made_anew payloads kept.holds.header.horizon kept.holds.header.next kept) d ≡ to_version_2 payloads kept d
version_one payloads kept one d =
    let test : true ≡ (kept.holds.version == 1) = sym (ap (λ (n : ℕ). n == 1) one) in
    λ i. if test i then remaking (if test i then made_anew payloads kept.holds.header.horizon kept.holds.header.next kept else kept) d else []

-- How the payloads of a journal are read.
use Rattle.std.specs.Prelude.{◌≡◌, ◌⊎◌, ℕ, ◌<◌, ◌==◌, if◌then◌else◌, Bool, true, false, List, [], ◌∷◌, ◌++◌, length, map, All, Some, Result, Ok, Err}
use Rattle.crash_disk.specs.declared.change.Change.{Change}
use Rattle.crash_disk.specs.Disk.{Image, DiskState}
use Rattle.gate_journal.specs.declared.fault.OpenFault.{OpenFault}
use Rattle.gate_journal.specs.declared.fault.OpenFault.TheVariants.{DiskFault, Foreign, NoMemory}
use Rattle.gate_journal.specs.Format.{Kept, journal}
use Rattle.gate_journal.specs.Calls.{remaking}
use Rattle.gate_journal.specs.Journal.{remade}
use Rattle.record_ledger.specs.declared.opening.Loaded.{Loaded}
use Rattle.record_ledger.specs.Rules.{RecordRules, records_of}
use Rattle.record_ledger.specs.Ledger.{Held, held_of, ledger_in, some_held, taken}

-- A journal has version 1 or 2.
abbrev pub IsVersion : ℕ → Type 0
IsVersion version = (version ≡ 1) ⊎ (version ≡ 2)

-- The journal in version 2: made anew with these payloads where it has version 1.
abbrev pub in_version_2 : List (List ℕ) → Kept → Kept
in_version_2 payloads kept = if kept.holds.version == 1 then remade payloads kept else kept

-- the changing calls of that
abbrev pub to_version_2 : List (List ℕ) → Kept → DiskState → List Change
to_version_2 payloads kept disk = if kept.holds.version == 1 then remaking (in_version_2 payloads kept) disk else []

module _ {R : Type 0} (rules : RecordRules R) where
  -- What these payloads stand for was read: their records, and their payloads of version 2 where they have version 1.
  pub record IsLoaded {S : Type 0} (stands : S → List R → Type 0) (version : ℕ) (payloads : List (List ℕ)) (standing : S) (made : List (List ℕ)) : Type 0 where
    pub records : List R
    pub are : records_of rules version payloads ≡ Ok records
    pub stand : stands standing records
    pub spelled : payloads ≡ map (rules.bytes version) records
    pub anew : version ≡ 1 → made ≡ map (rules.bytes 2) records
    pub found : version ≡ 1 → All (λ r. rules.found 2 (rules.bytes 2 r) ≡ Some r) records

  -- So many payloads were read that 32 bits hold the place of one more.
  pub record CanLoad {S : Type 0} (stands : S → List R → Type 0) (version : ℕ) (standing : S) (made : List (List ℕ)) : Type 0 where
    pub payloads : List (List ℕ)
    pub loaded : IsLoaded stands version payloads standing made
    pub few : length payloads < 4294967295

  -- One payload more was read, or it is no record behind the others.
  abbrev pub LoadsOne : {S : Type 0} → (S → List R → Type 0) → ℕ → List (List ℕ) → List ℕ → Bool → S → List (List ℕ) → Type 0
  LoadsOne stands version payloads payload true standing made = IsLoaded stands version (payloads ++ payload ∷ []) standing made
  LoadsOne stands version payloads payload false standing made = records_of rules version (payloads ++ payload ∷ []) ≡ Err (length payloads)

  -- What a journal stands for was read, or the fault is that of its payloads.
  abbrev pub Loads : {S : Type 0} → (S → List R → Type 0) → Kept → Result (Loaded S) OpenFault → Type 0
  Loads stands kept (Ok loaded) = IsLoaded stands kept.holds.version kept.holds.payloads loaded.standing loaded.payloads.items
  Loads stands kept (Err DiskFault) = ⊥
  Loads stands kept (Err (Foreign file place)) = held_of rules kept ≡ Err (record { file = file; place = place })
  Loads stands kept (Err NoMemory) = Unit {0}

  -- The image stands for this journal, or for the ledger that is opened from it.
  abbrev pub IsTakenFrom : Kept → Image → Type 0
  IsTakenFrom kept image =
      (journal image ≡ Ok (Some kept)) ⊎ ((held : Held R) × (taken (some_held (held_of rules kept)) ≡ Ok held) × (ledger_in rules image ≡ Ok (Some held)))

-- Which records are kept where others are left out.
use Rattle.std.specs.Prelude.{◌≡◌, ◌⊎◌, ℕ, ◌+◌, ◌<◌, ◌^◌, ◌↔◌, max, ◌-◌, nat_lt, Bool, true, false, ◌&&◌, List, length, slice_get, slice_index_or, Option, None, Some, Ok}
use Rattle.crash_disk.specs.Disk.{Image}
use Rattle.crash_disk.specs.Torn.{other_file}
use Rattle.ledger_rules.specs.Kept.{IsKept, selected}
use Rattle.record_ledger.specs.Rules.{RecordRules}
use Rattle.record_ledger.specs.Ledger.{Held, next_number, ledger_in}

-- whether there is one that passes
abbrev pub passes : {X : Type 0} → (X → Bool) → Option X → Bool
passes test None = false
passes test (Some x) = test x

-- whether two records of a list are so related, by their places, of which the second is before the first
unfoldable pub relates_at : {R : Type 0} → (R → R → Bool) → List R → ℕ → ℕ → Bool
relates_at relates records j i =
    nat_lt i j && passes (λ later. passes (relates later) (slice_get records i)) (slice_get records j)

-- the last generation, which is not made anew
abbrev pub LAST_GENERATION : ℕ
LAST_GENERATION = 2 ^ 64 - 1

module _ {R : Type 0} (rules : RecordRules R) where
  -- what is said of records, of those at places of a list, of which the one that is named stands before the other
  abbrev pub seen_at : (now horizon : ℕ) → List R → ℕ → Bool
  seen_at now horizon records k = passes (rules.has_visible now horizon) (slice_get records k)

  abbrev pub names_at : List R → ℕ → ℕ → Bool
  names_at records j i = relates_at rules.names records j i

  -- the flags say which records are kept at a moment
  pub record AreFlags (now horizon : ℕ) (records : List R) (flags : List Bool) : Type 0 where
    pub long : length flags ≡ length records
    pub each : (k : ℕ) → k < length records → (slice_index_or flags k false ≡ true) ↔ IsKept (seen_at now horizon records) (names_at records) k

  -- These records are kept at a moment, in their order.
  pub record AreKept (now horizon : ℕ) (records kept : List R) : Type 0 where
    pub flags : List Bool
    pub long : length flags ≡ length records
    pub each : (k : ℕ) → k < length records → (slice_index_or flags k false ≡ true) ↔ IsKept (seen_at now horizon records) (names_at records) k
    pub are : kept ≡ selected flags records

  -- A ledger made anew at a moment: the records that are kept, in the other file, with the next generation, the same next
  -- number and the larger of the horizon and that moment.
  pub record IsCompacted (now : ℕ) (old new : Held R) : Type 0 where
    pub file : new.file ≡ other_file old.file
    pub version : new.version ≡ 2
    pub generation : new.header.generation ≡ old.header.generation + 1
    pub horizon : new.header.horizon ≡ max old.header.horizon now
    pub next : new.header.next ≡ next_number rules old
    pub records : AreKept now old.header.horizon old.records new.records

  -- what a compaction makes of a ledger
  abbrev pub Compacts : ℕ → Held R → Held R → Type 0
  Compacts now old new = ((old.header.generation ≡ LAST_GENERATION) × (new ≡ old)) ⊎ ((old.header.generation < LAST_GENERATION) × IsCompacted now old new)

  -- The image stands for the ledger from before, or for what a compaction makes of it.
  abbrev pub IsOldOrCompacted : ℕ → Held R → Image → Type 0
  IsOldOrCompacted now old image =
      (ledger_in rules image ≡ Ok (Some old)) ⊎ ((new : Held R) × Compacts now old new × (ledger_in rules image ≡ Ok (Some new)))

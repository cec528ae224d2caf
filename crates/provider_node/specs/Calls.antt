-- Which changing calls a step makes on its disk: those of an opening, of one compaction and of one commit, all of them
-- or a beginning.
use Rattle.std.specs.Prelude.{◌≡◌, ◌<◌, ◌⊎◌, ℕ, List, [], Option, IfSome, IsSomeAnd, Result, Ok, Err}
use Rattle.crash_disk.specs.declared.change.Change.{Change}
use Rattle.crash_disk.specs.Disk.{Image, DiskState}
use Rattle.crash_disk.specs.Plans.{IsBegun, LeftAmid, after_all}
use Rattle.gate_journal.specs.declared.fault.OpenFault.{OpenFault}
use Rattle.gate_journal.specs.declared.fault.OpenFault.TheVariants.{NoMemory}
use Rattle.record_ledger.specs.Rules.{RecordRules}
use Rattle.record_ledger.specs.Ledger.{Held, IsWithOrWithout, LeftByOpening}
use Rattle.record_ledger.specs.Calls.{opening, compacting, committing}
use Rattle.record_ledger.specs.Compacting.{LAST_GENERATION, IsCompacted, IsOldOrCompacted}

-- All calls of a plan were made, each of which succeeded, from what the disk told to what it tells, as far as it tells.
abbrev pub Makes : (plan : DiskState → List Change) → (told later : Option DiskState) → Type 0
Makes plan told later = IfSome told (λ disk. IsSomeAnd later (λ now. now ≡ after_all (plan disk) disk))

-- A beginning of them was made: up to one, which was the last that succeeded, or failed.
abbrev pub Begins : (plan : DiskState → List Change) → (told later : Option DiskState) → Type 0
Begins plan told later = IfSome told (λ disk. IsSomeAnd later (λ now. IsBegun (plan disk) disk now))

-- A crash amid them may leave this image, as far as the disk tells.
abbrev pub IsAmid : (plan : DiskState → List Change) → (told : Option DiskState) → Image → Type 0
IsAmid plan told image = IfSome told (λ disk. LeftAmid (plan disk) disk image)

module _ {R : Type 0} (rules : RecordRules R) (now : ℕ) (found : Held R) where
  -- So it is of the calls that make a ledger anew at a moment. At the last generation there are none.
  abbrev pub OfRemaking : ((plan : DiskState → List Change) → Type 0) → Type 0
  OfRemaking Goes = (found.header.generation < LAST_GENERATION)
      × (made : Held R) × IsCompacted rules now found made × Goes (compacting rules made)

  -- One compaction ended: at the last generation without a call.
  abbrev pub MakesCompaction : (told later : Option DiskState) → Type 0
  MakesCompaction told later = ((found.header.generation ≡ LAST_GENERATION) × Makes (λ disk. []) told later)
      ⊎ OfRemaking (λ plan. Makes plan told later)

  -- It was begun, or was not.
  abbrev pub BeginsCompaction : (told later : Option DiskState) → Type 0
  BeginsCompaction told later = Begins (λ disk. []) told later ⊎ OfRemaking (λ plan. Begins plan told later)

  -- A crash amid it, or before its first call.
  abbrev pub IsAmidCompaction : (told : Option DiskState) → Image → Type 0
  IsAmidCompaction told image = IsAmid (λ disk. []) told image ⊎ OfRemaking (λ plan. IsAmid plan told image)

  -- as far as its answer says
  abbrev pub CompactionCalls : (told later : Option DiskState) → Result (Unit {0}) OpenFault → Type 0
  CompactionCalls told later (Ok done) = MakesCompaction told later
  CompactionCalls told later (Err NoMemory) = later ≡ told
  CompactionCalls told later (Err fault) = BeginsCompaction told later

  -- WHAT A CRASH LEAVES

  -- inside a compaction: the ledger that it finds, or that made anew, and no more than amid its calls
  pub record CompactingLeaves (told : Option DiskState) (image : Image) : Type 0 where
    pub stands : IsOldOrCompacted rules now found image
    pub amid : IsAmidCompaction told image

module _ {R : Type 0} (rules : RecordRules R) where
  -- inside an opening: what the disk stood for, or what is opened from it, and no more than amid the calls of an
  -- opening
  pub record OpeningLeaves (told : Option DiskState) (image : Image) : Type 0 where
    pub stands : LeftByOpening rules told image
    pub amid : IsAmid (opening rules) told image

  -- inside a commit: the ledger with the record or without, and no more than amid its calls
  pub record CommittingLeaves (r : R) (held : Held R) (told : Option DiskState) (image : Image) : Type 0 where
    pub stands : IsWithOrWithout rules r held image
    pub amid : IsAmid (committing rules held r) told image

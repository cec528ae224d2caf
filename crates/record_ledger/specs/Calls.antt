-- Which changing calls of a disk the calls of a ledger make, in their order.
use Rattle.std.specs.Prelude.{◌≡◌, ◌<◌, OnOk, ℕ, ◌⊎◌, ◌==◌, if◌then◌else◌, List, [], ◌++◌, Option, None, Some, Result, Ok, Err}
use Rattle.crash_disk.specs.declared.change.Change.{Change}
use Rattle.crash_disk.specs.Disk.{DiskState, image_of}
use Rattle.crash_disk.specs.Moments.{DiskShown}
use Rattle.crash_disk.specs.Plans.{Follows}
use Rattle.gate_journal.specs.Format.{Fault}
use Rattle.gate_journal.specs.Calls as journals
use Rattle.record_ledger.specs.Rules.{RecordRules}
use Rattle.record_ledger.specs.Ledger.{Held, ledger_in, migrated, kept_of}
use Rattle.record_ledger.specs.Compacting.{IsCompacted, LAST_GENERATION}

module _ {R : Type 0} (rules : RecordRules R) where
  -- a ledger of version 1 is made anew in version 2
  abbrev pub migrating : Result (Option (Held R)) Fault → DiskState → List Change
  migrating (Ok None) disk = []
  migrating (Ok (Some held)) disk = if held.version == 1 then journals.remaking (kept_of rules (migrated held)) disk else []
  migrating (Err fault) disk = []

  -- What an opening makes, also one again: that of the journal, and then the migration of a version 1.
  abbrev pub opening : DiskState → List Change
  opening disk = journals.opening disk ++ migrating (ledger_in rules (image_of disk)) disk

  -- What a compaction makes: the new ledger, in the other file.
  abbrev pub compacting : (made : Held R) → DiskState → List Change
  compacting made disk = journals.remaking (kept_of rules made) disk

  -- What a commit makes: it writes the record behind those that are there.
  abbrev pub committing : Held R → R → DiskState → List Change
  committing held r disk = journals.appending (kept_of rules held) (rules.bytes 2 r)

  -- What a compaction at a moment made, as far as the answer says: no changing call, where it succeeded only at the last
  -- generation; or, at none but that, the calls that make the ledger anew.
  abbrev pub FollowsCompaction : {D T E : Type 0} → (D → DiskShown) → (now : ℕ) → Held R →
      (old new : D) → Result T E → Type 0
  FollowsCompaction shows now held old new result =
      (OnOk result (held.header.generation ≡ LAST_GENERATION) × Follows shows (λ _. []) old new result)
      ⊎ ((held.header.generation < LAST_GENERATION) × (made : Held R) × IsCompacted rules now held made
      × Follows shows (compacting made) old new result)

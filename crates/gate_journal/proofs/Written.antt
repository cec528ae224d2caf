-- What a disk tells while a record is written.
use Rattle.std.specs.Prelude.{IfSome, IsSomeAnd, MatchOption, OnOk, Option, None, Some, Result, Ok, Err}
use Rattle.std.specs.Option.{option_map}
use Rattle.std.proofs.Common.{◌≡◌, inl, ℕ, ◌≤◌, List, [], ◌∷◌, length, refl, ◌∙◌, ap, subst, arith}
use Rattle.crash_disk.specs.declared.file_no.FileNo.{FileNo}
use Rattle.crash_disk.specs.declared.change.Change.TheVariants.{Write, Sync}
use Rattle.crash_disk.specs.Disk.{Image, DiskState, MayLeave, reads_of, Changes, after}
use Rattle.crash_disk.specs.Moments.{Leaves}
use Rattle.crash_disk.specs.Steps.{leaves_begun, leaves_sync}
use Rattle.crash_disk.specs.Torn.{settled-disk}
use Rattle.gate_journal.specs.Format.{journal, body_of}
use Rattle.gate_journal.specs.Journal.{IsReadyFor, WithOrWithout, Gained}
use Rattle.gate_journal.proofs.Lifting.{Reads}
use Rattle.gate_journal.proofs.Stages.{end_fits, first_write, staged_reads, gate_fits, second_write, written, written_quiet, written_stands}

module _ (file : FileNo) (end gate : ℕ) (payload : List ℕ) where
  abbrev Ready : Option DiskState → Type 0
  Ready told = IfSome told (IsReadyFor file end gate payload)

  abbrev pub Left : Option DiskState → Image → Type 0
  Left told image = IsSomeAnd told (λ d. WithOrWithout payload d image)

  pub at_start : (told : Option DiskState) → Ready told → (image : Image) → Leaves told image → Left told image
  at_start None ready image left = left
  at_start (Some d) ready image left = (ready.kept, ready.stands, inl (ap journal (ready.settled image left) ∙ ready.stands))

  pub first_place : (told : Option DiskState) → Reads told → Ready told → IfSome told (λ d. end ≤ length (reads_of d file))
  first_place None reads ready = tt
  first_place (Some d) reads ready = end_fits d reads file end gate payload ready

  pub at_first : {T E : Type 0} (told : Option DiskState) → Reads told → Ready told → (result : Result T E) (now : Option DiskState) → Changes (Write file end (body_of payload)) told result now
      → (image : Image) → Leaves now image → Left told image
  at_first None reads ready result now is image left = leaves_begun (Write file end (body_of payload)) None result now image is reads left
  at_first (Some d) reads ready result now is image left =
      let may = leaves_begun (Write file end (body_of payload)) (Some d) result now image is reads left in
      (ready.kept, ready.stands, inl (first_write d reads file end gate payload ready image may))

  pub at_sync : {T E : Type 0} (told : Option DiskState) → Reads told → (result : Result T E) (now : Option DiskState) → Changes (Sync file) told result now → (image : Image) → Leaves now image → Leaves told image
  at_sync told reads result now is image left = leaves_sync (Sync file) told result now image (λ d. refl) is reads left

  -- once the first write and its sync succeeded
  module _ (told first second : Option DiskState) (reads : Reads told) (ready : Ready told) (wrote : first ≡ option_map (after (Write file end (body_of payload))) told) (synced : second ≡ option_map (after (Sync file)) first) where
    second_is : second ≡ option_map (after (Sync file)) (option_map (after (Write file end (body_of payload))) told)
    second_is = synced ∙ ap (option_map (after (Sync file))) wrote

    pub second_place : IfSome second (λ d. gate ≤ length (reads_of d file))
    second_place = go told reads ready second_is
      where
        go : (told : Option DiskState) → Reads told → Ready told → second ≡ option_map (after (Sync file)) (option_map (after (Write file end (body_of payload))) told) → IfSome second (λ d. gate ≤ length (reads_of d file))
        go None reads ready is = rw is tt
        go (Some d) reads ready is = rw is (
            let long = ap length (staged_reads d reads file end gate payload ready) in
            let fits = gate_fits d reads file end gate payload ready in
            omega arith
            )

    pub at_second : {T E : Type 0} → Reads second → (result : Result T E) (now : Option DiskState) → Changes (Write file gate (1 ∷ [])) second result now → (image : Image) → Leaves now image → Left told image
    at_second second_reads result now is image left = go told reads ready second_is
      where
        go : (told : Option DiskState) → Reads told → Ready told → second ≡ option_map (after (Sync file)) (option_map (after (Write file end (body_of payload))) told) → Left told image
        go None reads ready second_is = subst (λ (o : Option DiskState). IsSomeAnd o (λ d. MayLeave (after (Write file gate (1 ∷ [])) d) image)) second_is (leaves_begun (Write file gate (1 ∷ [])) second result now image is second_reads left)
        go (Some d) reads ready second_is =
            let may = subst (λ (o : Option DiskState). IsSomeAnd o (λ d. MayLeave (after (Write file gate (1 ∷ [])) d) image)) second_is (leaves_begun (Write file gate (1 ∷ [])) second result now image is second_reads left) in
            (ready.kept, ready.stands, second_write d reads file end gate payload ready image may)

    pub at_end : (third fourth : Option DiskState) → third ≡ option_map (after (Write file gate (1 ∷ []))) second → fourth ≡ option_map (after (Sync file)) third
        → MatchOption told (fourth ≡ None) (λ d. IsSomeAnd fourth (Gained payload d))
    at_end third fourth wrote_gate synced_gate = go told reads ready (synced_gate ∙ ap (option_map (after (Sync file))) (wrote_gate ∙ ap (option_map (after (Write file gate (1 ∷ [])))) second_is))
      where
        go : (told : Option DiskState) → Reads told → Ready told
            → fourth ≡ option_map (after (Sync file)) (option_map (after (Write file gate (1 ∷ []))) (option_map (after (Sync file)) (option_map (after (Write file end (body_of payload))) told)))
            → MatchOption told (fourth ≡ None) (λ d. IsSomeAnd fourth (Gained payload d))
        go None reads ready is = is
        go (Some d) reads ready is = rw is (
          settled-disk (written d reads file end gate payload ready) (written_quiet d reads file end gate payload ready),
          (ready.kept, ready.stands, written_stands d reads file end gate payload ready),
        )

    pub at_return : {T E : Type 0} (third fourth : Option DiskState) (result : Result T E) → third ≡ option_map (after (Write file gate (1 ∷ []))) second → Changes (Sync file) third result fourth
        → OnOk result (MatchOption told (fourth ≡ None) (λ d. IsSomeAnd fourth (Gained payload d)))
    at_return third fourth (Ok x) wrote_gate synced_gate = at_end third fourth wrote_gate synced_gate
    at_return third fourth (Err e) wrote_gate synced_gate = tt

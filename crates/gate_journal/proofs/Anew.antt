-- What a crash may leave while a file that has a header is begun anew.
use Rattle.std.specs.Prelude.{slice_index}
use Rattle.std.proofs.Common.{◌≡◌, ◌≢◌, inl, ℕ, ◌+◌, ◌<◌, List, [], length, take, drop, get_or, refl, sym, ◌∙◌, ap, subst, arith, length-take, get_or-take}
use Rattle.std.proofs.lemmas.List.{append-nil, take_at}
use Rattle.crash_disk.specs.declared.file_no.FileNo.{FileNo}
use Rattle.crash_disk.specs.declared.file_no.FileNo.TheVariants.{Zero, One}
use Rattle.crash_disk.specs.declared.change.Change.TheVariants.{Write, Cut, Sync}
use Rattle.crash_disk.specs.Disk.{Image, FileState, DiskState, MayLeave, content, file_of as state_of_file, reads_of, overwritten, after_write, after}
use Rattle.crash_disk.specs.Soundness.{length-overwritten, overwritten-below}
use Rattle.crash_disk.specs.Torn.{IsOutside-push, IsQuiet, other_file, quiet_of, settled-disk, reads-write}
use Rattle.gate_journal.specs.Format.{letters, file_of}
use Rattle.gate_journal.specs.Making.{IsHead, IsAt, IsBlankBeside, IsClosed, IsFilling, IsUnderWay, Changing}
use Rattle.gate_journal.proofs.Files.{closed_blank}
use Rattle.gate_journal.proofs.Appending.{part_same}
use Rattle.gate_journal.proofs.Stages.{content-image, drop-overwritten}
use Rattle.gate_journal.proofs.Commits.{changing-cut, changing-sync, torn-at, clipped-at, closed_left}

-- the state of a file after a write
pub write-state : (disk : DiskState) (file : FileNo) (at : ℕ) (more : List ℕ) → state_of_file (after (Write file at more) disk) file ≡ after_write at more (state_of_file disk file)
write-state disk Zero at more = refl
write-state disk One at more = refl

-- The file was cut to a header that is not committed, of a text that had one. The disk is as S says of the header.
pub record IsShortened (S : List ℕ → DiskState → Type 0) (disk : DiskState) : Type 0 where
  pub bytes : List ℕ
  pub head : IsHead bytes
  pub closed : slice_index bytes 0 ≢ 1
  pub state : S (take 72 bytes) disk

module _ (file : FileNo) (other : List ℕ) where
  -- while the cut is not synced, and behind its sync
  abbrev pub IsCut : DiskState → Type 0
  IsCut = IsShortened (λ bytes disk. Changing (IsBlankBeside file other) file bytes other disk)

  abbrev pub IsSynced : DiskState → Type 0
  IsSynced = IsShortened (λ bytes disk. IsAt file bytes other disk)

  closed_at : (disk : DiskState) → IsClosed file other disk → IsAt file (reads_of disk file) other disk
  closed_at disk is = record { quiet = is.quiet; reads = refl; beside = is.beside }

  pub anew_now : (disk : DiskState) → IsClosed file other disk → (image : Image) → MayLeave disk image → IsBlankBeside file other image
  anew_now disk is image may =
      let left = settled-disk disk is.quiet image may in
      let own : content image file ≡ reads_of disk file = ap (λ (i : Image). content i file) left ∙ content-image disk file in
      (ap file_of own ∙ closed_blank (reads_of disk file) is.head is.closed, ap (λ (i : Image). content i (other_file file)) left ∙ content-image disk (other_file file) ∙ is.beside)

  pub anew_cut : (disk : DiskState) → IsClosed file other disk → (image : Image) → MayLeave (after (Cut file 72) disk) image → IsBlankBeside file other image
  anew_cut disk is image may =
      let bytes = reads_of disk file in
      let parts = clipped-at file bytes other 72 disk image (closed_at disk is) may in
      let low = parts.0.no_shorter in
      let high = parts.0.no_longer in
      let long = is.head.long in
      let short = is.head.short in
      closed_left file bytes other image long is.head.letters_are is.closed (omega arith) (omega arith) (λ i le. parts.0.same i (omega arith) (omega arith)) parts.1

  pub anew_is_cut : (disk : DiskState) → IsClosed file other disk → IsCut (after (Cut file 72) disk)
  anew_is_cut disk is =
      record { bytes = reads_of disk file; head = is.head; closed = is.closed; state = changing-cut (IsBlankBeside file other) file (reads_of disk file) other 72 disk (closed_at disk is) (anew_cut disk is) }

  pub anew_synced : (disk : DiskState) → IsCut disk → IsSynced (after (Sync file) disk)
  anew_synced disk is = record { bytes = is.bytes; head = is.head; closed = is.closed; state = changing-sync (IsBlankBeside file other) file (take 72 is.bytes) other disk is.state }

  module _ (fields : List ℕ) (sized : length fields ≡ 63) (disk : DiskState) (is : IsSynced disk) where
    abbrev front : List ℕ
    front = take 72 is.bytes

    front_long : length front ≡ 72
    front_long = let l = is.head.long in omega (arith, length-take 72 is.bytes)

    front_letters : take 7 (drop 1 front) ≡ letters
    front_letters = let l = is.head.long in part_same is.bytes front 1 7 (omega arith) (omega (arith, front_long)) (λ i from to. get_or-take 72 is.bytes i 0 (omega arith)) ∙ is.head.letters_are

    front_closed : slice_index front 0 ≢ 1
    front_closed one = is.closed (sym (get_or-take 72 is.bytes 0 0 (omega arith)) ∙ one)

    pub anew_write : (image : Image) → MayLeave (after (Write file 8 fields) disk) image → IsBlankBeside file other image
    anew_write image may =
        let sized_front = front_long in
        let parts = torn-at file front other 8 fields disk image is.state (omega arith) may in
        let low = parts.0.no_shorter in
        let high = parts.0.no_longer in
        closed_left file front other image (omega arith) front_letters front_closed (omega arith) (omega arith) (λ i le. parts.0.same i (omega arith) (inl le)) parts.1

    abbrev new : List ℕ
    new = overwritten front 8 fields

    new_long : length new ≡ 72
    new_long = let l = front_long in length-overwritten front 8 fields (omega arith) ∙ omega arith

    new_same : (i : ℕ) → i < 8 → get_or new i 0 ≡ get_or front i 0
    new_same i le = let l = front_long in overwritten-below front 8 fields i le (omega arith)

    new_under : IsUnderWay file new other (after (Write file 8 fields) disk)
    new_under =
        let quiet = quiet_of disk file is.state.quiet in
        let long_reads : length (reads_of disk file) ≡ 72 = ap length is.state.reads ∙ front_long in
        let state = write-state disk file 8 fields in
        let least = quiet.least in
        let greatest = quiet.greatest in
        let nl : length (overwritten (reads_of disk file) 8 fields) ≡ 72 = ap (λ (b : List ℕ). length (overwritten b 8 fields)) is.state.reads ∙ new_long in
        record {
          least = rw state (omega arith);
          greatest = rw state (omega arith);
          outside = λ i le. rw state (IsOutside-push i (state_of_file disk file).written (record { start = 8; end = 8 + length fields }) (quiet.outside i (omega arith)) (inl le));
          same = λ i le. rw state (quiet.same i (omega arith) ∙ ap (λ (b : List ℕ). get_or b i 0) is.state.reads ∙ sym (new_same i le));
          long = omega (arith, new_long);
          closed = λ one. front_closed (sym (new_same 0 (omega arith)) ∙ one);
          letters_are = part_same front new 1 7 (omega (arith, front_long)) (omega (arith, new_long)) (λ i from to. new_same i (omega arith)) ∙ front_letters;
          reads = (reads-write disk file 8 fields).0 ∙ ap (λ (b : List ℕ). overwritten b 8 fields) is.state.reads;
          other_quiet = subst IsQuiet (sym (reads-write disk file 8 fields).1) (quiet_of disk (other_file file) is.state.quiet);
          beside = ap (λ (f : FileState). f.reads) (reads-write disk file 8 fields).1 ∙ is.state.beside;
        }

    pub anew_end : IsFilling file fields [] other (after (Write file 8 fields) disk)
    anew_end = record {
      head = new;
      long = new_long;
      fields_are = (let l = front_long in ap (take 63) (drop-overwritten front 8 fields (omega arith)) ∙ take_at fields (drop (8 + length fields) front) 63 sized);
      under = subst (λ (b : List ℕ). IsUnderWay file b other (after (Write file 8 fields) disk)) (sym (append-nil new)) new_under;
    }

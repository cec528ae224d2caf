-- What a crash may leave while a file is committed.
use Rattle.std.specs.Prelude.{slice_index, None, Some, Ok}
use Rattle.std.proofs.Common.{◌≡◌, ◌≢◌, ◌⊎◌, inl, inr, zero, suc, ℕ, ◌+◌, ◌<◌, ◌≤◌, List, [], ◌∷◌, length, take, drop, get_or, refl, sym, ◌∙◌, ap, subst, arith, length-drop, get_or-drop}
use Rattle.std.proofs.lemmas.List.{ext_get_or}
use Rattle.std.proofs.lemmas.Bool.{cases_eq}
use Rattle.crash_disk.specs.declared.file_no.FileNo.{FileNo}
use Rattle.crash_disk.specs.declared.change.Change.TheVariants.{Write, Cut, Sync}
use Rattle.crash_disk.specs.Disk.{Image, FileState, DiskState, MayLeave, image_of, content, reads_of, overwritten, after}
use Rattle.crash_disk.specs.Torn.{Torn, Clipped, IsQuiet, other_file, quiet_of, quiet-sync, settled-disk, torn-disk, clipped-disk, reads-write, reads-cut, reads-sync}
use Rattle.gate_journal.specs.Format.{Committed, letters, file_of}
use Rattle.gate_journal.specs.Making.{Changing, IsBlankBeside, IsMadeOrBlank, IsAt, with_commit, IsWritten, IsMade}
use Rattle.gate_journal.proofs.Files.{IsCommitted, closed_blank, committed-inverse}
use Rattle.gate_journal.proofs.Appending.{part_same}
use Rattle.gate_journal.proofs.Stages.{content-image}

-- a file whose bytes but the first are those of a file that would hold a journal with its commit
module _ (bytes left : List ℕ) (holds : Committed) (is : file_of (with_commit bytes) ≡ Ok (Some holds)) (long : length left ≡ length bytes)
    (same : (i : ℕ) → i < length bytes → 1 ≤ i → get_or left i 0 ≡ get_or bytes i 0) where
  committed : IsCommitted (with_commit bytes) holds
  committed = committed-inverse (with_commit bytes) holds is

  some : 72 ≤ length bytes
  some = let dropped = length-drop 1 bytes in let l = committed.head.long in omega arith

  with_long : length (with_commit bytes) ≡ length bytes
  with_long = let dropped = length-drop 1 bytes in let l = some in omega arith

  later : (i : ℕ) → 1 ≤ i → i < length bytes → get_or left i 0 ≡ get_or (with_commit bytes) i 0
  later zero from to = absurd (omega arith)
  later (suc i) from to = same (suc i) to from ∙ (let plus : suc i ≡ 1 + i = omega arith in ap (λ (k : ℕ). get_or bytes k 0) plus) ∙ sym (get_or-drop 1 bytes i 0)

  pub left_committed : get_or left 0 0 ≡ 1 → file_of left ≡ Ok (Some holds)
  left_committed first =
      let all : left ≡ with_commit bytes = ext_get_or 0 left (with_commit bytes) (long ∙ sym with_long) each in
      ap file_of all ∙ is
    where
      each : (i : ℕ) → i < length left → get_or left i 0 ≡ get_or (with_commit bytes) i 0
      each zero low = first
      each (suc i) low = later (suc i) (omega arith) (omega arith)

  pub left_blank : get_or left 0 0 ≢ 1 → file_of left ≡ Ok None
  left_blank closed =
      let l = some in
      let w = with_long in
      let shifted : (i : ℕ) → 1 ≤ i → i < 1 + 7 → get_or left i 0 ≡ get_or (with_commit bytes) i 0 = λ i from to. later i from (omega (arith, some)) in
      closed_blank left (record { long = omega arith; letters_are = part_same (with_commit bytes) left 1 7 (omega arith) (omega arith) shifted ∙ committed.head.letters_are; short = let s = committed.head.short in omega arith }) closed

pub changing-sync : (P : Image → Type 0) (file : FileNo) (bytes other : List ℕ) (disk : DiskState) → Changing P file bytes other disk → IsAt file bytes other (after (Sync file) disk)
changing-sync P file bytes other disk is = record {
  quiet = quiet-sync disk file is.other_quiet;
  reads = (reads-sync disk file).0 ∙ is.reads;
  beside = ap (λ (f : FileState). f.reads) (reads-sync disk file).1 ∙ is.beside;
}

pub changing-write : (P : Image → Type 0) (file : FileNo) (bytes other : List ℕ) (at : ℕ) (more : List ℕ) (disk : DiskState) → IsAt file bytes other disk
    → ((image : Image) → MayLeave (after (Write file at more) disk) image → P image) → Changing P file (overwritten bytes at more) other (after (Write file at more) disk)
changing-write P file bytes other at more disk is each = record {
  each = each;
  other_quiet = subst IsQuiet (sym (reads-write disk file at more).1) (quiet_of disk (other_file file) is.quiet);
  reads = (reads-write disk file at more).0 ∙ ap (λ (b : List ℕ). overwritten b at more) is.reads;
  beside = ap (λ (f : FileState). f.reads) (reads-write disk file at more).1 ∙ is.beside;
}

pub changing-cut : (P : Image → Type 0) (file : FileNo) (bytes other : List ℕ) (n : ℕ) (disk : DiskState) → IsAt file bytes other disk
    → ((image : Image) → MayLeave (after (Cut file n) disk) image → P image) → Changing P file (take n bytes) other (after (Cut file n) disk)
changing-cut P file bytes other n disk is each = record {
  each = each;
  other_quiet = subst IsQuiet (sym (reads-cut disk file n).1) (quiet_of disk (other_file file) is.quiet);
  reads = (reads-cut disk file n).0 ∙ ap (take n) is.reads;
  beside = ap (λ (f : FileState). f.reads) (reads-cut disk file n).1 ∙ is.beside;
}

-- what a crash may leave after a write, or a cut, of such a disk
pub torn-at : (file : FileNo) (bytes other : List ℕ) (at : ℕ) (more : List ℕ) (disk : DiskState) (image : Image) → IsAt file bytes other disk → at ≤ length bytes → MayLeave (after (Write file at more) disk) image
    → Torn at (length more) bytes (content image file) × (content image (other_file file) ≡ other)
torn-at file bytes other at more disk image is le may =
    let parts = torn-disk disk file at more image is.quiet (omega (arith, ap length is.reads)) may in
    (subst (λ (b : List ℕ). Torn at (length more) b (content image file)) is.reads parts.0, parts.1 ∙ is.beside)

pub clipped-at : (file : FileNo) (bytes other : List ℕ) (n : ℕ) (disk : DiskState) (image : Image) → IsAt file bytes other disk → MayLeave (after (Cut file n) disk) image
    → Clipped n bytes (content image file) × (content image (other_file file) ≡ other)
clipped-at file bytes other n disk image is may =
    let parts = clipped-disk disk file n image is.quiet may in
    (subst (λ (b : List ℕ). Clipped n b (content image file)) is.reads parts.0, parts.1 ∙ is.beside)

-- the disk of which all but the commit is written, synced
pub commit_sync : (file : FileNo) (holds : Committed) (other : List ℕ) (disk : DiskState) → MayLeave disk (image_of disk) → IsWritten file holds other disk → IsAt file (reads_of disk file) other (after (Sync file) disk)
commit_sync file holds other disk reads is =
    changing-sync (IsBlankBeside file other) file (reads_of disk file) other disk (record { each = is.blank; other_quiet = is.other_quiet; reads = refl; beside = sym (content-image disk (other_file file)) ∙ (is.blank (image_of disk) reads).1 })

-- the commit is written
pub commit_images : (file : FileNo) (holds : Committed) (bytes other : List ℕ) (disk : DiskState) → slice_index bytes 0 ≢ 1 → file_of (with_commit bytes) ≡ Ok (Some holds) → IsAt file bytes other disk
    → (image : Image) → MayLeave (after (Write file 0 (1 ∷ [])) disk) image → IsMadeOrBlank file holds other image
commit_images file holds bytes other disk closed with_it is image may =
    let parts = torn-at file bytes other 0 (1 ∷ []) disk image is (omega arith) may in
    let low = parts.0.no_shorter in
    let high = parts.0.no_longer in
    let l = some bytes bytes holds with_it refl (λ i inside from. refl) in
    let long : length (content image file) ≡ length bytes = omega arith in
    let same : (i : ℕ) → i < length bytes → 1 ≤ i → get_or (content image file) i 0 ≡ get_or bytes i 0 = λ i inside from. parts.0.same i inside (inr (omega arith)) in
    let cases : (file_of (content image file) ≡ Ok None) ⊎ (file_of (content image file) ≡ Ok (Some holds)) = elim (cases_eq (get_or (content image file) 0 0) 1) [
      | inl first ↦ inr (left_committed bytes (content image file) holds with_it long same first)
      | inr shut ↦ inl (left_blank bytes (content image file) holds with_it long same shut)
    ] in
    (cases, parts.1)

pub commit_end : (P : Image → Type 0) (file : FileNo) (holds : Committed) (bytes other : List ℕ) (disk : DiskState) → file_of (with_commit bytes) ≡ Ok (Some holds) → Changing P file (with_commit bytes) other disk → IsMade file holds other (after (Sync file) disk)
commit_end P file holds bytes other disk with_it is =
    let at = changing-sync P file (with_commit bytes) other disk is in
    record { settled = settled-disk (after (Sync file) disk) at.quiet; holds_it = ap file_of at.reads ∙ with_it; beside = at.beside }

-- the disk of which all but the commit is written and synced
pub record Staged (file : FileNo) (holds : Committed) (other : List ℕ) (disk : DiskState) : Type 0 where
  pub bytes : List ℕ
  pub at : IsAt file bytes other disk
  pub closed : slice_index bytes 0 ≢ 1
  pub holds_with : file_of (with_commit bytes) ≡ Ok (Some holds)

-- the disk to which the commit is written
pub record Marked (file : FileNo) (holds : Committed) (other : List ℕ) (disk : DiskState) : Type 0 where
  pub bytes : List ℕ
  pub changing : Changing (IsMadeOrBlank file holds other) file (with_commit bytes) other disk
  pub holds_with : file_of (with_commit bytes) ≡ Ok (Some holds)

-- a file that is not committed, changed behind its first eight bytes
pub closed_left : (file : FileNo) (bytes other : List ℕ) (image : Image) → 72 ≤ length bytes → take 7 (drop 1 bytes) ≡ letters → slice_index bytes 0 ≢ 1
    → 72 ≤ length (content image file) → length (content image file) ≤ 134217728 → ((i : ℕ) → i < 8 → get_or (content image file) i 0 ≡ get_or bytes i 0)
    → content image (other_file file) ≡ other → IsBlankBeside file other image
closed_left file bytes other image long letters_are closed left_long short same beside =
    let first = same 0 (omega arith) in (
      closed_blank (content image file) (record { long = left_long; letters_are = part_same bytes (content image file) 1 7 (omega arith) (omega arith) (λ i from to. same i (omega arith)) ∙ letters_are; short = short }) (λ one. closed (sym first ∙ one)),
      beside,
    )

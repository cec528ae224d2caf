-- What a crash may leave while the commit is taken off a file.
use Rattle.std.specs.Prelude.{◌==◌, if◌then◌else◌, slice_index, IfSome, None, Some, Ok}
use Rattle.std.proofs.Common.{◌≡◌, ◌≢◌, ◌⊎◌, inl, inr, Option, ℕ, ◌<◌, ◌≤◌, List, [], ◌∷◌, ◌++◌, length, drop, get_or, refl, sym, ◌∙◌, ap, subst, arith}
use Rattle.std.proofs.lemmas.Bool.{cases_eq}
use Rattle.crash_disk.specs.declared.file_no.FileNo.{FileNo}
use Rattle.crash_disk.specs.declared.change.Change.TheVariants.{Write, Sync}
use Rattle.crash_disk.specs.Disk.{Image, DiskState, MayLeave, content, reads_of, read_from, after}
use Rattle.gate_journal.specs.Calls.{closing}
use Rattle.gate_journal.specs.Format.{Committed, file_of}
use Rattle.gate_journal.specs.Making.{IsHead, IsAt, IsBeforeOrBlank, IsClosed, IsHolding, Changing, with_commit}
use Rattle.gate_journal.proofs.Files.{committed-inverse, none-inverse}
use Rattle.gate_journal.proofs.Commits.{changing-sync, changing-write, torn-at, left_committed, left_blank}
use Rattle.gate_journal.proofs.Holding.{holding_closed}

-- the byte that a read of one gives
pub first_read : (bytes rest : List ℕ) → 1 ≤ length bytes → get_or (read_from bytes 0 1 ++ rest) 0 0 ≡ slice_index bytes 0
first_read [] rest some = absurd (omega arith)
first_read (b ∷ bytes) rest some = refl

-- the calls that take the commit off, where the byte that was read says that there is one
pub closed_open : (file : FileNo) (n : ℕ) (into old : List ℕ) (told : Option DiskState) → IfSome told (λ d. 72 ≤ length (reads_of d file))
    → IfSome told (λ d. into ≡ read_from (reads_of d file) 0 1 ++ drop n old) → slice_index into 0 ≡ 1 →
    IfSome told (λ d. Write file 0 (0 ∷ []) ∷ Sync file ∷ [] ≡ closing file (reads_of d file))
closed_open file n into old None long read one = tt
closed_open file n into old (Some d) long read one =
    let first : slice_index (reads_of d file) 0 ≡ 1 =
    sym (first_read (reads_of d file) (drop n old) (omega (arith, long))) ∙ sym (ap (λ (b : List ℕ). get_or b 0 0) read) ∙ one in
    sym (ap (λ (k : ℕ). if k == 1 then Write file 0 (0 ∷ []) ∷ Sync file ∷ [] else []) first)

with_commit_same : (bytes : List ℕ) → 1 ≤ length bytes → slice_index bytes 0 ≡ 1 → with_commit bytes ≡ bytes
with_commit_same [] some first = absurd (omega arith)
with_commit_same (b ∷ bytes) some first = ap (λ (x : ℕ). x ∷ bytes) (sym first)

module _ (file : FileNo) (before : Option Committed) (other : List ℕ) where
  -- nothing is pending, and the file has a commit
  pub record IsOpen (disk : DiskState) : Type 0 where
    pub holding : IsHolding file before other disk
    pub long : 72 ≤ length (reads_of disk file)
    pub commit : slice_index (reads_of disk file) 0 ≡ 1

  -- the commit is taken off
  pub record IsClosing (disk : DiskState) : Type 0 where
    pub bytes : List ℕ
    pub head : IsHead (0 ∷ drop 1 bytes)
    pub changing : Changing (IsBeforeOrBlank file before other) file (0 ∷ drop 1 bytes) other disk

  module _ (disk : DiskState) (is : IsOpen disk) where
    abbrev bytes : List ℕ
    bytes = reads_of disk file

    at : IsAt file bytes other disk
    at = record { quiet = is.holding.quiet; reads = refl; beside = is.holding.beside }

    -- what it held, as a file that would hold that with its commit
    held : (b : Option Committed) → file_of bytes ≡ Ok b → (holds : Committed) × (b ≡ Some holds) × (file_of (with_commit bytes) ≡ Ok (Some holds))
    held None holds = let commit = is.commit in absurd ((none-inverse bytes is.long holds).1 commit)
    held (Some old) holds = let long = is.long in (old, refl, ap file_of (with_commit_same bytes (omega arith) is.commit) ∙ holds)

    pub closing_images : (image : Image) → MayLeave (after (Write file 0 (0 ∷ [])) disk) image → IsBeforeOrBlank file before other image
    closing_images image may =
        let old = held before is.holding.holds in
        let parts = torn-at file bytes other 0 (0 ∷ []) disk image at (omega arith) may in
        let low = parts.0.no_shorter in
        let high = parts.0.no_longer in
        let some = is.long in
        let long : length (content image file) ≡ length bytes = omega arith in
        let same : (i : ℕ) → i < length bytes → 1 ≤ i → get_or (content image file) i 0 ≡ get_or bytes i 0 = λ i inside from. parts.0.same i inside (inr (omega arith)) in
        let cases : (file_of (content image file) ≡ Ok before) ⊎ (file_of (content image file) ≡ Ok None) = elim (cases_eq (get_or (content image file) 0 0) 1) [
          | inl first ↦ inl (left_committed bytes (content image file) old.0 old.2 long same first ∙ ap Ok (sym old.1))
          | inr shut ↦ inr (left_blank bytes (content image file) old.0 old.2 long same shut)
        ] in
        (cases, parts.1)

    pub closing_is : IsClosing (after (Write file 0 (0 ∷ [])) disk)
    closing_is =
        let old = held before is.holding.holds in
        let head = (committed-inverse (with_commit bytes) old.0 old.2).head in
        record {
          bytes = bytes;
          head = record { long = head.long; letters_are = head.letters_are; short = head.short };
          changing = changing-write (IsBeforeOrBlank file before other) file bytes other 0 (0 ∷ []) disk at closing_images;
        }

  pub closing_closed : (disk : DiskState) → IsClosing disk → IsClosed file other (after (Sync file) disk)
  closing_closed disk is =
      let at = changing-sync (IsBeforeOrBlank file before other) file (0 ∷ drop 1 is.bytes) other disk is.changing in
      record {
        quiet = at.quiet;
        head = subst IsHead (sym at.reads) is.head;
        closed = λ one. let no : 0 ≡ 1 = sym (ap (λ (b : List ℕ). get_or b 0 0) at.reads) ∙ one in absurd (omega arith);
        beside = at.beside;
      }

  -- once the first byte was read
  module _ (n : ℕ) (into old : List ℕ) where
    abbrev IsRead : DiskState → Type 0
    IsRead disk = into ≡ read_from (reads_of disk file) 0 1 ++ drop n old

    pub read_open : (told : Option DiskState) → IfSome told (IsHolding file before other) → IfSome told (λ d. 72 ≤ length (reads_of d file)) → IfSome told IsRead → slice_index into 0 ≡ 1 → IfSome told IsOpen
    read_open None holding long read one = tt
    read_open (Some d) holding long read one = record { holding = holding; long = long; commit = sym (first_read (reads_of d file) (drop n old) (omega (arith, long))) ∙ sym (ap (λ (b : List ℕ). get_or b 0 0) read) ∙ one }

    pub read_closed : (told : Option DiskState) → IfSome told (IsHolding file before other) → IfSome told (λ d. 72 ≤ length (reads_of d file)) → IfSome told IsRead → slice_index into 0 ≢ 1 → IfSome told (IsClosed file other)
    read_closed None holding long read shut = tt
    read_closed (Some d) holding long read shut =
        holding_closed file before other d holding long (λ one. shut (ap (λ (b : List ℕ). get_or b 0 0) read ∙ first_read (reads_of d file) (drop n old) (omega (arith, long)) ∙ one))

-- Disks of which nothing is pending, at one file that holds a journal or none.
use Rattle.std.specs.Prelude.{slice_index, IfSome, Option, None, Some, Ok}
use Rattle.std.proofs.Common.{◌≡◌, ◌≢◌, inl, inr, ⊎_elim, ℕ, ◌<◌, ◌≤◌, List, length, refl, ◌∙◌, ap, arith}
use Rattle.crash_disk.specs.declared.file_no.FileNo.{FileNo}
use Rattle.crash_disk.specs.Disk.{Image, DiskState, MayLeave, content, reads_of}
use Rattle.crash_disk.specs.Torn.{IsQuietDisk, other_file, settled-disk}
use Rattle.crash_disk.specs.Moments.{Leaves}
use Rattle.gate_journal.proofs.Lifting.{here}
use Rattle.gate_journal.specs.Format.{Committed, file_of}
use Rattle.gate_journal.specs.Making.{IsBlankBeside, IsBeforeOrBlank, IsClosed, IsHead, IsHolding, IsShort, read_of}
use Rattle.gate_journal.proofs.Files.{committed-inverse, none-inverse}
use Rattle.gate_journal.proofs.Stages.{content-image}

module _ (file : FileNo) (before : Option Committed) (other : List ℕ) where
  pub holding_now : (disk : DiskState) → IsHolding file before other disk → (image : Image) → MayLeave disk image → IsBeforeOrBlank file before other image
  holding_now disk is image may =
      let left = settled-disk disk is.quiet image may in
      let own : content image file ≡ reads_of disk file = ap (λ (i : Image). content i file) left ∙ content-image disk file in
      (inl (ap file_of own ∙ is.holds), ap (λ (i : Image). content i (other_file file)) left ∙ content-image disk (other_file file) ∙ is.beside)

  -- a file that is shorter than a header, by its length
  pub holding_short : (told : Option DiskState) (n : ℕ) → IfSome told (λ d. n ≡ length (reads_of d file)) → n < 72 → IfSome told (IsHolding file before other) → IfSome told (IsShort file other)
  holding_short None n sized le holding = tt
  holding_short (Some d) n sized le holding = record { quiet = holding.quiet; short = omega arith; beside = holding.beside }

  -- a blank file is before or blank
  pub blank_before : (image : Image) → IsBlankBeside file other image → IsBeforeOrBlank file before other image
  blank_before image (blank, beside) = (inr blank, beside)

  -- one of a header at least that is not committed
  pub holding_closed : (disk : DiskState) → IsHolding file before other disk → 72 ≤ length (reads_of disk file) → slice_index (reads_of disk file) 0 ≢ 1 → IsClosed file other disk
  holding_closed disk is long closed = record { quiet = is.quiet; head = head before is.holds; closed = closed; beside = is.beside }
    where
      head : (before : Option Committed) → file_of (reads_of disk file) ≡ Ok before → IsHead (reads_of disk file)
      head None holds = (none-inverse (reads_of disk file) long holds).0
      head (Some old) holds = (committed-inverse (reads_of disk file) old holds).head

module _ (file : FileNo) (other : List ℕ) where
  pub none_blank : (image : Image) → IsBeforeOrBlank file None other image → IsBlankBeside file other image
  none_blank image (cases, beside) = (⊎_elim (λ none. none) (λ none. none) cases, beside)

  pub none_closed : (told : Option DiskState) (n : ℕ) → IfSome told (λ d. n ≡ length (reads_of d file)) → 72 ≤ n → IfSome told (IsHolding file None other) → IfSome told (IsClosed file other)
  none_closed None n sized le holding = tt
  none_closed (Some d) n sized le holding =
      let long : 72 ≤ length (reads_of d file) = omega arith in
      holding_closed file None other d holding long (none-inverse (reads_of d file) long holding.holds).1

-- a file that holds no journal, beside the other file as far as the disk tells
pub holding_none : (told : Option DiskState) (file : FileNo) → IfSome told IsQuietDisk → file_of (read_of told file) ≡ Ok None → IfSome told (IsHolding file None (read_of told (other_file file)))
holding_none None file quiet none = tt
holding_none (Some d) file quiet none = record { quiet = quiet; holds = none; beside = refl }

pub blank_told : (told : Option DiskState) (file : FileNo) → IfSome told IsQuietDisk → file_of (read_of told file) ≡ Ok None → (image : Image) → Leaves told image → IsBlankBeside file (read_of told (other_file file)) image
blank_told told file quiet none image left =
    let other = read_of told (other_file file) in
    none_blank file other image (here told (IsHolding file None other) (IsBeforeOrBlank file None other) (holding_none told file quiet none) (holding_now file None other) image left)

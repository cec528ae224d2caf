-- How a file is made anew beside the other one.
use Rattle.std.specs.Prelude.{◌≡◌, ◌≢◌, ◌⊎◌, ℕ, ◌^◌, ◌<◌, ◌≤◌, List, [], ◌∷◌, ◌++◌, length, take, drop, replicate, slice_index, Option, None, Some, Ok}
use Rattle.crash_disk.specs.declared.file_no.FileNo.{FileNo}
use Rattle.crash_disk.specs.Disk.{Image, DiskState, MayLeave, IsSettled, content, file_of as state_of, reads_of}
use Rattle.crash_disk.specs.Ranges.{IsOutside}
use Rattle.crash_disk.specs.Torn.{IsQuietDisk, IsQuiet, other_file}
use Rattle.std.specs.Int.{w64, to_be_bytes}
use Rattle.gate_journal.specs.declared.header.Header.{Header}
use Rattle.gate_journal.specs.Format.{Committed, LONGEST_FILE, letters, file_of}

-- a file of a header at least, with the letters, that is not too long
pub record IsHead (file : List ℕ) : Type 0 where
  pub long : 72 ≤ length file
  pub letters_are : take 7 (drop 1 file) ≡ letters
  pub short : length file ≤ LONGEST_FILE

-- The file holds no journal, and the other file is as it was.
abbrev pub IsBlankBeside : FileNo → List ℕ → Image → Type 0
IsBlankBeside file other image = (file_of (content image file) ≡ Ok None) × (content image (other_file file) ≡ other)

-- The file holds no journal or this one, and the other file is as it was.
abbrev pub IsMadeOrBlank : FileNo → Committed → List ℕ → Image → Type 0
IsMadeOrBlank file holds other image =
    ((file_of (content image file) ≡ Ok None) ⊎ (file_of (content image file) ≡ Ok (Some holds))) × (content image (other_file file) ≡ other)

-- The file holds what it held before or no journal, and the other file is as it was.
abbrev pub IsBeforeOrBlank : FileNo → Option Committed → List ℕ → Image → Type 0
IsBeforeOrBlank file before other image =
    ((file_of (content image file) ≡ Ok before) ⊎ (file_of (content image file) ≡ Ok None)) × (content image (other_file file) ≡ other)

-- The file holds what it held before, no journal or this one, and the other file is as it was.
abbrev pub IsBeforeOrMade : FileNo → Option Committed → Committed → List ℕ → Image → Type 0
IsBeforeOrMade file before holds other image =
    ((file_of (content image file) ≡ Ok before) ⊎ (file_of (content image file) ≡ Ok None) ⊎ (file_of (content image file) ≡ Ok (Some holds))) × (content image (other_file file) ≡ other)

-- Nothing is pending, the file holds this journal or none, and the other file reads this.
pub record IsHolding (file : FileNo) (before : Option Committed) (other : List ℕ) (disk : DiskState) : Type 0 where
  pub quiet : IsQuietDisk disk
  pub holds : file_of (reads_of disk file) ≡ Ok before
  pub beside : reads_of disk (other_file file) ≡ other

-- Nothing is pending, the file is shorter than a header, and the other file reads this.
pub record IsShort (file : FileNo) (other : List ℕ) (disk : DiskState) : Type 0 where
  pub quiet : IsQuietDisk disk
  pub short : length (reads_of disk file) < 72
  pub beside : reads_of disk (other_file file) ≡ other

-- Nothing is pending, the file has a header and is not committed, and the other file reads this.
pub record IsClosed (file : FileNo) (other : List ℕ) (disk : DiskState) : Type 0 where
  pub quiet : IsQuietDisk disk
  pub head : IsHead (reads_of disk file)
  pub closed : slice_index (reads_of disk file) 0 ≢ 1
  pub beside : reads_of disk (other_file file) ≡ other

-- Nothing is pending, and the two files read this.
pub record IsAt (file : FileNo) (bytes other : List ℕ) (disk : DiskState) : Type 0 where
  pub quiet : IsQuietDisk disk
  pub reads : reads_of disk file ≡ bytes
  pub beside : reads_of disk (other_file file) ≡ other

-- the file, committed
abbrev pub with_commit : List ℕ → List ℕ
with_commit bytes = 1 ∷ drop 1 bytes

-- All of the file but its commit was written: it holds no journal yet, and would hold this one with its commit.
pub record IsWritten (file : FileNo) (holds : Committed) (other : List ℕ) (disk : DiskState) : Type 0 where
  pub blank : (image : Image) → MayLeave disk image → IsBlankBeside file other image
  pub other_quiet : IsQuiet (state_of disk (other_file file))
  pub closed : slice_index (reads_of disk file) 0 ≢ 1
  pub holds_with : file_of (with_commit (reads_of disk file)) ≡ Ok (Some holds)

-- The file holds this journal, and nothing is pending.
pub record IsMade (file : FileNo) (holds : Committed) (other : List ℕ) (disk : DiskState) : Type 0 where
  pub settled : IsSettled disk
  pub holds_it : file_of (reads_of disk file) ≡ Ok (Some holds)
  pub beside : reads_of disk (other_file file) ≡ other

-- The file is under way: its first eight bytes are those of a file that is not committed and stay as they are, it has a
-- header's length at least, and is not too long.
pub record IsUnderWay (file : FileNo) (bytes other : List ℕ) (disk : DiskState) : Type 0 where
  pub least : 72 ≤ (state_of disk file).least
  pub greatest : (state_of disk file).greatest ≤ LONGEST_FILE
  pub outside : (i : ℕ) → i < 8 → IsOutside i (state_of disk file).written
  pub same : (i : ℕ) → i < 8 → slice_index (state_of disk file).kept i ≡ slice_index bytes i
  pub long : 72 ≤ length bytes
  pub closed : slice_index bytes 0 ≢ 1
  pub letters_are : take 7 (drop 1 bytes) ≡ letters
  pub reads : reads_of disk file ≡ bytes
  pub other_quiet : IsQuiet (state_of disk (other_file file))
  pub beside : reads_of disk (other_file file) ≡ other

-- The file is under way: a header with these fields was written, and this text behind it.
pub record IsFilling (file : FileNo) (fields text other : List ℕ) (disk : DiskState) : Type 0 where
  pub head : List ℕ
  pub long : length head ≡ 72
  pub fields_are : take 63 (drop 8 head) ≡ fields
  pub under : IsUnderWay file (head ++ text) other disk

-- the disk at a call that changes a file: what a crash may leave, and what is read
pub record Changing (P : Image → Type 0) (file : FileNo) (bytes other : List ℕ) (disk : DiskState) : Type 0 where
  pub each : (image : Image) → MayLeave disk image → P image
  pub other_quiet : IsQuiet (state_of disk (other_file file))
  pub reads : reads_of disk file ≡ bytes
  pub beside : reads_of disk (other_file file) ≡ other

-- what a disk reads as at a file, as far as it tells
abbrev pub read_of : Option DiskState → FileNo → List ℕ
read_of None file = []
read_of (Some disk) file = reads_of disk file

-- The bytes 8 to 70 of a header of version 2: generation, horizon, next number, version, zeros, and the first gate.
abbrev pub fields_bytes : Header → ℕ → List ℕ
fields_bytes header gate =
    to_be_bytes w64 header.generation ++ to_be_bytes w64 header.horizon ++ to_be_bytes w64 header.next ++ (2 ∷ []) ++ replicate 37 0 ++ gate ∷ []

-- the first 71 bytes of a header that is not committed
abbrev pub head_bytes : Header → ℕ → List ℕ
head_bytes header gate = (0 ∷ []) ++ letters ++ fields_bytes header gate

-- all but the last byte of a header that is not committed
pub record IsUnfinished (head : List ℕ) : Type 0 where
  pub long : length head ≡ 71
  pub letters_are : take 7 (drop 1 head) ≡ letters
  pub closed : slice_index head 0 ≢ 1

-- a header whose numbers fit their eight bytes
pub record IsWritable (header : Header) : Type 0 where
  pub generation : header.generation < 2 ^ 64
  pub horizon : header.horizon < 2 ^ 64
  pub next : header.next < 2 ^ 64

-- the journal that is made where there is none yet
abbrev pub first_journal : Committed
first_journal = record { version = 2; header = record { generation = 1; horizon = 0; next = 1 }; payloads = [] }

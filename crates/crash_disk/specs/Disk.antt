-- The disk rule: what a read of a disk gives, and what a crash may leave of it.
use Rattle.std.specs.Prelude.{◌≡◌, ◌⊎◌, ℕ, ◌+◌, ◌<◌, ◌≤◌, min, max, List, [], ◌∷◌, ◌++◌, length, take, drop, slice_index, Option, None, Some, IsSomeAnd, Result, Ok, Err}
use Rattle.std.specs.Option.{option_map}
use Rattle.crash_disk.specs.Ranges.{IsOutside}
use Rattle.crash_disk.specs.declared.range.Range.{Range}
use Rattle.crash_disk.specs.declared.file_no.FileNo.{FileNo}
use Rattle.crash_disk.specs.declared.file_no.FileNo.TheVariants.{Zero, One}
use Rattle.crash_disk.specs.declared.change.Change.{Change}
use Rattle.crash_disk.specs.declared.change.Change.TheVariants.{Write, Cut, Sync}

-- An image: what the two files hold.
pub record Image : Type 0 where
  pub zero : List ℕ
  pub one : List ℕ

-- two empty files
abbrev pub empty_image : Image
empty_image = record { zero = []; one = [] }

abbrev pub content : Image → FileNo → List ℕ
content image Zero = image.zero
content image One = image.one

-- One file of a disk.
pub record FileState : Type 0 where
  -- what a read gives
  pub reads : List ℕ
  -- what the file held at its last sync that succeeded
  pub kept : List ℕ
  -- the least and the greatest length that it had since then
  pub least : ℕ
  pub greatest : ℕ
  -- the ranges that were written since then
  pub written : List Range

-- A crash may leave these bytes of a file:
pub record FileMayLeave (file : FileState) (left : List ℕ) : Type 0 where
  -- any length between the least and the greatest that the file had since its last sync,
  pub no_shorter : file.least ≤ length left
  pub no_longer : length left ≤ file.greatest
  -- any bytes in each range that was written and at every place from the least length on, and the old bytes elsewhere.
  pub elsewhere : (i : ℕ) → i < file.least → IsOutside i file.written → slice_index left i ≡ slice_index file.kept i

-- A disk: its two files, and the changing calls that it took, in their order.
pub record DiskState : Type 0 where
  pub zero : FileState
  pub one : FileState
  pub calls : List Change

abbrev pub file_of : DiskState → FileNo → FileState
file_of disk Zero = disk.zero
file_of disk One = disk.one

-- what a read of that file gives
abbrev pub reads_of : DiskState → FileNo → List ℕ
reads_of disk file = (file_of disk file).reads

-- the image that a disk reads as
abbrev pub image_of : DiskState → Image
image_of disk = record { zero = disk.zero.reads; one = disk.one.reads }

-- A crash may leave this image: of each file what it may leave of that file.
pub record MayLeave (disk : DiskState) (image : Image) : Type 0 where
  pub zero : FileMayLeave disk.zero image.zero
  pub one : FileMayLeave disk.one image.one

-- A crash leaves what a read gives, and nothing else.
abbrev pub IsSettled : DiskState → Type 0
IsSettled disk = (image : Image) → MayLeave disk image → image ≡ image_of disk

-- a file that was synced: all that it reads is what it held at its last sync
abbrev pub settled : List ℕ → FileState
settled bytes = record { reads = bytes; kept = bytes; least = length bytes; greatest = length bytes; written = [] }

-- two files as a disk that took no call yet
abbrev pub files : FileState → FileState → DiskState
files zero one = record { zero = zero; one = one; calls = [] }

-- one whose two files were synced
abbrev pub settled_image : Image → DiskState
settled_image image = files (settled image.zero) (settled image.one)

-- the file with these bytes now, and their length among those that it had since its last sync
abbrev pub now_reads : List ℕ → FileState → FileState
now_reads bytes file = record file { reads = bytes; least = min file.least (length bytes); greatest = max file.greatest (length bytes) }

-- these bytes put over what is there, and past the end
abbrev pub overwritten : List ℕ → ℕ → List ℕ → List ℕ
overwritten old at bytes = take at old ++ bytes ++ drop (at + length bytes) old

-- a file after a write: it reads the new bytes, and their range was written
abbrev pub after_write : ℕ → List ℕ → FileState → FileState
after_write at bytes file =
    record (now_reads (overwritten file.reads at bytes) file) { written = file.written ++ record { start = at; end = at + length bytes } ∷ [] }

-- a file after a cut
abbrev pub after_cut : ℕ → FileState → FileState
after_cut n file = now_reads (take n file.reads) file

-- a file after a sync that succeeded: a crash leaves what a read gives
abbrev pub after_sync : FileState → FileState
after_sync file = settled file.reads

-- the disk with one of its files changed
abbrev pub on_file : FileNo → (FileState → FileState) → DiskState → DiskState
on_file Zero change disk = record disk { zero = change disk.zero }
on_file One change disk = record disk { one = change disk.one }

-- what a changing call does to the files of a disk
abbrev pub changed : Change → DiskState → DiskState
changed (Write file at bytes) disk = on_file file (after_write at bytes) disk
changed (Cut file n) disk = on_file file (after_cut n) disk
changed (Sync file) disk = on_file file after_sync disk

-- the disk after a changing call that succeeded
abbrev pub after : Change → DiskState → DiskState
after change disk = record (changed change disk) { calls = disk.calls ++ change ∷ [] }

-- The disk in which a changing call was begun, as far as a crash can tell. A write or a cut that failed counts as one that
-- was begun; a sync that failed does nothing.
abbrev pub begun : Change → DiskState → DiskState
begun (Write file at bytes) disk = after (Write file at bytes) disk
begun (Cut file n) disk = after (Cut file n) disk
begun (Sync file) disk = disk

-- a crash of this disk leaves nothing but what a crash of that one may leave
abbrev pub LeavesAtMost : DiskState → DiskState → Type 0
LeavesAtMost that this = (image : Image) → MayLeave this image → MayLeave that image

-- A changing call failed in a disk: a crash leaves no more than where it was begun, and the disk took this call or none.
pub record FailsIn (change : Change) (disk now : DiskState) : Type 0 where
  pub leaves : LeavesAtMost (begun change disk) now
  pub took : (now.calls ≡ disk.calls) ⊎ (now.calls ≡ disk.calls ++ change ∷ [])

-- What a changing call does to what a disk tells. A disk that does not tell goes on not telling.
abbrev pub Changes : {T E : Type 0} → Change → Option DiskState → Result T E → Option DiskState → Type 0
Changes change told (Ok _) now = now ≡ option_map (after change) told
Changes change None (Err _) now = now ≡ None
Changes change (Some disk) (Err _) now = IsSomeAnd now (FailsIn change disk)

-- What a read of at most `size` bytes from a place on gives: as many as are there and fit.
abbrev pub read_from : List ℕ → ℕ → ℕ → List ℕ
read_from file at size = take size (drop at file)

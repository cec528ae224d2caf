-- Disks in memory: what a stop leaves, and what a list of changing calls makes of a disk.
use Rattle.std.specs.Prelude.{◌≡◌, ◌⊎◌, ℕ, ◌+◌, ◌-◌, ◌≤◌, ◌==◌, nat_le, Bool, true, false, ◌||◌, if◌then◌else◌, List, [], ◌∷◌, ◌++◌, length, take, Option, None, Some, Result, is_ok}
use Rattle.crash_disk.specs.declared.change.Change.{Change}
use Rattle.crash_disk.specs.declared.change.Change.TheVariants.{Write, Cut, Sync}
use Rattle.crash_disk.specs.declared.change.Taken.{Taken}
use Rattle.crash_disk.specs.Counts.{one_more}
use Rattle.crash_disk.specs.Disk.{Image, FileState, FileMayLeave, DiskState, MayLeave, settled_image, after, begun, reads_of}
use Rattle.crash_disk.specs.Ranges.{is_in}

-- whether a place of a file is pending: it was written since the last sync, or lies from the least length on
abbrev pub is_pending : FileState → ℕ → Bool
is_pending file i = nat_le file.least i || is_in i file.written

-- these bytes, of which the first stands at place i, with the byte 0x01 at each place that passes the test
abbrev pub marked_from : (ℕ → Bool) → ℕ → List ℕ → List ℕ
marked_from test i [] = []
marked_from test i (byte ∷ bytes) = (if test i then 1 else byte) ∷ marked_from test (i + 1) bytes

-- what a read gives, with the byte 0x01 at each pending place
abbrev pub marked : FileState → List ℕ
marked file = marked_from (is_pending file) 0 file.reads

-- What a stop leaves of a file: 0 what it held at the last sync, 1 all changes, every other number all changes with
-- the byte 0x01 at each pending place.
abbrev pub picked : ℕ → FileState → List ℕ
picked pick file = if pick == 0 then file.kept else if pick == 1 then file.reads else marked file

abbrev pub left_by : ℕ → DiskState → Image
left_by pick disk = record { zero = picked pick disk.zero; one = picked pick disk.one }

-- the disk after a changing call that it took: it was done, or the disk stopped in it and was started again
abbrev pub after_taken : Option ℕ → Change → DiskState → DiskState
after_taken None change disk = after change disk
after_taken (Some pick) change disk = record (settled_image (left_by pick (begun change disk))) { calls = disk.calls ++ change ∷ [] }

-- the disk after these calls, the first of them first
abbrev pub replay : DiskState → List Taken → DiskState
replay disk [] = disk
replay disk (taken ∷ later) = replay (after_taken taken.stop taken.change disk) later

-- where a write may begin, and how far a cut may go
abbrev pub IsAllowed : Change → DiskState → Type 0
IsAllowed (Write file at bytes) disk = at ≤ length (reads_of disk file)
IsAllowed (Cut file n) disk = n ≤ length (reads_of disk file)
IsAllowed (Sync file) disk = Unit {0}

-- What a file reads, and what it held at its last sync, are among what a crash may leave of it.
pub record IsSound (file : FileState) : Type 0 where
  pub reads : FileMayLeave file file.reads
  pub kept : FileMayLeave file file.kept

-- a disk in memory
pub record DiskInMemory : Type 0 where
  -- the image that it was made of
  pub start : Image
  -- all changing calls that it took
  pub log : List Taken
  -- the call that is to fail and the one in which it is to stop, counted from the next changing call, which is 1: 0 where none is
  pub failing : ℕ
  pub stopping : ℕ
  -- what the stop is to leave
  pub pick : ℕ
  -- whether it stopped and was not started again
  pub stopped : Bool
  -- whether some call failed for want of memory
  pub starved : Bool
  -- the count of faults
  pub faults : ℕ

-- a disk in memory whose files hold this image, all of it synced, and that was asked for nothing yet
abbrev pub holding : Image → DiskInMemory
holding image = record {
  start = image;
  log = [];
  failing = 0;
  stopping = 0;
  pick = 0;
  stopped = false;
  starved = false;
  faults = 0;
}

-- what a disk in memory tells
abbrev pub state_of : DiskInMemory → DiskState
state_of m = replay (settled_image m.start) m.log

-- A crash since the moment t, at which the disk had taken t changing calls, might have left this image.
abbrev pub LeftSince : DiskInMemory → ℕ → Image → Type 0
LeftSince m t image = (k : ℕ) × (t ≤ k) × (k ≤ length m.log) × MayLeave (replay (settled_image m.start) (take k m.log)) image

-- the disk with one more fault
abbrev pub faulted : DiskInMemory → DiskInMemory
faulted m = record m { faults = one_more m.faults }

-- the disk with the chosen calls a call nearer
abbrev pub counted : DiskInMemory → DiskInMemory
counted m = record m { failing = m.failing - 1; stopping = m.stopping - 1 }

-- the disk with one more call taken
abbrev pub took : Change → Option ℕ → DiskInMemory → DiskInMemory
took change stop m = record m { log = m.log ++ record { change = change; stop = stop } ∷ [] }

-- What a changing call does where the disk has stopped, is to stop in it, or the call is to fail, and whether it answers
-- Ok. Of a stop and a failure that meet the stop wins, and both are used up.
abbrev pub answered : Bool → Bool → Bool → Change → DiskInMemory → Bool × DiskInMemory
answered true stops fails change m = (false, faulted m)
answered false true fails change m = (false, faulted (took change (Some m.pick) (record (counted m) { stopped = true })))
answered false false true change m = (false, faulted (counted m))
answered false false false change m = (true, took change None (counted m))

-- what a changing call does to a disk in memory where there is memory
abbrev pub after_call : Change → DiskInMemory → Bool × DiskInMemory
after_call change m = answered m.stopped (m.stopping == 1) (m.failing == 1) change m

-- what a changing call does that finds no memory
abbrev pub starved_by_call : DiskInMemory → Bool × DiskInMemory
starved_by_call m = (false, faulted (record (counted m) { starved = true }))

-- What a changing call answers, and what it does to a disk in memory.
abbrev pub Calls : {T E : Type 0} → Change → DiskInMemory → Result T E → DiskInMemory → Type 0
Calls change old result new = ((is_ok result, new) ≡ after_call change old) ⊎ ((is_ok result, new) ≡ starved_by_call old)

-- how many failures are still to come
abbrev pub due : ℕ → ℕ
due failing = if failing == 0 then 0 else 1

-- How a call of a disk in memory goes: it is a changing one and finds memory, or finds none, or it only reads.
pub data Call : Type 0 where
  Changing : Change → Call
  Starved : Call
  Reading : Call

-- the disk after it: a call that only reads fails where the disk has stopped, and changes nothing else
abbrev pub after_one : Call → DiskInMemory → DiskInMemory
after_one (Changing change) m = (after_call change m).1
after_one Starved m = (starved_by_call m).1
after_one Reading m = if m.stopped then faulted m else m

-- the disk after these calls, the first of them first
abbrev pub after_calls : List Call → DiskInMemory → DiskInMemory
after_calls [] m = m
after_calls (call ∷ later) m = after_calls later (after_one call m)

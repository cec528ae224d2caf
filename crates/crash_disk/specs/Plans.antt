-- Plans: changing calls in an order, and how far a run of calls of a disk went in one.
use Rattle.std.specs.Prelude.{◌≡◌, ◌⊎◌, List, [], ◌∷◌, IfSome, IsSomeAnd, Result, Ok, Err}
use Rattle.crash_disk.specs.declared.change.Change.{Change}
use Rattle.crash_disk.specs.Disk.{Image, DiskState, MayLeave, FailsIn, after, begun}
use Rattle.crash_disk.specs.Moments.{DiskShown, LeavesOnly}

-- the disk after all calls of a plan, each of which succeeded
abbrev pub after_all : List Change → DiskState → DiskState
after_all [] disk = disk
after_all (change ∷ plan) disk = after_all plan (after change disk)

-- A plan was begun: its calls were made in their order up to one, which was the last that succeeded, or failed.
abbrev pub IsBegun : List Change → DiskState → DiskState → Type 0
IsBegun [] disk now = now ≡ disk
IsBegun (change ∷ plan) disk now = (now ≡ disk) ⊎ FailsIn change disk now ⊎ IsBegun plan (after change disk) now

-- A plan was carried out: all of it where the answer is Ok, and else a beginning.
abbrev pub IsCarriedOut : {T E : Type 0} → Result T E → List Change → DiskState → DiskState → Type 0
IsCarriedOut (Ok _) plan disk now = now ≡ after_all plan disk
IsCarriedOut (Err _) plan disk now = IsBegun plan disk now

-- A crash amid a plan may leave this image: before its first call, or in or behind one of its calls.
abbrev pub LeftAmid : List Change → DiskState → Image → Type 0
LeftAmid [] disk image = MayLeave disk image
LeftAmid (change ∷ plan) disk image = MayLeave disk image ⊎ MayLeave (begun change disk) image ⊎ LeftAmid plan (after change disk) image

-- From the old disk to the new one it took no changing calls but those of the plan for what the old disk tells: all of them, in
-- their order, where the answer is Ok, and else a beginning of them. A crash at any moment leaves what one amid them leaves.
pub record Follows {D T E : Type 0} (shows : D → DiskShown) (plan : DiskState → List Change) (old new : D) (result : Result T E) : Type 0 where
  pub ends : IfSome (shows old).told (λ disk. IsSomeAnd (shows new).told (IsCarriedOut result (plan disk) disk))
  pub moments : IfSome (shows old).told (λ disk. LeavesOnly shows old new (LeftAmid (plan disk) disk))

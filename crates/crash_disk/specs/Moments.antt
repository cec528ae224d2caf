-- What a disk shows, and what a crash at some moment might have left.
use Rattle.std.specs.Prelude.{◌≡◌, ◌⊎◌, ℕ, ◌≤◌, List, Option, None, Some, IfSome, IsSomeAnd}
use Rattle.crash_disk.specs.Disk.{Image, DiskState, MayLeave}
use Rattle.crash_disk.specs.Memory.{DiskInMemory, Call, after_calls}

-- What a disk shows at a moment.
pub record DiskShown : Type 1 where
  -- what a read gives and what a crash may leave, where the disk tells it
  pub told : Option DiskState
  -- how many faults there were
  pub faults : ℕ
  -- the moment, as a number that never falls
  pub moment : ℕ
  -- the images that a crash at some moment from that one on might have left, during a call or between two
  pub left_since : ℕ → Image → Type 0
  -- the disk itself, where it is one in memory: its faults are chosen
  pub memory : Option DiskInMemory

-- A crash now may leave this image, as far as the disk tells: one that does not tell has told of none.
abbrev pub Leaves : Option DiskState → Image → Type 0
Leaves None image = ⊥
Leaves (Some disk) image = MayLeave disk image

-- Calls made the one disk in memory of the other, and nothing else did: so it failed only where a failure or a stop was set, or where
-- a call found no memory.
abbrev pub IsMadeByCalls : Option DiskInMemory → Option DiskInMemory → Type 0
IsMadeByCalls before now = IfSome before (λ old. IsSomeAnd now (λ new. (calls : List Call) × (new ≡ after_calls calls old)))

-- Time goes on: a crash since t might have left what it might have left before, or what it may leave now.
pub record Elapses (before now : DiskShown) : Type 0 where
  pub later : before.moment ≤ now.moment
  pub nothing_else : (t : ℕ) (image : Image) → t ≤ before.moment → now.left_since t image → before.left_since t image ⊎ Leaves now.told image
  pub keeps : (t : ℕ) (image : Image) → t ≤ before.moment → before.left_since t image → now.left_since t image
  pub calls : IsMadeByCalls before.memory now.memory

-- A crash at any moment from the old disk to the new one leaves only images that have P, and calls made the new one of the old one.
pub record LeavesOnly {D : Type 0} (shows : D → DiskShown) (old new : D) (P : Image → Type 0) : Type 0 where
  pub later : (shows old).moment ≤ (shows new).moment
  pub each : (image : Image) → (shows new).left_since (shows old).moment image → P image
  -- for a run that began earlier
  pub before : (t : ℕ) (image : Image) → t ≤ (shows old).moment → (shows new).left_since t image → (shows old).left_since t image ⊎ P image
  pub keeps : (t : ℕ) (image : Image) → t ≤ (shows old).moment → (shows old).left_since t image → (shows new).left_since t image
  pub calls : IsMadeByCalls (shows old).memory (shows new).memory

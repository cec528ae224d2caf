-- A whole call that serves.
use Rattle.std.specs.Prelude.{◌≡◌, ◌⊎◌, ℕ, ◌<◌, ◌≤◌, List, [], ◌∷◌, ◌++◌, length, Contains, Option, None, Result, Ok}
use Rattle.std.specs.Prelude.{Err, IsErrOf, MatchBool}
use Rattle.std.specs.Option.{option_map}
use Rattle.crash_disk.specs.Counts.{Rose}
use Rattle.crash_disk.specs.Disk.{Image, DiskState}
use Rattle.crash_disk.specs.Moments.{Leaves}
use Rattle.event_link.specs.Links.{NextFailed, noted}
use Rattle.conn_table.specs.Table.{Table}
use Rattle.serve_loop.specs.declared.served.Served.{Served}
use Rattle.serve_loop.specs.declared.served.ServeFault.{ServeFault}
use Rattle.serve_loop.specs.declared.served.ServeFault.TheVariants.{LinkFault, NoMemory}
use Rattle.serve_loop.specs.Worlds.{NodeStep, NodeLeaves, World, IsNext}
use Rattle.serve_loop.specs.Turns.{Asked, Turn, asked_by, asked_in, Run}

-- Serving ended after these turns. Ok: the link gave Stop before the budget was used up, or as many events were taken
-- as the budget has. LinkFault: the link gave nothing more, since a `next` failed. NoMemory: nothing was begun.
abbrev pub Ends : {N : Type 0} → ℕ → List (Turn N) → World N → Result Served ServeFault → World N → Type 0
Ends budget turns last (Ok served) now = (served.events ≡ length turns)
    × MatchBool served.stopped ((length turns < budget) × IsNext None last now) ((length turns ≡ budget) × (now ≡ last))
Ends budget turns last (Err LinkFault) now =
    (length turns < budget) × (now ≡ record last { link = option_map (noted NextFailed) last.link })
Ends budget turns last (Err NoMemory) now = (turns ≡ []) × (now ≡ last)

-- A crash inside the answer to one of these requests may leave this image.
abbrev pub LeftInside : {N : Type 0} → NodeLeaves N → List (Asked N) → Image → Type 0
LeftInside leaves asked i = (one : Asked _) × Contains asked one × leaves one.node one.disk one.request one.now i

-- While these turns were done a crash might leave this image: it may leave it of the disk as it was at first, or inside
-- the answer to one of the requests.
abbrev pub MightLeave : {N : Type 0} → NodeLeaves N → Option DiskState → List (Turn N) → Image → Type 0
MightLeave leaves disk turns image = Leaves disk image ⊎ LeftInside leaves (asked_in turns) image

-- `left` says of a moment, seen from the end of a run, what a crash since then might have left.
module _ {N : Type 0} (leaves : NodeLeaves N) (left : ℕ → Image → Type 0) where
  -- Since a point of the run, before these requests came, a crash might have left
  pub record LeavesSince (point : World N) (later : List (Asked N)) : Type 0 where
    -- all that it may leave of the disk at that point,
    pub here : (image : Image) → Leaves point.disk image → left point.moment image
    -- and nothing else but what it may leave inside the answer to one of these requests.
    pub only : (image : Image) → left point.moment image → Leaves point.disk image ⊎ LeftInside leaves later image

module _ {N : Type 0} (step : NodeStep N) (leaves : NodeLeaves N) (left : ℕ → Image → Type 0) where
  -- So it is since each point of a run: behind its last turn, before these requests came, behind each turn before, and
  -- at first.
  abbrev pub LeavesInOrder : (first : World N) (turns : List (Turn N)) (kept : Table) (now : World N)
      → Run step first turns kept now → (later : List (Asked N)) → Type 0
  LeavesInOrder first [] kept now run later = LeavesSince leaves left now later
  LeavesInOrder first (turn ∷ past) kept now (old, before, given, did, next, does) later =
      LeavesSince leaves left now later × LeavesInOrder first past old before did (asked_by turn ++ later)

  module _
      (budget : ℕ) (turns : List (Turn N)) (first : World N) (result : Result Served ServeFault) (now : World N) where
    -- From the one world to the other these turns were done, a crash since each point of them leaves only what it may,
    -- and then serving ended so.
    pub record Serves : Type 0 where
      pub kept : Table
      pub last : World N
      pub run : Run step first turns kept last
      pub in_order : LeavesInOrder first turns kept last run []
      pub ends : Ends budget turns last result now

-- What serving does to the link's count of faults of `next`: it never falls, and rises where the answer is LinkFault.
pub record CountsLinkFaults (result : Result Served ServeFault) (before now : ℕ) : Type 0 where
  pub never_falls : before ≤ now
  pub failed : IsErrOf result LinkFault → Rose before now

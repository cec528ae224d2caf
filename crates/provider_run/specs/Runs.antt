-- How a run of a node goes: it is set up, its ledger is opened, it listens, and it serves.
use Rattle.std.specs.Prelude.{◌≡◌, ◌⊎◌, ℕ, List, [], Option, Result, Ok, Err}
use Rattle.crash_disk.specs.Counts.{Rose}
use Rattle.crash_disk.specs.Disk.{Image, DiskState}
use Rattle.crash_disk.specs.Moments.{DiskShown}
use Rattle.event_link.specs.Links.{LinkShown, LinkState}
use Rattle.serve_loop.specs.declared.served.Served.{Served}
use Rattle.serve_loop.specs.declared.served.ServeFault.{ServeFault}
use Rattle.serve_loop.specs.declared.served.ServeFault.TheVariants as serve_faults
use Rattle.serve_loop.specs.Worlds.{NodeLeaves, NodeStep, World, world}
use Rattle.serve_loop.specs.Turns.{Turn, asked_in}
use Rattle.serve_loop.specs.Serving.{LeftInside, Serves}
use Rattle.provider_run.specs.declared.ended.Ended.{Ended}
use Rattle.provider_run.specs.declared.ended.Ended.TheVariants as ends
use Rattle.provider_run.specs.declared.ended.RunFault.{RunFault}
use Rattle.provider_run.specs.declared.ended.RunFault.TheVariants as faults

-- WHAT IS OUTSIDE

-- What the disk, the link and the clock tell, their counts of faults, and the disk's moment.
pub record Outside : Type 0 where
  pub disk : Option DiskState
  pub disk_faults : ℕ
  pub disk_moment : ℕ
  pub link : Option LinkState
  -- the faults of `listen` and `next`, and those of `send`
  pub link_faults : ℕ
  pub send_faults : ℕ
  -- the moments to come
  pub clock : Option (List ℕ)

-- what the disk and the link show, and the moments to come
abbrev pub outside : DiskShown → LinkShown → Option (List ℕ) → Outside
outside disk link clock = record {
  disk = disk.told;
  disk_faults = disk.faults;
  disk_moment = disk.moment;
  link = link.told;
  link_faults = link.faults;
  send_faults = link.send_faults;
  clock = clock;
}

-- the world that a node serves in
abbrev pub world_of : {N : Type 0} → N → Outside → World N
world_of node o = world node o.disk o.disk_faults o.disk_moment o.link o.send_faults o.clock

-- A RUN

-- what a run comes to where serving ended so
abbrev pub result_of : Result Served ServeFault → Result Ended RunFault
result_of (Ok served) = Ok (ends.Served served)
result_of (Err serve_faults.LinkFault) = Err faults.LinkFault
result_of (Err serve_faults.NoMemory) = Err faults.NoMemory

-- all but the disk is as it was
abbrev pub IsButTheDisk : (old new : Outside) → Type 0
IsButTheDisk o n = n ≡ record o { disk = n.disk; disk_faults = n.disk_faults; disk_moment = n.disk_moment }

module _ {N : Type 0} (step : NodeStep N) (leaves : NodeLeaves N) (left : ℕ → Image → Type 0)
    (IsBadFile : List ℕ → ℕ → Type 0) (IsNotOpened : Outside → Result Ended RunFault → Type 0)
    (IsDeaf Begins : N → Outside → Type 0) (budget : ℕ) (before : Outside) (turns : List (Turn N))
    (result : Result Ended RunFault) (after : Outside) where
  -- How a run goes, with this budget of events: the turns of its node, and what the run comes to. It is said of it
  -- which file and line can't be used, when its ledger was not opened, what is left where the link did not listen, and
  -- as what it begins;
  -- and of each moment, seen from the end of the run, what a crash since then might have left.
  pub data RunsBy : Type 0 where
    -- This is the first file, the config or one that it names, that can't be used, and its line.
    BadSetUp : (bad : List ℕ) (line : ℕ)
        → IsBadFile bad line → result ≡ Ok (ends.BadFile bad line) → turns ≡ [] → after ≡ before → RunsBy
    -- A file could not be read, or there was no memory.
    NotSetUp : (result ≡ Err faults.ReadFault) ⊎ (result ≡ Err faults.NoMemory) → turns ≡ [] → after ≡ before → RunsBy
    -- The node was set up, and its ledger was not opened.
    NotOpened : IsNotOpened after result → turns ≡ [] → IsButTheDisk before after → RunsBy
    -- Its ledger was opened, and the link did not listen at its address.
    Deaf : (node : N) → IsDeaf node after → result ≡ Err faults.LinkFault
        → Rose before.link_faults after.link_faults → turns ≡ [] → RunsBy
    -- Its ledger was opened, the link listened at its address, and it served.
    Serving : (node last : N) (begun : Outside) (served : Result Served ServeFault)
        → Begins node begun → Serves step leaves left budget turns (world_of node begun) served (world_of last after)
        → result ≡ result_of served → RunsBy

-- What a crash at a moment of a run may leave: what one inside the opening of the ledger may, or one inside the answer
-- to a request.
abbrev pub RunLeavesBy : {N : Type 0} → (OpeningLeaves : Image → Type 0) → NodeLeaves N → List (Turn N) → Image → Type 0
RunLeavesBy OpeningLeaves leaves turns image = OpeningLeaves image ⊎ LeftInside leaves (asked_in turns) image

-- COMPLETENESS

-- a run that served came to its end
abbrev pub IsServed : Result Ended RunFault → Type 0
IsServed (Ok (ends.Served served)) = Unit {0}
IsServed other = ⊥

-- a run that ended before the disk was touched: a file can't be used, or could not be read
abbrev pub IsNotSetUp : Result Ended RunFault → Type 0
IsNotSetUp (Ok (ends.BadFile file line)) = Unit {0}
IsNotSetUp (Err faults.ReadFault) = Unit {0}
IsNotSetUp other = ⊥

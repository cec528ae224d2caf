-- A whole run of a schedule, and what it prints.
use Rattle.std.specs.Prelude.{◌≡◌, ◌⊎◌, ℕ, Bool, List, [], ◌++◌, length, take, Option, Result, Ok, Err, if◌then◌else◌}
use Rattle.std.specs.FinMap as map
use Rattle.crash_disk.specs.Memory.{DiskInMemory}
use Rattle.saml_outside.specs.Sinks.{then_bytes}
use Rattle.post_agent.specs.Agents.{fresh}
use Rattle.schedules.specs.declared.step.Step.{Step}
use Rattle.schedule_replay.specs.declared.fault.ReplayFault.{ReplayFault}
use Rattle.schedule_replay.specs.declared.fault.ReplayFault.TheVariants as faults
use Rattle.schedule_replay.specs.declared.tally.Tally.{Tally}
use Rattle.schedule_replay.specs.Counting.{nothing_counted}
use Rattle.schedule_replay.specs.Deployments.{Deployment}
use Rattle.serve_loop.specs.Worlds.{NodeRules}
use Rattle.schedule_replay.specs.Hosts.{Host}
use Rattle.schedule_replay.specs.Lines.{summary}
use Rattle.schedule_replay.specs.Steps.{Replays}

-- a node over a disk, with no connection
abbrev pub alone : {N : Type 0} → N → DiskInMemory → Host N
alone node disk = record { node = node; disk = disk; kept = map.empty }

-- Before the first step: the clock stands at 0, no agent has seen anything, and nothing was counted.
abbrev pub beginning : {S P : Type 0} → Host S → Host P → Deployment S P
beginning sp idp = record { clock = 0; sp = sp; idp = idp; agents = λ agent. fresh; tally = nothing_counted; lines = [] }

-- the nodes and their disks are those of a deployment
pub record AreLeft {S P : Type 0} (world : Deployment S P) (sp_now : S) (sp_disk_now : DiskInMemory) (idp_now : P)
    (idp_disk_now : DiskInMemory) : Type 0 where
  pub sp : sp_now ≡ world.sp.node
  pub sp_disk : sp_disk_now ≡ world.sp.disk
  pub idp : idp_now ≡ world.idp.node
  pub idp_disk : idp_disk_now ≡ world.idp.disk

-- the lines of the steps are printed, but where the last line alone is asked for
abbrev pub shown : Bool → List ℕ → List ℕ
shown quiet text = if quiet then [] else text

module _ {S P : Type 0} (sp : NodeRules S) (idp : NodeRules P) where
  -- What is known of a run however it ended: so many steps were done to their end, one after the other.
  pub record Ran (steps : List Step) (first : Deployment S P) : Type 0 where
    pub done : ℕ
    pub text : List ℕ
    pub last : Deployment S P
    pub replays : Replays sp idp done steps first text last

  -- How it ended, by what was taken of its output before and after. Ok: all steps were done, their lines were printed, and last
  -- what they came to. WriteFault: a part of what the steps print was taken, or of all steps all of it and a part of the last
  -- line. NoMemory: the lines of the steps that were done were printed.
  abbrev pub Ends : {steps : List Step} {first : Deployment S P} → Ran steps first → (quiet : Bool)
      → Result Tally ReplayFault → Option (List ℕ) → Option (List ℕ) → Type 0
  Ends {steps} ran quiet (Ok tally) before after =
      (ran.done ≡ length steps) × (tally ≡ ran.last.tally)
      × (after ≡ then_bytes before (shown quiet ran.text ++ summary tally))
  Ends {steps} ran quiet (Err faults.WriteFault) before after =
      (n : ℕ) × ((after ≡ then_bytes before (take n (shown quiet ran.text)))
      ⊎ ((ran.done ≡ length steps)
      × (after ≡ then_bytes before (shown quiet ran.text ++ take n (summary ran.last.tally)))))
  Ends {steps} ran quiet (Err faults.NoMemory) before after = after ≡ then_bytes before (shown quiet ran.text)

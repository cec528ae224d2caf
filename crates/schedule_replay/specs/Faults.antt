-- Where the disks of a replay fail and stop, over all its steps: where the steps set that. And what comes of a failure.
use Rattle.std.specs.Prelude.{◌≡◌, ◌≢◌, ℕ, zero, suc, ◌+◌, ◌-◌, ◌≤◌, ◌==◌, Bool, true, false, if◌then◌else◌}
use Rattle.std.specs.Prelude.{List, take, count_by, is_some, Err}
use Rattle.std.specs.List.{AllByRecursion}
use Rattle.crash_disk.specs.Memory.{DiskInMemory, due}
use Rattle.gate_journal.specs.declared.fault.OpenFault.TheVariants.{DiskFault}
use Rattle.http_wire.specs.declared.answer.Answer.TheVariants.{Fixed}
use Rattle.post_agent.specs.declared.site.Site.{Site}
use Rattle.post_agent.specs.declared.site.Site.TheVariants.{Sp, Idp}
use Rattle.schedules.specs.declared.step.Step.{Step}
use Rattle.schedules.specs.declared.step.Step.TheVariants as steps
use Rattle.schedule_replay.specs.Asked.{BothAsked, asked_doing, asked_replaying}
use Rattle.schedule_replay.specs.Deployments.{Deployment}
use Rattle.schedule_replay.specs.Ended.{BothEnded, ended_doing, ended_replaying}
use Rattle.serve_loop.specs.Worlds.{NodeRules}
use Rattle.schedule_replay.specs.Steps.{Does, Replays}

-- this is that node
abbrev pub is_node : Site → Site → Bool
is_node Sp Sp = true
is_node Idp Idp = true
is_node site other = false

-- a step sets a failure of the disk of this node
abbrev pub sets_failure : Site → Step → Bool
sets_failure site (steps.Fail node call) = is_node site node
sets_failure site step = false

-- a step sets a stop of the disk of this node
abbrev pub sets_stop : Site → Step → Bool
sets_stop site (steps.Crash node call pick) = is_node site node
sets_stop site step = false

-- a step asks for a restart of either node
abbrev pub asks_restart : Step → Bool
asks_restart (steps.Restart node) = true
asks_restart step = false

-- how many of the first so many steps set a failure of a node's disk
abbrev pub failures_set : Site → (done : ℕ) → List Step → ℕ
failures_set site done steps = count_by (sets_failure site) (take done steps)

-- how many of them set a stop of it
abbrev pub stops_set : Site → (done : ℕ) → List Step → ℕ
stops_set site done steps = count_by (sets_stop site) (take done steps)

-- how many of them ask for a restart
abbrev pub restarts_asked : (done : ℕ) → List Step → ℕ
restarts_asked done steps = count_by asks_restart (take done steps)

-- how many stops a disk took
abbrev pub stops_taken : DiskInMemory → ℕ
stops_taken disk = count_by (λ taken. is_some taken.stop) disk.log

-- the stops that a disk took and the one that is still to come
abbrev pub stops_in : DiskInMemory → ℕ
stops_in disk = stops_taken disk + due disk.stopping

-- the faults of a disk and the failure that is still to come
abbrev pub faults_in : DiskInMemory → ℕ
faults_in disk = disk.faults + due disk.failing

-- the faults of a step, if the disk stopped in it
abbrev pub faults_if_stopped : DiskInMemory → DiskInMemory → ℕ
faults_if_stopped before after = if stops_taken after == stops_taken before then 0 else after.faults - before.faults

-- the disk of a node
abbrev pub disk_of : {S P : Type 0} → Site → Deployment S P → DiskInMemory
disk_of Sp world = world.sp.disk
disk_of Idp world = world.idp.disk

-- the disk of a node runs: it has not stopped, or was started again
abbrev pub IsRunning : {S P : Type 0} → Site → Deployment S P → Type 0
IsRunning site world = (disk_of site world).stopped ≡ false

-- Nothing at this node says that its disk failed: no answer is the page of 50, and no restart and no compaction ended
-- with DiskFault.
abbrev pub NoneFailed : {S P : Type 0} → Site → BothAsked S P → BothEnded → Type 0
NoneFailed Sp asked ended =
    AllByRecursion (λ one. one.answer ≢ Fixed 50) asked.sp
    × AllByRecursion (λ result. result ≢ Err DiskFault) ended.sp
NoneFailed Idp asked ended =
    AllByRecursion (λ one. one.answer ≢ Fixed 50) asked.idp
    × AllByRecursion (λ result. result ≢ Err DiskFault) ended.idp

module _ {S P : Type 0} (sp : NodeRules S) (idp : NodeRules P) where
  -- the faults of all those steps in which a node's disk stopped
  abbrev pub faults_of_stops : (site : Site) (done : ℕ) (all : List Step) (first : Deployment S P) (text : List ℕ)
      (last : Deployment S P) → Replays sp idp done all first text last → ℕ
  faults_of_stops site zero all first text last none = 0
  faults_of_stops site (suc done) all first text last (step, before, after, earlier, were, is, did, fed, same, lines) =
      faults_of_stops site done all first earlier before were
      + faults_if_stopped (disk_of site before) (disk_of site after)

  -- A disk that runs at first runs behind each step: where it stopped it was started again.
  abbrev pub DisksRunOn : Type 0
  DisksRunOn =
      (done : ℕ) (all : List Step) (first : Deployment S P) (text : List ℕ) (last : Deployment S P)
      → Replays sp idp done all first text last → (site : Site) → IsRunning site first → IsRunning site last

  -- A disk stops only where a step set that.
  abbrev pub StopsAreSet : Type 0
  StopsAreSet =
      (done : ℕ) (all : List Step) (first : Deployment S P) (text : List ℕ) (last : Deployment S P)
      → Replays sp idp done all first text last → (site : Site) → IsRunning site first
      → stops_in (disk_of site last) ≤ stops_in (disk_of site first) + stops_set site done all

  -- A node is started again only where a step asked for that or set a stop: the restarts that are counted and the stops
  -- that are still to come are no more.
  abbrev pub RestartsAreAskedOrSet : Type 0
  RestartsAreAskedOrSet =
      (done : ℕ) (all : List Step) (first : Deployment S P) (text : List ℕ) (last : Deployment S P)
      → Replays sp idp done all first text last → IsRunning Sp first → IsRunning Idp first
      → last.tally.restarts + due last.sp.disk.stopping + due last.idp.disk.stopping
      ≤ first.tally.restarts + due first.sp.disk.stopping + due first.idp.disk.stopping
      + restarts_asked done all + stops_set Sp done all + stops_set Idp done all

  -- Where no stop was to come and none was set, a call fails only where a step set that.
  abbrev pub FailuresAreSet : Type 0
  FailuresAreSet =
      (done : ℕ) (all : List Step) (first : Deployment S P) (text : List ℕ) (last : Deployment S P)
      → Replays sp idp done all first text last → (site : Site) → IsRunning site first
      → (disk_of site first).stopping ≡ 0 → stops_set site done all ≡ 0
      → faults_in (disk_of site last) ≤ faults_in (disk_of site first) + failures_set site done all

  -- Wherever stops were set, a call fails only where a step set that, or in a step in which its disk stopped.
  abbrev pub FaultsAreSetOrOfStops : Type 0
  FaultsAreSetOrOfStops =
      (done : ℕ) (all : List Step) (first : Deployment S P) (text : List ℕ) (last : Deployment S P)
      (run : Replays sp idp done all first text last) (site : Site) → IsRunning site first
      → faults_in (disk_of site last)
      ≤ faults_in (disk_of site first) + failures_set site done all
      + faults_of_stops site done all first text last run

  -- A failure has an effect: a call of a node's disk fails only in a step in which the node says so, and in any other
  -- the disk's count of faults is as it was.
  abbrev pub EachFaultIsAnswered : Type 0
  EachFaultIsAnswered =
      (number : ℕ) (step : Step) (before after : Deployment S P) (does : Does sp idp number step before after)
      (site : Site) → NoneFailed site (asked_doing sp idp number step before after does)
      (ended_doing sp idp number step before after does)
      → (disk_of site after).faults ≡ (disk_of site before).faults

  -- So it is over all steps that were done: where a node says so in none of them, no call of its disk failed.
  abbrev pub EachFaultOfARunIsAnswered : Type 0
  EachFaultOfARunIsAnswered =
      (done : ℕ) (all : List Step) (first : Deployment S P) (text : List ℕ) (last : Deployment S P)
      (run : Replays sp idp done all first text last) (site : Site)
      → NoneFailed site (asked_replaying sp idp done all first text last run)
      (ended_replaying sp idp done all first text last run)
      → (disk_of site last).faults ≡ (disk_of site first).faults

-- The definitions of faults at worked examples.
use Rattle.std.specs.Prelude.{◌≡◌, ℕ, ◌+◌, ◌≤◌, false, List, [], ◌∷◌, ◌++◌, codes, refl}
use Rattle.std.proofs.Common.{ap, arith}
use Rattle.crash_disk.specs.declared.change.Change.TheVariants.{Cut}
use Rattle.crash_disk.specs.declared.file_no.FileNo.TheVariants.{Zero}
use Rattle.crash_disk.specs.Memory.{DiskInMemory, after_call, due}
use Rattle.post_agent.specs.declared.site.Site.{Site}
use Rattle.post_agent.specs.declared.site.Site.TheVariants.{Sp, Idp}
use Rattle.schedules.specs.declared.step.Pick.TheVariants.{Synced, Pending}
use Rattle.schedules.specs.declared.step.Step.{Step}
use Rattle.schedules.specs.declared.step.Step.TheVariants.{Restart, Crash, Fail, Compact}
use Rattle.schedule_replay.specs.Deployments.{Deployment}
use Rattle.schedule_replay.specs.Faults.{FailuresAreSet, IsRunning, RestartsAreAskedOrSet, disk_of, failures_set, faults_if_stopped, faults_in, restarts_asked, stops_in, stops_set, stops_taken}
use Rattle.serve_loop.specs.Worlds.{NodeRules}
use Rattle.schedule_replay.specs.Lines.{line}
use Rattle.schedule_replay.specs.Steps.{Replays, is_starved}

-- two failures and a stop of the one node, a stop of the other, and a restart
abbrev schedule : List Step
schedule = Fail Sp 1 ∷ Crash Idp 2 Synced ∷ Restart Sp ∷ Compact Sp ∷ Crash Sp 1 Pending ∷ Fail Sp 3 ∷ []

set : (failures_set Sp 6 schedule ≡ 2) × (failures_set Idp 6 schedule ≡ 0) × (stops_set Sp 6 schedule ≡ 1)
    × (stops_set Idp 6 schedule ≡ 1) × (restarts_asked 6 schedule ≡ 1)
set = (refl, refl, refl, refl, refl)

-- by its first two steps
set_so_far : (failures_set Sp 2 schedule ≡ 1) × (stops_set Sp 2 schedule ≡ 0) × (stops_set Idp 2 schedule ≡ 1)
    × (restarts_asked 2 schedule ≡ 0)
set_so_far = (refl, refl, refl, refl)

-- a disk that is to stop at its next changing call and to fail at the one behind it
abbrev before : DiskInMemory
before = record {
  start = record { zero = 7 ∷ []; one = [] };
  log = [];
  failing = 2;
  stopping = 1;
  pick = 1;
  stopped = false;
  starved = false;
  faults = 0;
}

-- it stopped
abbrev stopped : DiskInMemory
stopped = (after_call (Cut Zero 0) before).1

-- and then refused a call
abbrev refused : DiskInMemory
refused = (after_call (Cut Zero 0) stopped).1

stops : (stops_taken before ≡ 0) × (stops_in before ≡ 1) × (stops_taken refused ≡ 1) × (stops_in refused ≡ 1)
stops = (refl, refl, refl, refl)

-- both of these faults are of the stop, and the failure is still to come
faults : (faults_in before ≡ 1) × (faults_in refused ≡ 3) × (faults_if_stopped before refused ≡ 2)
    × (faults_if_stopped stopped refused ≡ 0)
faults = (refl, refl, refl, refl)

-- one step sets a failure, which is then to come
a_failure_is_set : {S P : Type 0} (sp : NodeRules S) (idp : NodeRules P) (first : Deployment S P) → is_starved first ≡ false
    → Replays sp idp 1 (Fail Sp 1 ∷ []) first (first.lines ++ line 1 (codes "armed"))
    (record first { sp = record first.sp { disk = record first.sp.disk { failing = 1 } }; lines = [] })
a_failure_is_set sp idp first fed =
    let after = record first {
      sp = record first.sp { disk = record first.sp.disk { failing = 1 } };
      lines = first.lines ++ line 1 (codes "armed");
    } in
    (Fail Sp 1, first, after, [], (refl, refl), refl, refl, fed, refl, refl)

-- Where no step sets a failure or a stop and none was to come, no call fails, and no restart is counted but those that
-- were asked for.
nothing_set : {S P : Type 0} (sp : NodeRules S) (idp : NodeRules P) → FailuresAreSet sp idp → RestartsAreAskedOrSet sp idp
    → (done : ℕ) (all : List Step) (first : Deployment S P) (text : List ℕ) (last : Deployment S P)
    → Replays sp idp done all first text last
    → ((site : Site) → IsRunning site first × ((disk_of site first).failing ≡ 0) × ((disk_of site first).stopping ≡ 0))
    → ((site : Site) → (failures_set site done all ≡ 0) × (stops_set site done all ≡ 0))
    → ((site : Site) → (disk_of site last).faults ≤ (disk_of site first).faults)
    × (last.tally.restarts ≤ first.tally.restarts + restarts_asked done all)
nothing_set sp idp fails restarts done all first text last run runs none =
    let counted = restarts done all first text last run (runs Sp).0 (runs Idp).0 in
    let at_sp = ap due (runs Sp).2 in
    let at_idp = ap due (runs Idp).2 in (
      λ site.
          let is = fails done all first text last run site (runs site).0 (runs site).2 (none site).1 in
          let no_failure = ap due (runs site).1 in
          omega (arith, none site),
      omega (arith, none Sp, none Idp),
    )

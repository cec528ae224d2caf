-- What `sp CONFIG EVENTS`, `idp CONFIG EVENTS` and `hub CONFIG EVENTS` do, and what they are answered with.
use Rattle.std.specs.Prelude.{◌≡◌, ℕ, Bool, List, ◌++◌, Option, Result, Ok, codes, if◌then◌else◌}
use Rattle.std.specs.Fmt.{decimal}
use Rattle.serve_loop.specs.declared.served.Served.{Served}
use Rattle.serve_loop.specs.Turns.{Turn}
use Rattle.crash_disk.specs.Disk.{Image, DiskState}
use Rattle.crash_disk.specs.Moments.{Leaves}
use Rattle.saml_outside.specs.Files.{File}
use Rattle.hub_runs.specs.Headline as hub_headline
use Rattle.hub_ledger.specs.Record.{hub_rules}
use Rattle.hub_setup.specs.Setup as hub_setup
use Rattle.identity_hub.specs.Step as hub_steps
use Rattle.idp_runs.specs.Headline as idp_headline
use Rattle.idp_ledger.specs.Record.{idp_rules}
use Rattle.idp_setup.specs.Setup as idp_setup
use Rattle.idp_server.specs.Step as idp_steps
use Rattle.sp_runs.specs.Headline as sp_headline
use Rattle.request_ledger.specs.Record.{request_rules}
use Rattle.sp_runs.specs.Runs as sp
use Rattle.sp_server.specs.Step as sp_steps
use Rattle.provider_node.specs.Starts.{Start}
use Rattle.provider_run.specs.Providers.{IsRunnable, RunLeaves, Runs}
use Rattle.provider_run.specs.Runs.{Outside}
use Rattle.provider_run.specs.declared.ended.Ended.{Ended}
use Rattle.provider_run.specs.declared.ended.Ended.TheVariants as ends
use Rattle.provider_run.specs.declared.ended.RunFault.{RunFault}
use Rattle.provider_run.specs.declared.ended.RunFault.TheVariants as faults
use Rattle.schedules.specs.declared.step.Step.{Step}
use Rattle.schedule_replay.specs.declared.fault.ReplayFault.{ReplayFault}
use Rattle.schedule_replay.specs.declared.tally.Tally.{Tally}
use Rattle.saml_commands.specs.declared.command.Role.{Role}
use Rattle.saml_commands.specs.declared.command.Role.TheVariants as roles
use Rattle.saml_commands.specs.declared.status.Status.{Status}
use Rattle.saml_commands.specs.declared.status.Status.TheVariants as statuses
use Rattle.saml_commands.specs.Answers.{Answer, Printed, BadFile, Foreign}

-- the turns of a provider of each role
abbrev pub TurnsOf : Role → Type 0
TurnsOf roles.Sp = List (Turn sp_steps.Provider)
TurnsOf roles.Idp = List (Turn idp_steps.Provider)
TurnsOf roles.Hub = List (Turn hub_steps.Provider)

-- how a run of one goes, by the config in a file, with a budget of events; `left` says of each moment, seen from the end of the run,
-- what a crash since then might have left
abbrev pub RunsAs : (role : Role) → (left : ℕ → Image → Type 0) → Option (List File) → (config : List ℕ) → (events : ℕ)
    → (before : Outside) → TurnsOf role → Result Ended RunFault → (after : Outside) → Type 0
RunsAs roles.Sp = Runs sp.IsServedBy sp.IsBadFile sp.address sp.key request_rules sp_steps.Answers
RunsAs roles.Idp = Runs idp_setup.IsSetUp idp_setup.IsBadSetUp idp_headline.address idp_headline.key idp_rules idp_steps.Answers
RunsAs roles.Hub = Runs hub_setup.IsSetUp hub_setup.IsBadSetUp hub_headline.address hub_headline.key hub_rules hub_steps.Answers

-- what is carried over it
abbrev pub HeadlineAs : (role : Role) → (left : ℕ → Image → Type 0) → Option (List File) → (config : List ℕ)
    → (before : Outside) → TurnsOf role → (after : Outside) → Type 0
HeadlineAs roles.Sp = sp_headline.Headline
HeadlineAs roles.Idp = idp_headline.Headline
HeadlineAs roles.Hub = hub_headline.Headline

-- what a crash at a moment of it may leave
abbrev pub RunLeavesAs : (role : Role) → Option DiskState → TurnsOf role → Image → Type 0
RunLeavesAs roles.Sp = RunLeaves request_rules sp_steps.Answers
RunLeavesAs roles.Idp = RunLeaves idp_rules idp_steps.Answers
RunLeavesAs roles.Hub = RunLeaves hub_rules hub_steps.Answers

-- and when one can be run
abbrev pub IsRunnableAs : Role → Option (List File) → (config : List ℕ) → Option DiskState → Type 0
IsRunnableAs roles.Sp = IsRunnable sp.IsServedBy request_rules
IsRunnableAs roles.Idp = IsRunnable idp_setup.IsSetUp idp_rules
IsRunnableAs roles.Hub = IsRunnable hub_setup.IsSetUp hub_rules

-- What the program did beside its answer: nothing was served, or a provider of this role was run, with these turns, and came to this; or
-- a schedule of these steps was replayed over two providers, which are these starts of either, and came to that.
pub data Ran : Type 0 where
  Unserved : Ran
  RanProvider : (role : Role) (turns : TurnsOf role) (result : Result Ended RunFault) → Ran
  RanReplay : (steps : List Step) (quiet : Bool) (sp_starts : List (Start sp_steps.Provider)) (idp_starts : List (Start idp_steps.Provider))
      (result : Result Tally ReplayFault) → Ran

-- What a crash at a moment of that may leave of the disk: what it might leave before, or what one inside the run of the provider may.
abbrev pub RanLeaves : Option DiskState → Ran → Image → Type 0
RanLeaves disk (RanProvider role turns result) image = RunLeavesAs role disk turns image
RanLeaves disk ran image = Leaves disk image

-- what is printed where serving ended: the number of events that were taken, and why, that the link gave Stop or that the
-- budget was used up
abbrev pub served_line : Served → List ℕ
served_line served =
    codes "served " ++ decimal served.events ++ (if served.stopped then codes " stopped\n" else codes " budget\n")

-- what a run that came to an end is answered with
abbrev pub answer_of : Ended → Answer
answer_of (ends.BadFile file line) = BadFile file line
answer_of (ends.Foreign file place) = Foreign file place
answer_of (ends.Served served) = Printed (served_line served)

-- a run that ended early is answered with nothing
abbrev pub OfRun : Ran → Answer → Type 0
OfRun (RanProvider role turns (Ok ended)) answer = answer ≡ answer_of ended
OfRun ran answer = ⊥

-- the status of such a run
abbrev pub status_of_fault : RunFault → Status
status_of_fault faults.ReadFault = statuses.ReadFault
status_of_fault faults.DiskFault = statuses.DiskFault
status_of_fault faults.LinkFault = statuses.LinkFault
status_of_fault faults.NoMemory = statuses.NoMemory

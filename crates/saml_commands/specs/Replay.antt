-- What `replay SCHEDULE` and `make N START` do, beside their answers.
use Rattle.std.specs.Prelude.{◌≡◌, ℕ, Bool, false, List, Option, Result, Ok, Err, MatchResult}
use Rattle.saml_outside.specs.Files.{File, Reads}
use Rattle.saml_outside.specs.declared.reading.FileRead.TheVariants as reads
use Rattle.schedules.specs.Schedules.{schedule}
use Rattle.schedules.specs.declared.read.TheConstants.{MAX_SCHEDULE_LENGTH}
use Rattle.schedules.specs.declared.step.Step.{Step}
use Rattle.schedule_replay.specs.declared.fault.ReplayFault.{ReplayFault}
use Rattle.schedule_replay.specs.declared.fault.ReplayFault.TheVariants as faults
use Rattle.schedule_replay.specs.declared.tally.Tally.{Tally}
use Rattle.replay_runs.specs.Runs.{Carries}
use Rattle.saml_commands.specs.declared.status.Status.{Status}
use Rattle.saml_commands.specs.declared.status.Status.TheVariants as statuses
use Rattle.saml_commands.specs.Answers.{Answer, BadFile}
use Rattle.saml_commands.specs.Serving.{Ran, Unserved, RanReplay}

-- how a replay ends
abbrev pub status_of_replay : Result Tally ReplayFault → Status
status_of_replay (Ok tally) = statuses.Done
status_of_replay (Err faults.WriteFault) = statuses.WriteFault
status_of_replay (Err faults.NoMemory) = statuses.NoMemory

-- where bytes are no schedule, the number of their first bad line is answered
abbrev pub OfSchedule : (file bytes : List ℕ) → Answer → Type 0
OfSchedule file bytes answer = MatchResult (schedule bytes) (λ steps. ⊥) (λ line. answer ≡ BadFile file line)

-- the file holds the schedule of these steps
abbrev pub IsSchedule : Option (List File) → List ℕ → List Step → Type 0
IsSchedule told file steps = (bytes : List ℕ) × Reads told file MAX_SCHEDULE_LENGTH reads.Whole bytes × (schedule bytes ≡ Ok steps)

-- these steps were replayed, or nothing was; over what was replayed the whole sentence is carried
abbrev pub DidReplay : List Step → Bool → Ran → Type 0
DidReplay steps quiet Unserved = Unit {0}
DidReplay steps quiet (RanReplay done silent sp_starts idp_starts result) = (done ≡ steps) × (silent ≡ quiet) × Carries sp_starts idp_starts
DidReplay steps quiet ran = ⊥

-- the schedule of these bytes was replayed, or nothing was
abbrev pub DidReplayText : List ℕ → Ran → Type 0
DidReplayText bytes Unserved = Unit {0}
DidReplayText bytes (RanReplay steps silent sp_starts idp_starts result) =
    (schedule bytes ≡ Ok steps) × (silent ≡ false) × Carries sp_starts idp_starts
DidReplayText bytes ran = ⊥

-- the schedule in this file was replayed, or nothing was
abbrev pub DidReplayFile : Option (List File) → List ℕ → Ran → Type 0
DidReplayFile told file Unserved = Unit {0}
DidReplayFile told file (RanReplay steps silent sp_starts idp_starts result) =
    IsSchedule told file steps × (silent ≡ false) × Carries sp_starts idp_starts
DidReplayFile told file ran = ⊥

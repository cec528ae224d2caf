-- That a replay does not give up by itself.
use Rattle.std.specs.Prelude.{MatchResult}
use Rattle.std.proofs.Common.{◌≡◌, ℕ, ◌⊎◌, List, Option, Some, Result, Ok, Err, refl, ap, ◌∙◌, subst, inl, inr}
use Rattle.saml_outside.specs.Files.{File, bytes_of, Reads}
use Rattle.saml_outside.specs.declared.reading.FileRead.TheVariants as reads
use Rattle.schedules.specs.Schedules.{schedule}
use Rattle.schedules.specs.declared.read.TheConstants.{MAX_SCHEDULE_LENGTH}
use Rattle.schedules.specs.declared.step.Step.{Step}
use Rattle.schedule_replay.specs.declared.fault.ReplayFault.{ReplayFault}
use Rattle.schedule_replay.specs.declared.fault.ReplayFault.TheVariants as faults
use Rattle.schedule_replay.specs.declared.tally.Tally.{Tally}
use Rattle.saml_commands.specs.declared.status.Status.{Status}
use Rattle.saml_commands.specs.declared.status.Status.TheVariants as statuses
use Rattle.saml_commands.specs.Answers.{Answer, BadFile}
use Rattle.saml_commands.specs.Reading.{OfFile}
use Rattle.saml_commands.specs.Replay.{DidReplayFile, IsSchedule, OfSchedule, status_of_replay}
use Rattle.saml_commands.specs.Running.{EndsAfter, EndsWith}
use Rattle.saml_commands.specs.Serving.{Ran, Unserved, RanProvider, RanReplay}
use Rattle.saml_commands.proofs.Alone.{read_not_unread, some_is_one}

-- the run was done, or there was no memory
abbrev IsDone : Status → Type 0
IsDone status = (status ≡ statuses.Done) ⊎ (status ≡ statuses.NoMemory)

module _ (files : List File) (file bytes : List ℕ) (steps : List Step) (held : Reads (Some files) file MAX_SCHEDULE_LENGTH reads.Whole bytes)
    (is : schedule bytes ≡ Ok steps) where
  -- a schedule is not answered
  unanswered : (answer : Answer) → OfFile (OfSchedule file) (Some files) file MAX_SCHEDULE_LENGTH answer → ⊥
  unanswered answer (inl p) =
      let same : p.0 ≡ bytes = some_is_one p.0 bytes (bytes_of files file) p.1.1 held.1 in
      subst (λ (r : Result (List Step) ℕ). MatchResult r (λ steps. ⊥) (λ line. answer ≡ BadFile file line)) (ap schedule same ∙ is) p.2
  unanswered answer (inr p) = read_not_unread files file MAX_SCHEDULE_LENGTH bytes held p.0

  -- so nothing else ends it but a fault or want of memory
  ends : (old new : Option (List ℕ)) (status : Status) → EndsWith (OfFile (OfSchedule file) (Some files) file MAX_SCHEDULE_LENGTH) old new status
      → (status ≡ statuses.ReadFault → ⊥) → (status ≡ statuses.WriteFault → ⊥) → IsDone status
  ends old new statuses.Done e no_read no_write = inl refl
  ends old new statuses.NoMemory e no_read no_write = inr refl
  ends old new statuses.ReadFault e no_read no_write = absurd (no_read refl)
  ends old new statuses.WriteFault e no_read no_write = absurd (no_write refl)
  ends old new statuses.Refused e no_read no_write = absurd (unanswered e.0 e.1)
  ends old new statuses.Usage e no_read no_write = absurd (unanswered e.0 e.1)
  ends old new statuses.BadInput e no_read no_write = absurd (unanswered e.0 e.1)
  ends old new statuses.DiskFault e no_read no_write = absurd (unanswered e.0 e.1)
  ends old new statuses.LinkFault e no_read no_write = absurd (unanswered e.0 e.1)
  ends old new statuses.ForeignJournal e no_read no_write = absurd (unanswered e.0 e.1)

  replayed : (result : Result Tally ReplayFault) (status : Status) → status ≡ status_of_replay result → (status ≡ statuses.WriteFault → ⊥) → IsDone status
  replayed (Ok tally) status e no_write = inl e
  replayed (Err faults.WriteFault) status e no_write = absurd (no_write e)
  replayed (Err faults.NoMemory) status e no_write = inr e

  after : (ran : Ran) → DidReplayFile (Some files) file ran → (old new : Option (List ℕ)) (status : Status)
      → EndsAfter ran (OfFile (OfSchedule file) (Some files) file MAX_SCHEDULE_LENGTH) old new status
      → (status ≡ statuses.ReadFault → ⊥) → (status ≡ statuses.WriteFault → ⊥) → IsDone status
  after Unserved did old new status e no_read no_write = ends old new status e no_read no_write
  after (RanReplay done quiet sp_starts idp_starts result) did old new status e no_read no_write = replayed result status e.0 no_write
  after (RanProvider role turns result) did old new status e no_read no_write = absurd did

-- The file tells a schedule: it is replayed to its end, but for a fault of reading or writing, or there was no memory.
pub completes : (told : Option (List File)) (files : List File) (file : List ℕ) (steps : List Step) → told ≡ Some files → IsSchedule told file steps
    → (ran : Ran) → DidReplayFile told file ran → (old new : Option (List ℕ)) (status : Status)
    → EndsAfter ran (OfFile (OfSchedule file) told file MAX_SCHEDULE_LENGTH) old new status
    → (status ≡ statuses.ReadFault → ⊥) → (status ≡ statuses.WriteFault → ⊥) → IsDone status
completes told files file steps e is ran did old new status ended no_read no_write =
    let held = subst (λ (t : Option (List File)). Reads t file MAX_SCHEDULE_LENGTH reads.Whole is.0) e is.1 in
    after files file is.0 steps held is.2 ran
    (subst (λ (t : Option (List File)). DidReplayFile t file ran) e did) old new status
    (subst (λ (t : Option (List File)). EndsAfter ran (OfFile (OfSchedule file) t file MAX_SCHEDULE_LENGTH) old new status) e ended) no_read no_write

-- what is made is replayed to its end, but for a fault of writing, or there was no memory
pub made_whole : (status : Status) → (status ≡ statuses.Done) ⊎ ((status ≡ statuses.WriteFault) ⊎ (status ≡ statuses.NoMemory))
    → (status ≡ statuses.WriteFault → ⊥) → IsDone status
made_whole status (inl is) no_write = inl is
made_whole status (inr (inl is)) no_write = absurd (no_write is)
made_whole status (inr (inr is)) no_write = inr is

-- What a replay leaves, and how one ends.
use Rattle.std.proofs.Common.{ℕ, List, Bool, true, Option, refl}
use Rattle.saml_outside.specs.Files.{File, Reads}
use Rattle.saml_outside.specs.declared.reading.FileRead.TheVariants as reads
use Rattle.crash_disk.specs.Disk.{Image, DiskState}
use Rattle.crash_disk.specs.Moments.{DiskShown, Leaves, LeavesOnly}
use Rattle.provider_run.specs.Runs.{Outside}
use Rattle.schedules.specs.Made.{made}
use Rattle.schedules.specs.declared.read.TheConstants.{MAX_SCHEDULE_LENGTH}
use Rattle.schedules.specs.declared.step.Step.{Step}
use Rattle.saml_commands.specs.Replay.{DidReplay, DidReplayFile, DidReplayText}
use Rattle.saml_commands.specs.Running.{Replay, Make, DoesCommand, CommandCarries}
use Rattle.saml_commands.specs.Serving.{Ran, Unserved, RanProvider, RanReplay, RanLeaves}

-- `replay` replayed the schedule of its file, or nothing
pub does_replay : (left : ℕ → Image → Type 0) (told : Option (List File)) (file : List ℕ) (outside : Outside) (ran : Ran) → DidReplayFile told file ran →
    DoesCommand left told (Replay file) outside ran outside
does_replay left told file outside Unserved did = (refl, refl)
does_replay left told file outside (RanReplay steps quiet sp_starts idp_starts result) did = (did.0, did.1, refl)
does_replay left told file outside (RanProvider role turns result) did = absurd did

-- `make` the schedule that it made, or nothing
pub does_make : (left : ℕ → Image → Type 0) (told : Option (List File)) (logins start : ℕ) (outside : Outside) (ran : Ran) → DidReplay (made logins start) true ran →
    DoesCommand left told (Make logins start) outside ran outside
does_make left told logins start outside Unserved did = (refl, refl)
does_make left told logins start outside (RanReplay steps quiet sp_starts idp_starts result) did = (did.0, did.1, refl)
does_make left told logins start outside (RanProvider role turns result) did = absurd did

-- and over what they replayed the whole sentence is carried
pub carries_replay : (left : ℕ → Image → Type 0) (told : Option (List File)) (file : List ℕ) (here : Outside) (ran : Ran)
    → DidReplayFile told file ran
    → DoesCommand left told (Replay file) here ran here × CommandCarries left told (Replay file) here ran here
carries_replay left told file here Unserved did = (does_replay left told file here Unserved did, tt)
carries_replay left told file here (RanReplay steps quiet sp_starts idp_starts result) did =
    (does_replay left told file here (RanReplay steps quiet sp_starts idp_starts result) did, did.2)
carries_replay left told file here (RanProvider role turns result) did = absurd did

pub carries_make : (left : ℕ → Image → Type 0) (told : Option (List File)) (logins start : ℕ) (here : Outside) (ran : Ran)
    → DidReplay (made logins start) true ran
    → DoesCommand left told (Make logins start) here ran here × CommandCarries left told (Make logins start) here ran here
carries_make left told logins start here Unserved did = (does_make left told logins start here Unserved did, tt)
carries_make left told logins start here (RanReplay steps quiet sp_starts idp_starts result) did =
    (does_make left told logins start here (RanReplay steps quiet sp_starts idp_starts result) did, did.2)
carries_make left told logins start here (RanProvider role turns result) did = absurd did

module _ {D : Type 0} (shows : D → DiskShown) (told : Option DiskState) (disk : D) where
  -- a disk that nothing was done to leaves what it may leave
  pub replay_leaves : (steps : List Step) (quiet : Bool) (ran : Ran) → DidReplay steps quiet ran → LeavesOnly shows disk disk (Leaves told) →
      LeavesOnly shows disk disk (RanLeaves told ran)
  replay_leaves steps quiet Unserved did leaves = leaves
  replay_leaves steps quiet (RanReplay done silent sp_starts idp_starts result) did leaves = leaves
  replay_leaves steps quiet (RanProvider role turns result) did leaves = absurd did

  pub file_leaves : (files : Option (List File)) (file : List ℕ) (ran : Ran) → DidReplayFile files file ran → LeavesOnly shows disk disk (Leaves told) →
      LeavesOnly shows disk disk (RanLeaves told ran)
  file_leaves files file Unserved did leaves = leaves
  file_leaves files file (RanReplay done silent sp_starts idp_starts result) did leaves = leaves
  file_leaves files file (RanProvider role turns result) did leaves = absurd did

-- and those of a file are those of its bytes
pub file_of_text : (told : Option (List File)) (file bytes : List ℕ) (ran : Ran) → Reads told file MAX_SCHEDULE_LENGTH reads.Whole bytes → DidReplayText bytes ran →
    DidReplayFile told file ran
file_of_text told file bytes Unserved read did = tt
file_of_text told file bytes (RanReplay steps silent sp_starts idp_starts result) read did = ((bytes, read, did.0), did.1, did.2)
file_of_text told file bytes (RanProvider role turns result) read did = absurd did

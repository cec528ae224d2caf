-- That runs of a provider join into one service, wherever a crash cuts them or their process is killed.
use Rattle.std.specs.Prelude.{◌≡◌, ◌⊎◌, ℕ, List, Contains, Option, Result}
use Rattle.saml_outside.specs.Files.{File}
use Rattle.crash_disk.specs.Disk.{Image, DiskState, MayLeave, image_of, settled_image}
use Rattle.serve_loop.specs.Turns.{Turn, asked_in}
use Rattle.serve_loop.specs.Worlds.{World}
use Rattle.provider_run.specs.declared.ended.Ended.{Ended}
use Rattle.provider_run.specs.declared.ended.RunFault.{RunFault}
use Rattle.provider_run.specs.Providers.{BadSetUpBy, Begins, RunLeaves, Runs, SetUpBy}
use Rattle.provider_run.specs.Runs.{Outside, world_of}
use Rattle.provider_node.specs.Calls.{OpeningLeaves}
use Rattle.provider_node.specs.Joining.{GoesOnFromEach, IsInside, LeavesBut}
use Rattle.provider_node.specs.Histories.{moments_of}
use Rattle.provider_node.specs.Starts.{AreStartsAt, Cut, IsNextAt, Start}
use Rattle.provider_node.specs.Step.{AnswersBy, Provider}
use Rattle.record_ledger.specs.Rules.{RecordRules}
use Rattle.record_ledger.specs.Ledger.{Held}

-- the world in which a run by the config in this file begins to serve
pub record IsBegun {Setup R : Type 0} (SetsUp : SetUpBy Setup) (address key : Setup → List ℕ) (rules : RecordRules R)
    (told : Option (List File)) (file : List ℕ) (before : Outside) (first : World (Provider Setup R)) : Type 0 where
  pub provider : Provider Setup R
  pub opened : Outside
  pub begins : Begins SetsUp address key rules told file before provider opened
  pub is : first ≡ world_of provider opened

-- The disks that a run leaves which began on a disk that told this, did these turns, and was stopped at a moment.
pub data IsLeftStopped {Setup R : Type 0} (rules : RecordRules R) (Answers : AnswersBy Setup R)
    (before : Option DiskState) (turns : List (Turn (Provider Setup R))) : DiskState → Type 0 where
  -- by a crash of the system: the disk reads as an image that the crash left, and holds nothing else;
  ByACrash : (image : Image) → RunLeaves rules Answers before turns image
      → IsLeftStopped rules Answers before turns (settled_image image)
  -- by a signal that kills the process: the disk reads as a crash may leave it, and all that one may still leave of it,
  -- it may leave at that moment: inside the opening, or inside the answer to one request.
  ByAKill : (disk : DiskState) → MayLeave disk (image_of disk)
      → LeavesBut disk (OpeningLeaves rules before) ⊎ IsInside rules Answers (asked_in turns) disk
      → IsLeftStopped rules Answers before turns disk

-- Where a run is next behind starts of its provider, on a disk that tells, each disk that it leaves where it is stopped
-- at one of its moments is one from which a later start goes on, for each moment at which the run may have left it, as
-- behind a start of this run that was cut at that moment: inside the opening, inside the answer to the request that was
-- asked then, or behind the turns that were done by then. `IsMoment` says of the moments of the starts and of the run.
abbrev pub EachDiskOfARunGoesOn : {Setup R : Type 0} (SetsUp : SetUpBy Setup) (IsBad : BadSetUpBy)
    (address key : Setup → List ℕ) (rules : RecordRules R) (Answers : AnswersBy Setup R) (left : ℕ → Image → Type 0)
    (IsMoment : ℕ → Type 0) → Type 0
EachDiskOfARunGoesOn {Setup} {R} SetsUp IsBad address key rules Answers left IsMoment = (told : Option (List File))
    (file : List ℕ) (budget : ℕ) (before : Outside) (turns : List (Turn (Provider Setup R)))
    (result : Result Ended RunFault) (after : Outside) (start : Held R) (earlier : List (Start (Provider Setup R)))
    (disk : DiskState) → Runs SetsUp IsBad address key rules Answers left told file budget before turns result after
    → AreStartsAt rules Answers IsMoment start earlier → IsNextAt rules Answers IsMoment start earlier (Cut before.disk)
    → ((now : ℕ) → Contains (moments_of turns) now → IsMoment now) → IsLeftStopped rules Answers before.disk turns disk
    → GoesOnFromEach rules Answers IsMoment start earlier before.disk
    (IsBegun SetsUp address key rules told file before) turns disk

-- That runs, and runs that were stopped, join into one service: from whatever a run leaves where it is stopped at a moment
-- a later start goes on, as behind a start of this run that was cut at that moment. A crash of the machine leaves one
-- image; a process that is killed leaves its disk, of which a crash may still leave several.
use Rattle.std.specs.Prelude.{◌≡◌, ◌⊎◌, ℕ, List, [], ◌∷◌, ◌++◌, Contains, Option, Some}
use Rattle.crash_disk.specs.Disk.{Image, DiskState, MayLeave, image_of}
use Rattle.crash_disk.specs.Moments.{Leaves}
use Rattle.conn_table.specs.Table.{Table}
use Rattle.serve_loop.specs.Turns.{Asked, Run, Turn, asked_by, asked_in}
use Rattle.serve_loop.specs.Worlds.{World}
use Rattle.record_ledger.specs.Rules.{RecordRules}
use Rattle.record_ledger.specs.Ledger.{Held, LeftByOpening}
use Rattle.provider_node.specs.Step.{AnswersBy, Provider, StepLeaves}
use Rattle.provider_node.specs.Histories.{IsProviders, moments_of}
use Rattle.provider_node.specs.Starts.{AreStartsAt, Cut, GoesAt, IsNextAt, IsServed, LeftBehindAt, Served, Start}
use Rattle.provider_node.specs.Starts.{told_before}

-- each image that a crash may leave of this disk is such
abbrev pub LeavesBut : DiskState → (Image → Type 0) → Type 0
LeavesBut disk IsSuch = (image : Image) → MayLeave disk image → IsSuch image

module _ {Setup R : Type 0} (rules : RecordRules R) (Answers : AnswersBy Setup R) where
  -- all that a crash may leave of this disk, one inside the answer to one of these requests may leave
  pub record IsInside (asked : List (Asked (Provider Setup R))) (disk : DiskState) : Type 0 where
    pub one : Asked (Provider Setup R)
    pub among : Contains asked one
    pub left : LeavesBut disk (StepLeaves rules Answers one.node one.disk one.request one.now)

  module _ (before : Option DiskState) (IsFirst : World (Provider Setup R) → Type 0)
      (turns : List (Turn (Provider Setup R))) (disk : DiskState) where
    -- A moment at which a run that did these turns on a disk which told this before may have been stopped, so that it
    -- left this disk: inside the opening of its ledger; inside the answer to the request of one of its turns, behind
    -- those that were done before it, the latest first; or between two turns, or behind the last one, where the disk
    -- may leave nothing but what it may leave in the world there.
    pub data IsStoppedAt : Type 0 where
      InOpening : LeavesBut disk (LeftByOpening rules before) → IsStoppedAt
      InServing : (past later : List (Turn (Provider Setup R))) (turn : Turn (Provider Setup R))
          → turns ≡ later ++ turn ∷ past → IsInside (asked_by turn) disk → IsStoppedAt
      BehindTurns : (past later : List (Turn (Provider Setup R))) (first : World (Provider Setup R)) (kept : Table)
          (last : World (Provider Setup R)) → turns ≡ later ++ past → IsFirst first
          → IsServed rules Answers before first past kept last → LeavesBut disk (Leaves last.disk) → IsStoppedAt

    -- A run that was stopped at a moment, as a start: it was cut inside the opening; or it was served from its first
    -- world on, and was cut behind the turns that were done before that moment.
    abbrev pub IsCutAt : IsStoppedAt → Start (Provider Setup R) → Type 0
    IsCutAt (InOpening left) one = one ≡ Cut before
    IsCutAt (InServing past later turn are inside) one =
        (first : World (Provider Setup R)) × (kept : Table) × (last : World (Provider Setup R)) × IsFirst first
        × Run (IsProviders rules Answers) first past kept last × (one ≡ Served before first past kept last)
    IsCutAt (BehindTurns past later first kept last are is served left) one =
        one ≡ Served before first past kept last

-- `IsMoment` says of the moments of the starts before and of the run.
module _ {Setup R : Type 0} (rules : RecordRules R) (Answers : AnswersBy Setup R) (IsMoment : ℕ → Type 0)
    (start : Held R) (earlier : List (Start (Provider Setup R))) (before : Option DiskState)
    (IsFirst : World (Provider Setup R) → Type 0) (turns : List (Turn (Provider Setup R))) (disk : DiskState) where
  -- From this disk a later start goes on, behind starts and one more, which is the run cut at this moment: each start
  -- on a disk that tells just this is the next.
  pub record GoesOn (at : IsStoppedAt rules Answers before IsFirst turns disk) : Type 0 where
    pub one : Start (Provider Setup R)
    pub cut : IsCutAt rules Answers before IsFirst turns disk at one
    pub starts : AreStartsAt rules Answers IsMoment start (one ∷ earlier)
    pub left : LeavesBut disk (LeftBehindAt rules Answers IsMoment start (one ∷ earlier))
    pub next : (later : Start (Provider Setup R)) → told_before later ≡ Some disk
        → GoesAt rules Answers IsMoment later → IsNextAt rules Answers IsMoment start (one ∷ earlier) later

  -- There is a moment at which the run may have left this disk, and so it goes on from each such moment.
  pub record GoesOnFromEach : Type 0 where
    pub stopped : IsStoppedAt rules Answers before IsFirst turns disk
    pub goes : (at : IsStoppedAt rules Answers before IsFirst turns disk) → GoesOn at

module _ {Setup R : Type 0} (rules : RecordRules R) (Answers : AnswersBy Setup R) (IsMoment : ℕ → Type 0) where
  -- It is so of each disk that a run may leave where it is stopped at a moment, and that reads as a crash may leave it,
  -- where the run is next behind starts, and did nothing or served.
  abbrev pub EachDiskGoesOn : (IsFirst : World (Provider Setup R) → Type 0) → Type 0
  EachDiskGoesOn IsFirst = (start : Held R) (earlier : List (Start (Provider Setup R))) (before : Option DiskState)
      (turns : List (Turn (Provider Setup R))) (disk : DiskState) → AreStartsAt rules Answers IsMoment start earlier
      → IsNextAt rules Answers IsMoment start earlier (Cut before)
      → ((now : ℕ) → Contains (moments_of turns) now → IsMoment now)
      → (turns ≡ []) ⊎ ((first last : World (Provider Setup R)) × (kept : Table)
      × IsFirst first × IsServed rules Answers before first turns kept last) → MayLeave disk (image_of disk)
      → LeavesBut disk (LeftByOpening rules before) ⊎ IsInside rules Answers (asked_in turns) disk
      → GoesOnFromEach rules Answers IsMoment start earlier before IsFirst turns disk

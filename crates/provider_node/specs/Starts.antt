-- What became of a ledger over several starts of its provider, with crashes between: each start opens what the one
-- before it may have left.
use Rattle.std.specs.Prelude.{◌≡◌, ℕ, Bool, true, List, [], ◌∷◌, ◌++◌, Contains, Option, None, Some, IfSome, IsSome, Ok}
use Rattle.crash_disk.specs.Disk.{Image, DiskState, MayLeave, image_of}
use Rattle.crash_disk.specs.Moments.{Leaves}
use Rattle.conn_table.specs.Table.{Table}
use Rattle.http_wire.specs.Requests.{Request}
use Rattle.serve_loop.specs.Turns.{Asked, Turn, Run, asked_in}
use Rattle.serve_loop.specs.Worlds.{World}
use Rattle.record_ledger.specs.Rules.{RecordRules, AreRecords}
use Rattle.record_ledger.specs.Ledger.{Held, LeftByOpening, ledger_in, migrated, taken}
use Rattle.record_ledger.specs.Runs.{Event}
use Rattle.provider_node.specs.Node.{CompactionLeaves}
use Rattle.provider_node.specs.Step.{AnswersBy, IsFound, OwnsDisk, Provider, StepLeaves}
use Rattle.provider_node.specs.Histories.{AnyMoment, AreAcknowledged, CameFrom, IsAtStart, IsProviders, moments_of}

-- A start of a node, with what its disk told before: it was cut inside the opening of its ledger, or could not open it;
-- or it began in a world, these turns were done, and it was cut or ended in another. A node that runs and has no opened
-- ledger, since it could not be opened again or made anew, goes on serving: its next request opens one.
pub data Start (N : Type 0) : Type 0 where
  Cut : (before : Option DiskState) → Start N
  Served : (before : Option DiskState) (first : World N) (turns : List (Turn N)) (kept : Table) (last : World N)
      → Start N
  Unopened : (first : World N) (turns : List (Turn N)) (kept : Table) (last : World N) → Start N

-- what the disk told before
abbrev pub told_before : {N : Type 0} → Start N → Option DiskState
told_before (Cut before) = before
told_before (Served before first turns kept last) = before
told_before (Unopened first turns kept last) = first.disk

-- the turns that were done
abbrev pub turns_of : {N : Type 0} → Start N → List (Turn N)
turns_of (Cut before) = []
turns_of (Served before first turns kept last) = turns
turns_of (Unopened first turns kept last) = turns

-- the world in which a start that served ended
abbrev pub last_of : {N : Type 0} → Start N → Option (World N)
last_of (Cut before) = None
last_of (Served before first turns kept last) = Some last
last_of (Unopened first turns kept last) = Some last

-- the requests that a node was asked in starts, in order
abbrev pub asked_over : {N : Type 0} → List (Start N) → List (Asked N)
asked_over [] = []
asked_over (one ∷ earlier) = asked_over earlier ++ asked_in (turns_of one)

-- Whatever a crash leaves of a disk stands for a ledger that is opened as it stands there, in the version that is
-- written.
abbrev pub StandsAsOpened : {R : Type 0} → RecordRules R → Option DiskState → Type 0
StandsAsOpened {R} rules told = (image : Image) → Leaves told image
    → (held : Held R) × (ledger_in rules image ≡ Ok (Some held)) × (migrated held ≡ held)

module _ {Setup R : Type 0} (rules : RecordRules R) (Answers : AnswersBy Setup R) where
  module _ (before : Option DiskState) (first : World (Provider Setup R))
      (turns : List (Turn (Provider Setup R))) (kept : Table) (last : World (Provider Setup R)) where
    -- the ledger was opened from what the disk told, and then the turns were done
    pub record IsServed : Type 0 where
      pub opened : IsFound rules before first.node.ledger.held
      pub at : IsAtStart rules first
      pub tells : IsSome first.disk
      pub run : Run (IsProviders rules Answers) first turns kept last

  module _ (first : World (Provider Setup R))
      (turns : List (Turn (Provider Setup R))) (kept : Table) (last : World (Provider Setup R)) where
    -- the ledger is not opened, the disk is the node's own and holds one, and then the turns were done
    pub record IsUnopened : Type 0 where
      pub is_broken : first.node.ledger.broken ≡ true
      pub own : OwnsDisk rules first.node first.disk
      pub holds : StandsAsOpened rules first.disk
      pub run : Run (IsProviders rules Answers) first turns kept last

-- from the image a ledger is opened that came from another one by events, in which these records were added
pub record OpensWhatCame {R : Type 0}
    (rules : RecordRules R) (IsMoment : ℕ → Type 0) (start : Held R) (records : List R) (image : Image) : Type 0 where
  pub held : Held R
  pub opens : taken (ledger_in rules image) ≡ Ok held
  pub came : CameFrom rules IsMoment start records held

module _ {R : Type 0} (rules : RecordRules R) (IsSo : Held R → List (Event R) → Type 0)
    (IsMoment : ℕ → Type 0) (start : Held R) (records : List R) (image : Image) where
  -- and this is said of its history
  pub record OpensWhatCameSo : Type 0 where
    pub held : Held R
    pub opens : taken (ledger_in rules image) ≡ Ok held
    pub came : CameFrom rules IsMoment start records held
    pub so : IsSo start came.events

module _ {Setup R : Type 0} (rules : RecordRules R) (Answers : AnswersBy Setup R) where
  -- the records for which the answers of starts stand, the latest first
  abbrev pub AreAcknowledgedIn : List (Start (Provider Setup R)) → List R → Type 0
  AreAcknowledgedIn [] records = records ≡ []
  AreAcknowledgedIn (Cut before ∷ earlier) records = AreAcknowledgedIn earlier records
  AreAcknowledgedIn (one ∷ earlier) records = (latest : List R) × (former : List R)
      × AreAcknowledged rules Answers (turns_of one) latest × AreAcknowledgedIn earlier former
      × (records ≡ latest ++ former)

  module _ (IsLeft : Image → Type 0) (Holds : List R → Image → Type 0) (starts : List (Start (Provider Setup R))) where
    -- Of the records for which the answers of starts stand this holds, and of every image that may be left behind
    -- these.
    pub record AreKeptOverSo : Type 0 where
      pub records : List R
      pub are : AreAcknowledgedIn starts records
      pub kept : (image : Image) → IsLeft image → Holds records image

-- `IsMoment` says of the moments of these starts, at each of which a request was asked or a compaction was begun.
module _ {Setup R : Type 0} (rules : RecordRules R) (Answers : AnswersBy Setup R) (IsMoment : ℕ → Type 0) where
  -- how a start goes
  abbrev pub GoesAt : Start (Provider Setup R) → Type 0
  GoesAt (Cut before) = Unit {0}
  GoesAt (Served before first turns kept last) =
      IsServed rules Answers before first turns kept last × ((now : ℕ) → Contains (moments_of turns) now → IsMoment now)
  GoesAt (Unopened first turns kept last) =
      IsUnopened rules Answers first turns kept last × ((now : ℕ) → Contains (moments_of turns) now → IsMoment now)

  module _ (last : World (Provider Setup R)) (image : Image) where
    -- What may be left of a node that served: behind its turns; inside the answer to one request more; inside a
    -- compaction between two requests, or behind it.
    pub data LeftFromAt : Type 0 where
      Behind : Leaves last.disk image → LeftFromAt
      InAnswer : (request : Request) (now : ℕ)
          → IsMoment now → StepLeaves rules Answers last.node last.disk request now image → LeftFromAt
      InCompaction : (now : ℕ) → IsMoment now → CompactionLeaves rules last.node last.disk now image → LeftFromAt

  -- What a crash may leave of a start: inside the opening, or once it served.
  abbrev pub LeftByAt : Start (Provider Setup R) → Image → Type 0
  LeftByAt (Cut before) image = LeftByOpening rules before image
  LeftByAt (Served before first turns kept last) image = LeftFromAt last image
  LeftByAt (Unopened first turns kept last) image = LeftFromAt last image

  -- what may be left behind starts, the latest first: at first an image from which this ledger is opened
  abbrev pub LeftBehindAt : (start : Held R) → List (Start (Provider Setup R)) → Image → Type 0
  LeftBehindAt start [] image = taken (ledger_in rules image) ≡ Ok start
  LeftBehindAt start (one ∷ earlier) image = LeftByAt one image

  module _ (start : Held R) (earlier : List (Start (Provider Setup R))) (one : Start (Provider Setup R)) where
    -- starts one after the other, the latest first: each on a disk that tells, reads as an image that it may leave, and
    -- may leave nothing but what is left behind the starts before it
    pub record IsNextAt : Type 0 where
      pub tells : IsSome (told_before one)
      pub reads : IfSome (told_before one) (λ d. MayLeave d (image_of d))
      pub left : (image : Image) → Leaves (told_before one) image → LeftBehindAt start earlier image
      pub goes : GoesAt one

  abbrev pub AreStartsAt : (start : Held R) → List (Start (Provider Setup R)) → Type 0
  AreStartsAt start [] = Unit {0}
  AreStartsAt start (one ∷ earlier) = IsNextAt start earlier one × AreStartsAt start earlier

  -- Of the records for which the answers of starts stand: each is in the history of every ledger that may be opened
  -- behind them, whatever a crash left; in this each compaction was at one of their moments.
  pub record AreKeptOverAt (start : Held R) (starts : List (Start (Provider Setup R))) : Type 0 where
    pub records : List R
    pub are : AreAcknowledgedIn rules Answers starts records
    pub kept : (image : Image) → LeftBehindAt start starts image → OpensWhatCame rules IsMoment start records image
    -- there is such a history
    pub history : (held : Held R) × CameFrom rules IsMoment start records held

module _ {Setup R : Type 0} (rules : RecordRules R) (Answers : AnswersBy Setup R) where
  -- and so it is at whatever moments
  abbrev pub Goes : Start (Provider Setup R) → Type 0
  Goes = GoesAt rules Answers AnyMoment

  abbrev pub LeftBehind : (start : Held R) → List (Start (Provider Setup R)) → Image → Type 0
  LeftBehind = LeftBehindAt rules Answers AnyMoment

  abbrev pub IsNext : (start : Held R) → (earlier : List (Start (Provider Setup R))) → Start (Provider Setup R) → Type 0
  IsNext = IsNextAt rules Answers AnyMoment

  abbrev pub AreStarts : (start : Held R) → List (Start (Provider Setup R)) → Type 0
  AreStarts = AreStartsAt rules Answers AnyMoment

  abbrev pub AreKeptOver : (start : Held R) → (starts : List (Start (Provider Setup R))) → Type 0
  AreKeptOver = AreKeptOverAt rules Answers AnyMoment

-- `IsClosed` says that the session of a token is closed in a ledger, `closes` that a record closes it, and `IsOver` that
-- it is found live at no moment.
module _ {Setup R : Type 0} (rules : RecordRules R) (Answers : AnswersBy Setup R)
    (IsClosed : Held R → List ℕ → Type 0) (closes : List ℕ → R → Bool) (IsOver : Held R → List ℕ → Type 0) where
  module _ (start : Held R) (starts : List (Start (Provider Setup R))) where
    -- the session of a token is over in each ledger that may be opened behind starts
    abbrev pub IsOverBehind : List ℕ → Type 0
    IsOverBehind token = (image : Image) (held : Held R) → LeftBehind rules Answers start starts image
        → taken (ledger_in rules image) ≡ Ok held → IsOver held token

    -- So it is of each session that was closed at first, and of each that was closed by one of the records for which
    -- the answers of the starts stand.
    pub record AreOverBehind : Type 0 where
      pub at_first : (token : List ℕ) → IsClosed start token → IsOverBehind token
      pub records : List R
      pub are : AreAcknowledgedIn rules Answers starts records
      pub since : (r : R) (token : List ℕ) → Contains records r → closes token r ≡ true → IsOverBehind token

  abbrev pub StayClosedOverStarts : Type 0
  StayClosedOverStarts = (start : Held R) (starts : List (Start (Provider Setup R))) → AreRecords rules start.records
      → AreStarts rules Answers start starts → AreOverBehind start starts

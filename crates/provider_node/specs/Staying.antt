-- What happened since a record was added, and that what a record stands for is found as it was left.
use Rattle.std.specs.Prelude.{◌≡◌, ℕ, List, [], ◌∷◌, ◌++◌, Contains, IsSome, Some, Ok}
use Rattle.crash_disk.specs.Disk.{Image}
use Rattle.crash_disk.specs.Moments.{Leaves}
use Rattle.conn_table.specs.Table.{Table}
use Rattle.serve_loop.specs.Turns.{Run, Turn}
use Rattle.serve_loop.specs.Worlds.{World}
use Rattle.record_ledger.specs.Rules.{RecordRules}
use Rattle.record_ledger.specs.Ledger.{Held, held_with, ledger_in, taken}
use Rattle.record_ledger.specs.Runs.{Event, Adds, IsVisibleThroughout, Leads, Stays}
use Rattle.provider_node.specs.Step.{AnswersBy, Provider}
use Rattle.provider_node.specs.Histories.{AreAcknowledged, HoldsWhatCame, IsAtStart, IsProviders, moments_of}
use Rattle.provider_node.specs.Starts.{AreAcknowledgedIn, AreStartsAt, LeftBehindAt, Start}

module _ {R : Type 0} (rules : RecordRules R) (start held : Held R) (events : List (Event R)) (r : R) where
  -- Events led from one ledger to another. Among them this record was added to a ledger; others came before it, and
  -- others since, the latest first.
  pub record WasAdded : Type 0 where
    pub past : List (Event R)
    pub later : List (Event R)
    pub is : events ≡ later ++ Adds r ∷ past
    pub before : Held R
    pub led : Leads rules start past before
    pub leads : Leads rules (held_with r before) later held

module _ {R : Type 0} (rules : RecordRules R) (moments : List ℕ) (start : Held R) (r : R) (held : Held R) where
  -- The row of a record stands, as it was left, in a ledger which came from another one by events: the record was added
  -- by one of them. Where the row is visible at each of these moments the record is there, and the records that name it,
  -- by which the row is closed or spent, are those that were added since.
  pub record RowIsAsLeft : Type 0 where
    pub events : List (Event R)
    pub leads : Leads rules start events held
    pub was : WasAdded rules start held events r
    pub stays : IsVisibleThroughout rules start.header.horizon moments r → Stays rules r [] was.later held

-- `Opened` says that a record among these opened a session, and `IsAsLeft` how that stands in a ledger which came from
-- another one by events, with compactions at these moments. Of rows that is `RowIsAsLeft`, where a record is its own row.
module _ {R X : Type 0} (rules : RecordRules R)
    (Opened : List R → X → Type 0) (IsAsLeft : (moments : List ℕ) (start : Held R) → X → Held R → Type 0) where
  -- the image stands for such a ledger, or one is opened from it
  abbrev pub HoldsAsLeft : (moments : List ℕ) (start : Held R) (x : X) → Image → Type 0
  HoldsAsLeft moments start x i = (held : Held R) × (ledger_in rules i ≡ Ok (Some held)) × IsAsLeft moments start x held

  abbrev pub OpensAsLeft : (moments : List ℕ) (start : Held R) (x : X) → Image → Type 0
  OpensAsLeft moments start x i =
      (held : Held R) × (taken (ledger_in rules i) ≡ Ok held) × IsAsLeft moments start x held

  -- So it is in each image that has in its history what was acknowledged, where each compaction was at one of these
  -- moments: in those that a crash may leave behind a service, or since one of its points.
  abbrev pub WhatWasOpenedIsAsLeft : Type 0
  WhatWasOpenedIsAsLeft = (moments : List ℕ) (start : Held R) (records : List R) (x : X) (image : Image) → HoldsWhatCame
      rules (Contains moments) start records image → Opened records x → HoldsAsLeft moments start x image

  module _ {Setup : Type 0} (Answers : AnswersBy Setup R) where
    module _ (first last : World (Provider Setup R)) (turns : List (Turn (Provider Setup R))) where
      -- Of the sessions whose answers went out in a service: each is as it was left in every image that a crash may
      -- leave behind it.
      pub record SessionsStay : Type 0 where
        pub records : List R
        pub are : AreAcknowledged rules Answers turns records
        pub stay : (x : X) (image : Image)
            → Opened records x → Leaves last.disk image → HoldsAsLeft (moments_of turns) first.node.ledger.held x image

    abbrev pub SessionsStayInAService : Type 0
    SessionsStayInAService = (first last : World (Provider Setup R))
        (turns : List (Turn (Provider Setup R))) (kept : Table) → IsAtStart rules first
        → IsSome first.disk → Run (IsProviders rules Answers) first turns kept last → SessionsStay first last turns

    module _ (moments : List ℕ) (start : Held R) (starts : List (Start (Provider Setup R))) where
      -- And over several starts, of which each opens what a crash of the one before it may have left, each request of
      -- which was asked at one of these moments, also one that a crash cut.
      pub record SessionsStayOver : Type 0 where
        pub records : List R
        pub are : AreAcknowledgedIn rules Answers starts records
        pub stay : (x : X) (image : Image) → Opened records x
            → LeftBehindAt rules Answers (Contains moments) start starts image → OpensAsLeft moments start x image

    abbrev pub SessionsStayOverStarts : Type 0
    SessionsStayOverStarts = (moments : List ℕ) (start : Held R) (starts : List (Start (Provider Setup R)))
        → AreStartsAt rules Answers (Contains moments) start starts → SessionsStayOver moments start starts

-- What serving does at each event, one event after the other.
use Rattle.std.specs.Prelude.{◌≡◌, ◌≢◌, ℕ, ◌≤◌, List, [], ◌∷◌, ◌++◌, Option, Some, IsSome, IfSome}
use Rattle.std.specs.List.{AllByRecursion}
use Rattle.std.specs.FinMap as map
use Rattle.crash_disk.specs.Disk.{DiskState}
use Rattle.http_wire.specs.declared.answer.Answer.{Answer}
use Rattle.http_wire.specs.declared.answer.Answer.TheVariants.{Fixed}
use Rattle.http_wire.specs.Answers.{fixed}
use Rattle.http_wire.specs.Requests.{Request, Whole, Reads}
use Rattle.http_wire.specs.Views.{answer_bytes}
use Rattle.conn_table.specs.declared.progress.Progress.TheVariants as progress
use Rattle.conn_table.specs.declared.progress.Start.TheVariants as start
use Rattle.conn_table.specs.Calls.{IsStarted, TakesPiece}
use Rattle.conn_table.specs.Events.{Event, Started, Piece, Ended, History}
use Rattle.conn_table.specs.Table.{Table}
use Rattle.serve_loop.specs.Worlds.{CountsAnswer, NodeStep, World, TakesMoment, IsNext, OnlySends}

-- A request that the node was asked: on which connection, at which moment, the node and what its disk told when it
-- came, and what was answered.
pub record Asked (N : Type 0) : Type 0 where
  pub conn : ℕ
  pub request : Request
  pub now : ℕ
  pub node : N
  pub disk : Option DiskState
  pub answer : Answer

-- What is done at an event.
pub data Turn (N : Type 0) : Type 0 where
  -- A connection started: it is kept; as many are kept as there may be; there was no memory. Or one ended.
  Taken Full StarvedStart Over : ℕ → Turn N
  -- A piece came: its connection is not kept; all its bytes are the beginning of a request; there was no memory. Or they
  -- are a whole request, or are refused with a status.
  Unknown Waiting StarvedPiece : ℕ → List ℕ → Turn N
  Answered : List ℕ → Asked N → Turn N
  Refused : ℕ → List ℕ → ℕ → Turn N

-- the event at which it is done
abbrev pub event_at : {N : Type 0} → Turn N → Event
event_at (Taken conn) = Started conn
event_at (Full conn) = Started conn
event_at (StarvedStart conn) = Started conn
event_at (Over conn) = Ended conn
event_at (Unknown conn piece) = Piece conn piece
event_at (Waiting conn piece) = Piece conn piece
event_at (Answered piece asked) = Piece (asked.conn) piece
event_at (Refused conn piece status) = Piece conn piece
event_at (StarvedPiece conn piece) = Piece conn piece

-- The events that a turn counts as, the latest first. A start is an end and a start: the end changes nothing where the
-- connection was not kept. A start or a piece that found no memory is an end.
abbrev pub counted_as : {N : Type 0} → Turn N → History
counted_as (Taken conn) = Started conn ∷ Ended conn ∷ []
counted_as (Full conn) = Started conn ∷ Ended conn ∷ []
counted_as (StarvedStart conn) = Ended conn ∷ []
counted_as (Over conn) = Ended conn ∷ []
counted_as (Unknown conn piece) = Piece conn piece ∷ []
counted_as (Waiting conn piece) = Piece conn piece ∷ []
counted_as (Answered piece asked) = Piece (asked.conn) piece ∷ []
counted_as (Refused conn piece status) = Piece conn piece ∷ []
counted_as (StarvedPiece conn piece) = Ended conn ∷ []

-- the events of all turns, the latest first
abbrev pub history_of : {N : Type 0} → List (Turn N) → History
history_of [] = []
history_of (turn ∷ past) = counted_as turn ++ history_of past

-- the request that the node was asked
abbrev pub asked_by : {N : Type 0} → Turn N → List (Asked N)
asked_by (Answered piece asked) = asked ∷ []
asked_by other = []

-- the requests that the node was asked in all turns, in order
abbrev pub asked_in : {N : Type 0} → List (Turn N) → List (Asked N)
asked_in [] = []
asked_in (turn ∷ past) = asked_in past ++ asked_by turn

-- no answer says that the disk failed: none is the page of 50
abbrev pub NoneFailed : {N : Type 0} → List (Turn N) → Type 0
NoneFailed [] = Unit {0}
NoneFailed (turn ∷ past) = AllByRecursion (λ asked. asked.answer ≢ Fixed 50) (asked_by turn) × NoneFailed past

-- the disk tells whenever a request comes
abbrev pub AreTold : {N : Type 0} → List (Turn N) → Type 0
AreTold [] = Unit {0}
AreTold (turn ∷ past) = AllByRecursion (λ asked. IsSome asked.disk) (asked_by turn) × AreTold past

module _ {N : Type 0} (conn code : ℕ) (old : Table) (before : World N) (new : Table) (after : World N) where
  -- The page of a code is sent on a connection, and the connection is let go.
  pub record LetsGo : Type 0 where
    pub sends : OnlySends conn (fixed code) before after
    pub gone : new ≡ map.remove old conn

-- `step` says what an answer of the node does.
module _ {N : Type 0} (step : NodeStep N) where
  -- The node is asked, at one moment of the clock, while the disk's moment goes on. Its count of faults never falls,
  -- and is as it was but where the answer says that the disk failed.
  pub record Asks (a : Asked N) (old new : World N) : Type 0 where
    pub node : a.node ≡ old.node
    pub disk : a.disk ≡ old.disk
    pub moment : TakesMoment old.clock a.now new.clock
    pub time : old.moment ≤ new.moment
    pub disk_faults : CountsAnswer a.answer old.disk_faults new.disk_faults
    pub answers : step old.node old.disk a.request a.now old.disk_faults new.disk_faults a.answer new.node new.disk
    pub link : new.link ≡ old.link
    pub send_faults : new.send_faults ≡ old.send_faults

  -- A whole request came on a connection that is kept: the node is asked, its answer is sent, and the connection is let
  -- go.
  pub record Answers (old : Table) (before : World N) (asked : Asked N) (new : Table) (after : World N) : Type 0 where
    pub request : IfSome (map.get old asked.conn) (λ bytes. Reads bytes (Whole asked.request))
    pub told : World N
    pub asks : Asks asked before told
    pub sends : OnlySends asked.conn (answer_bytes asked.answer) told after
    pub gone : new ≡ map.remove old asked.conn

  -- What a turn does to the connections that are kept and to the world.
  abbrev pub Does : Table → World N → Turn N → Table → World N → Type 0
  -- A connection that starts is let go, if it was kept, and taken anew.
  Does old before (Taken conn) new after = IsStarted (map.remove old conn) conn start.Taken new × (after ≡ before)
  -- Where as many are kept as there may be, the page of 503 is sent.
  Does old before (Full conn) new after =
      IsStarted (map.remove old conn) conn start.TableFull new × OnlySends conn (fixed 503) before after
  -- For want of memory the page of 52 is sent.
  Does old before (StarvedStart conn) new after =
      IsStarted (map.remove old conn) conn start.NoMemory new × OnlySends conn (fixed 52) before after
  Does old before (Over conn) new after = (new ≡ map.remove old conn) × (after ≡ before)
  -- A piece of a connection that is not kept is passed over.
  Does old before (Unknown conn piece) new after = TakesPiece old conn piece progress.Unknown new × (after ≡ before)
  Does old before (Waiting conn piece) new after = TakesPiece old conn piece progress.Waiting new × (after ≡ before)
  Does old before (Answered piece asked) new after = (between : Table)
      × TakesPiece old asked.conn piece progress.Ready between × Answers between before asked new after
  -- The page of the status is sent, and the connection is let go.
  Does old before (Refused conn piece status) new after = (between : Table)
      × TakesPiece old conn piece (progress.Refused status) between × LetsGo conn status between before new after
  -- For want of memory the page of 52 is sent, and the connection is let go.
  Does old before (StarvedPiece conn piece) new after =
      (between : Table) × TakesPiece old conn piece progress.NoMemory between × LetsGo conn 52 between before new after

  -- The turns, the latest first, were done one after the other, from no connection and this world on, each at the event
  -- that the link gave, and left these connections and that world.
  abbrev pub Run : World N → List (Turn N) → Table → World N → Type 0
  Run first [] table now = (table ≡ map.empty) × (now ≡ first)
  Run first (turn ∷ past) table now = (old : Table) × (before : World N) × (given : World N) × Run first past old before
      × IsNext (Some (event_at turn)) before given × Does old given turn table now

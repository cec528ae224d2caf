-- A node with its disk in memory and the connections that it keeps, and what each event does to it.
use Rattle.std.specs.Prelude.{◌≡◌, ◌≢◌, ℕ, true, false, List, [], ◌∷◌, length, Option, None, Some, Result, Err}
use Rattle.std.specs.FinMap as map
use Rattle.crash_disk.specs.Disk.{Image, DiskState}
use Rattle.crash_disk.specs.InMemory.{shown_in_memory}
use Rattle.crash_disk.specs.Memory.{DiskInMemory, state_of}
use Rattle.crash_disk.specs.Moments.{LeavesOnly}
use Rattle.gate_journal.specs.declared.fault.OpenFault.{OpenFault}
use Rattle.gate_journal.specs.declared.fault.OpenFault.TheVariants.{NoMemory}
use Rattle.gate_journal.specs.Opening.{CausesFaults}
use Rattle.http_wire.specs.Answers.{fixed}
use Rattle.http_wire.specs.Views.{answer_bytes}
use Rattle.conn_table.specs.Events.{Piece}
use Rattle.conn_table.specs.Table.{Table}
use Rattle.serve_loop.specs.Serving.{MightLeave}
use Rattle.serve_loop.specs.Turns.{Turn, Full, StarvedStart, Answered, Refused, StarvedPiece, Does, event_at}
use Rattle.serve_loop.specs.Worlds.{NodeRules, World, IsAnswered, world}

-- a node, its disk, and the connections that it keeps
pub record Host (N : Type 0) : Type 0 where
  pub node : N
  pub disk : DiskInMemory
  pub kept : Table

-- what its disk tells
abbrev pub told : {N : Type 0} → Host N → Option DiskState
told host = Some (state_of host.disk)

-- the world in which it serves: no link is between it and the agents, and its clock stands at this moment
abbrev pub world_of : {N : Type 0} → ℕ → Host N → World N
world_of now host = world host.node (told host) host.disk.faults (length host.disk.log) None 0 (Some (now ∷ []))

-- From the one disk to the other a crash leaves only what has P. Calls made the one of the other, so it failed only where the schedule set
-- a failure or a stop, or where a call found no memory.
abbrev pub Leaving : {N : Type 0} → Host N → Host N → (Image → Type 0) → Type 0
Leaving before after P = LeavesOnly shown_in_memory before.disk after.disk P

-- its disk is as before, and was started again where it had stopped
abbrev pub resumed : {N : Type 0} → Host N → Host N
resumed host = record host { disk = record host.disk { stopped = false } }

-- its connections are gone
abbrev pub without_connections : {N : Type 0} → Host N → Host N
without_connections host = record host { kept = map.empty }

-- What comes of a piece of a request: nothing yet; or bytes, for a request for a path where it was one.
pub data Outcome : Type 0 where
  Silent : Outcome
  Sent : (path : Option (List ℕ)) (bytes : List ℕ) → Outcome

-- what a turn of serving sends on its connection
abbrev pub outcome_of : {N : Type 0} → Turn N → Outcome
outcome_of (Full conn) = Sent None (fixed 503)
outcome_of (StarvedStart conn) = Sent None (fixed 52)
outcome_of (Answered piece asked) = Sent (Some asked.request.path) (answer_bytes asked.answer)
outcome_of (Refused conn piece status) = Sent None (fixed status)
outcome_of (StarvedPiece conn piece) = Sent None (fixed 52)
outcome_of turn = Silent

-- the turn found memory
abbrev pub IsFed : {N : Type 0} → Turn N → Type 0
IsFed (StarvedPiece conn piece) = ⊥
IsFed turn = Unit {0}

module _ {N : Type 0} (rules : NodeRules N) where
  -- A link event: at this moment of the clock this turn of serving is done, as serve_loop defines it.
  pub record Serves (now : ℕ) (turn : Turn N) (before after : Host N) : Type 0 where
    pub does : Does (IsAnswered rules) before.kept (world_of now before) turn after.kept (world_of now after)
    pub leaves : Leaving before after (MightLeave rules.leaves (told before) (turn ∷ []))

  -- A piece comes on a connection, finds memory, and this comes of it.
  pub record Takes (now conn : ℕ) (piece : List ℕ) (before : Host N) (outcome : Outcome) (after : Host N) : Type 0 where
    pub turn : Turn N
    pub event : event_at turn ≡ Piece conn piece
    pub fed : IsFed turn
    pub serves : Serves now turn before after
    pub comes : outcome ≡ outcome_of turn

  -- A call that opens or compacts came to this, and found memory. The node's contract says what it does and what a crash inside
  -- it may leave. The disk is the node's own then, also where the call failed.
  pub record Performs
      (does : N → Option DiskState → ℕ → ℕ → Result (Unit {0}) OpenFault → N → Option DiskState → Type 0)
      (may_leave : N → Option DiskState → Image → Type 0)
      (before : Host N) (result : Result (Unit {0}) OpenFault) (after : Host N) : Type 0 where
    pub done : does before.node (told before) before.disk.faults after.disk.faults result after.node (told after)
    pub leaves : Leaving before after (may_leave before.node (told before))
    pub owns : rules.own after.node (told after)
    pub memory : result ≢ Err NoMemory
    pub faults : CausesFaults result before.disk.faults after.disk.faults
    pub kept : after.kept ≡ before.kept

  -- A restart: the node opens what its disk holds, and its connections are gone.
  abbrev pub Restarts : Host N → Result (Unit {0}) OpenFault → Host N → Type 0
  Restarts before = Performs rules.reopens rules.reopening_leaves (without_connections before)

  -- A compaction at a moment.
  abbrev pub Compacts : ℕ → Host N → Result (Unit {0}) OpenFault → Host N → Type 0
  Compacts now =
      Performs (λ node disk. rules.compacts node disk now) (λ node disk. rules.compaction_leaves node disk now)

  -- A disk that stopped is started again, and then the node, whatever the stop left.
  abbrev pub Recovers : Host N → Host N → Type 0
  Recovers before after = (result : Result (Unit {0}) OpenFault) × Restarts (resumed before) result after

  -- What is known of an event: what came of it, or, where the disk stopped in it, only that the node was started again.
  abbrev pub Known : {A : Type 0} → (Host N → A → Host N → Type 0) → Option A → Host N → Host N → Type 0
  Known {A} event (Some result) before after = event before result after × (after.disk.stopped ≡ false)
  Known {A} event None before after =
      (result : A) × (behind : Host N) × event before result behind
      × (behind.disk.stopped ≡ true) × Recovers behind after

  -- what is known of a piece that comes on a connection
  abbrev pub Brings : (now conn : ℕ) → List ℕ → Option Outcome → Host N → Host N → Type 0
  Brings now conn piece = Known (Takes now conn piece)

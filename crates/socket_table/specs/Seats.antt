-- Connections with their streams, and what a call does to one of them.
use Rattle.std.specs.Prelude.{◌≡◌, ◌==◌, ◌&&◌, ◌||◌, ℕ, ◌+◌, ◌%◌, ◌^◌, ◌≤◌, List, [], length, take, map, All}
use Rattle.std.specs.Prelude.{Option, Some, Bool, false, position, count_by, slice_get, slice_set}
use Rattle.std.specs.Io.KnownBytes.{Appends, Consumes, Keeps, append_known}
use Rattle.socket_table.specs.declared.connection.Stage.{Stage}
use Rattle.socket_table.specs.declared.connection.Stage.TheVariants.{Arrived, Asking, Answered}
use Rattle.socket_table.specs.declared.connection.Connection.{Connection}
use Rattle.socket_table.specs.declared.seat.Seat.{Seat}
use Rattle.socket_table.specs.declared.seat.Said.{Said}
use Rattle.socket_table.specs.declared.seat.Said.TheVariants as said
use Rattle.socket_table.specs.Connections.{is_open, is_arrived, is_asking, is_overdue, is_heard, is_due, is_ready}
use Rattle.socket_table.specs.Connections.{time_left, IsSilent}

-- the number after one; after 2 ^ 32 - 1 comes 0
abbrev pub next_number : ℕ → ℕ
next_number last = (last + 1) % 2 ^ 32

-- a connection that was just taken
abbrev pub arrived_at : ℕ → ℕ → Connection
arrived_at number now =
    record {
      number = number;
      stage = Arrived;
      since = now;
      moved = now;
      is_readable = false;
      is_writable = false;
      left = [];
    }

-- a connection whose start is told
abbrev pub started_at : ℕ → Connection → Connection
started_at now connection = record connection { stage = Asking; since = now; moved = now }

-- how many connections are asking
abbrev pub asking_count : {S : Type 0} → List (Seat S) → ℕ
asking_count seats = count_by (λ seat. is_asking seat.connection.stage) seats

-- how long each connection may still be in its stage
abbrev pub times_left : {S : Type 0} → ℕ → List (Seat S) → List ℕ
times_left now seats = map (λ seat. time_left now seat.connection) seats

-- The place of the first connection, if there is one: that is overdue ..
abbrev pub overdue_place : {S : Type 0} → ℕ → List (Seat S) → Option ℕ
overdue_place now seats = position (λ seat. is_overdue now seat.connection) seats

-- .. whose start is not yet told, and that can be read
abbrev pub heard_place : {S : Type 0} → List (Seat S) → Option ℕ
heard_place seats = position (λ seat. is_heard seat.connection) seats

-- .. whose start is not yet told
abbrev pub arrived_place : {S : Type 0} → List (Seat S) → Option ℕ
arrived_place seats = position (λ seat. is_arrived seat.connection.stage) seats

-- .. that has waited for its start as long as it may
abbrev pub due_place : {S : Type 0} → ℕ → List (Seat S) → Option ℕ
due_place now seats = position (λ seat. is_due now seat.connection) seats

-- .. that is open and can be read
abbrev pub ready_place : {S : Type 0} → List (Seat S) → Option ℕ
ready_place seats = position (λ seat. is_ready seat.connection) seats

-- .. that has this number
abbrev pub place_of_number : {S : Type 0} → ℕ → List (Seat S) → Option ℕ
place_of_number number seats = position (λ seat. seat.connection.number == number) seats

-- .. that has this number and is open
abbrev pub open_place : {S : Type 0} → ℕ → List (Seat S) → Option ℕ
open_place number seats = position (λ seat. (seat.connection.number == number) && is_open seat.connection.stage) seats

-- what the system says of a connection: whether it may be read and written, besides what was said before
abbrev pub marked : Bool → Bool → Connection → Connection
marked is_readable is_writable connection =
    record connection {
      is_readable = connection.is_readable || is_readable;
      is_writable = connection.is_writable || is_writable;
    }

-- A call changed what lies at a place, so, and nothing else.
pub record ChangesAt {X : Type 0} (place : ℕ) (Does : X → X → Type 0) (old new : List X) : Type 0 where
  pub before : X
  pub after : X
  pub was : slice_get old place ≡ Some before
  pub is : new ≡ slice_set old place after
  pub does : Does before after

-- The streams stay, and each connection changes so.
abbrev pub ConnectionBecomes : {S : Type 0} → (Connection → Connection) → Seat S → Seat S → Type 0
ConnectionBecomes next before after = after ≡ record before { connection = next before.connection }

-- At that place lies the connection of this stage that has been silent longest, for so long at least.
pub record IsMostSilent {S : Type 0} (stage : Stage) (silence now : ℕ) (seats : List (Seat S)) (place : ℕ)
    : Type 0 where
  pub seat : Seat S
  pub is : slice_get seats place ≡ Some seat
  pub silent : IsSilent stage silence now seat.connection
  pub longest : All (λ other. IsSilent stage silence now other.connection
      → seat.connection.moved ≤ other.connection.moved) seats

-- What a connection said, when its stream was read: a piece has its own number, and the next bytes of its own stream,
-- in front of `into`; else no byte came. Nothing else of it changes than whether it may be read, and when it moved.
abbrev pub Hears : {S : Type 0} → (S → Option (List ℕ)) → List ℕ → ℕ → Said → Seat S → Seat S → Type 0
Hears remaining into now (said.Piece number n) before after =
    (number ≡ before.connection.number) × (1 ≤ n) × (n ≤ length into)
    × Consumes (remaining before.stream) (remaining after.stream) (take n into)
    × (after.connection ≡ record before.connection { moved = now; is_readable = after.connection.is_readable })
Hears remaining into now (said.Ended number) before after =
    (number ≡ before.connection.number)
    × Consumes (remaining before.stream) (remaining after.stream) []
    × (after.connection ≡ before.connection)
Hears remaining into now said.Nothing before after =
    Consumes (remaining before.stream) (remaining after.stream) []
    × (after.connection ≡ record before.connection { is_readable = false })

-- All bytes that were sent on a connection, where its stream knows its own: those that went out, and behind them those
-- that are left.
abbrev pub sent_on : {S : Type 0} → (S → Option (List ℕ)) → Seat S → Option (List ℕ)
sent_on contents seat = append_known (contents seat.stream) seat.connection.left

-- What is left went out as far as the stream took it: all bytes that were sent are those that were.
pub record Flushes {S : Type 0} (contents : S → Option (List ℕ)) (before after : Seat S) : Type 0 where
  pub sent : Keeps (sent_on contents before) (sent_on contents after)
  pub number : after.connection.number ≡ before.connection.number
  pub stage : after.connection.stage ≡ before.connection.stage
  pub since : after.connection.since ≡ before.connection.since

-- Bytes were sent on a connection: they are behind all that were.
pub record SendsOn {S : Type 0} (contents : S → Option (List ℕ)) (bytes : List ℕ) (now : ℕ) (before after : Seat S)
    : Type 0 where
  pub sent : Appends (sent_on contents before) (sent_on contents after) bytes
  pub number : after.connection.number ≡ before.connection.number
  pub stage : after.connection.stage ≡ Answered
  pub since : after.connection.since ≡ now

-- How far a connection is, and for how long it may be so. Times are in milliseconds.
use Rattle.std.specs.Prelude.{◌≡◌, ℕ, ◌-◌, ◌≤◌, ◌==◌, nat_lt, Bool, true, false, not, ◌&&◌, ◌||◌, if◌then◌else◌, length}
use Rattle.socket_table.specs.declared.limits.TheConstants.{LINGER, LONGEST, SILENCE}
use Rattle.socket_table.specs.declared.connection.Stage.{Stage}
use Rattle.socket_table.specs.declared.connection.Stage.TheVariants.{Arrived, Asking, Answered, Closed, Shut}
use Rattle.socket_table.specs.declared.connection.Connection.{Connection}

-- how long a connection may be in a stage
abbrev pub longest : Stage → ℕ
longest Arrived = SILENCE
longest Asking = LONGEST
longest Answered = LONGEST
longest Closed = LONGEST
longest Shut = LINGER

-- whether its start was told, and it is not closed
abbrev pub is_open : Stage → Bool
is_open Arrived = false
is_open Asking = true
is_open Answered = true
is_open Closed = false
is_open Shut = false

-- whether its start is not yet told
abbrev pub is_arrived : Stage → Bool
is_arrived Arrived = true
is_arrived Asking = false
is_arrived Answered = false
is_arrived Closed = false
is_arrived Shut = false

-- whether it started, and nothing was sent on it
abbrev pub is_asking : Stage → Bool
is_asking Arrived = false
is_asking Asking = true
is_asking Answered = false
is_asking Closed = false
is_asking Shut = false

-- whether it is closed, with nothing left to send
abbrev pub is_shut : Stage → Bool
is_shut Arrived = false
is_shut Asking = false
is_shut Answered = false
is_shut Closed = false
is_shut Shut = true

-- how long a connection may still be in its stage
abbrev pub time_left : ℕ → Connection → ℕ
time_left now connection = longest connection.stage - (now - connection.since)

-- whether its start was told, and it has been in its stage for as long as it may
abbrev pub is_overdue : ℕ → Connection → Bool
is_overdue now connection = not (is_arrived connection.stage) && (time_left now connection == 0)

-- whether its start is not yet told, and a read of it may give something
abbrev pub is_heard : Connection → Bool
is_heard connection = is_arrived connection.stage && connection.is_readable

-- whether its start is not yet told, and it has waited for that as long as it may
abbrev pub is_due : ℕ → Connection → Bool
is_due now connection = is_arrived connection.stage && (time_left now connection == 0)

-- whether it is open and a read of it may give something
abbrev pub is_ready : Connection → Bool
is_ready connection = connection.is_readable && is_open connection.stage

-- whether it has bytes to send and may take some
abbrev pub is_taking : Connection → Bool
is_taking connection = connection.is_writable && nat_lt 0 (length connection.left)

-- whether it is shut and a read of it may give something
abbrev pub is_dropping : Connection → Bool
is_dropping connection = connection.is_readable && is_shut connection.stage

-- whether something can be read, sent or dropped on it now
abbrev pub is_busy : Connection → Bool
is_busy connection = is_ready connection || (is_taking connection || is_dropping connection)

-- a connection that is closed: it is shut where nothing is left to send
abbrev pub closed_at : ℕ → Connection → Connection
closed_at now connection =
    record connection { stage = if length connection.left == 0 then Shut else Closed; since = now }

-- It is in this stage, and nothing came from it or went out on it for so long.
abbrev pub IsSilent : Stage → ℕ → ℕ → Connection → Type 0
IsSilent stage silence now connection = (connection.stage ≡ stage) × (silence ≤ now - connection.moved)

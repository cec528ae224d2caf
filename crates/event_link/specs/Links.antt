-- Where a link listens, what it gives, what it sends and what it closes, and in which order.
use Rattle.std.specs.Prelude.{◌≡◌, ◌≢◌, ℕ, ◌≤◌, nat_le, if◌then◌else◌, List, [], ◌∷◌, ◌++◌, length, take, drop, Option, None, Some, IsSomeAnd, Result, Ok, Err}
use Rattle.std.specs.Option.{option_map}
use Rattle.crash_disk.specs.Counts.{one_more}
use Rattle.event_link.specs.declared.arrival.Arrival.{Arrival}
use Rattle.event_link.specs.declared.arrival.Arrival.TheVariants.{Start, Bytes, End, Halt}
use Rattle.event_link.specs.declared.closings.Closings.{Closings}
use Rattle.event_link.specs.declared.link.LinkEvent.{LinkEvent}
use Rattle.event_link.specs.declared.link.LinkEvent.TheVariants.{Started, Piece, Ended, Stop}

-- A call of a link, and how it ended.
pub data LinkCall : Type 0 where
  -- a `listen` at this address that went well, or failed
  Listened ListenFailed : List ℕ → LinkCall
  -- a `next` that gave this event, with the bytes of a piece, or failed
  Gave : LinkEvent → List ℕ → LinkCall
  NextFailed : LinkCall
  -- a `send` of these bytes on this connection that went well, or failed
  Sent SendFailed : ℕ → List ℕ → LinkCall
  -- a `close` of this connection
  Closed : ℕ → LinkCall

-- What a link tells.
pub record LinkState : Type 0 where
  -- what is to come, the first of it first
  pub coming : List Arrival
  -- all bytes that went out on each connection
  pub sent : ℕ → List ℕ
  -- where it listens, if it does
  pub address : Option (List ℕ)
  -- how connections were closed
  pub closings : Closings
  -- the calls that it took, in their order, where it tells them
  pub calls : Option (List LinkCall)

-- the link behind one more call
abbrev pub noted : LinkCall → LinkState → LinkState
noted call link = record link { calls = option_map (λ calls. calls ++ call ∷ []) link.calls }

-- What a link shows at a moment.
pub record LinkShown : Type 0 where
  -- what is to come, what was sent, where it listens and what was closed, where the link tells it
  pub told : Option LinkState
  -- how many faults of `listen` and `next` there were, and how many of `send`
  pub faults : ℕ
  pub send_faults : ℕ

-- What a `next` gives.
pub record Given : Type 0 where
  pub event : LinkEvent
  -- the bytes of a piece, else none
  pub bytes : List ℕ
  -- what is to come after it
  pub later : List Arrival

-- With room for so many bytes a `next` gives what comes first. A piece that fits is given whole; of a longer one as many
-- bytes as fit are given, and the others are still to come. Where nothing is to come, it gives Stop.
abbrev pub next_of : ℕ → List Arrival → Given
next_of room [] = record { event = Stop; bytes = []; later = [] }
next_of room (Start conn ∷ later) = record { event = Started conn; bytes = []; later = later }
next_of room (Bytes conn bytes ∷ later) =
    if nat_le (length bytes) room
    then record { event = Piece conn (length bytes); bytes = bytes; later = later }
    else record { event = Piece conn room; bytes = take room bytes; later = Bytes conn (drop room bytes) ∷ later }
next_of room (End conn ∷ later) = record { event = Ended conn; bytes = []; later = later }
next_of room (Halt ∷ later) = record { event = Stop; bytes = []; later = later }

-- these bytes in front, and behind them what was there
abbrev pub in_front : List ℕ → List ℕ → List ℕ
in_front bytes old = bytes ++ drop (length bytes) old

-- A piece has at least one byte, and no more than there is room for.
abbrev pub Fits : LinkEvent → ℕ → Type 0
Fits (Started conn) room = Unit {0}
Fits (Piece conn n) room = (1 ≤ n) × (n ≤ room)
Fits (Ended conn) room = Unit {0}
Fits Stop room = Unit {0}

-- the link once it gave that
abbrev pub after_next : Given → LinkState → LinkState
after_next given link = noted (Gave given.event given.bytes) (record link { coming = given.later })

-- What a `next` did: what a link told before and what lay in the place for bytes, the answer, what lies there and what
-- the link tells after. Where the `next` failed, all that was to come is still to come. A link that does not tell goes
-- on not telling.
abbrev pub Gives : {E : Type 0} → Option LinkState → List ℕ → Result LinkEvent E → List ℕ → Option LinkState → Type 0
Gives told before (Err _) after now = now ≡ option_map (noted NextFailed) told
Gives None before (Ok event) after now = now ≡ None
Gives (Some link) before (Ok event) after now =
    let given = next_of (length before) link.coming in
    (event ≡ given.event) × (after ≡ in_front given.bytes before) × (now ≡ Some (after_next given link))

-- These bytes went out on that connection, and nothing on others.
pub record IsPut (conn : ℕ) (bytes : List ℕ) (before after : ℕ → List ℕ) : Type 0 where
  pub on_it : after conn ≡ before conn ++ bytes
  pub on_others : (other : ℕ) → other ≢ conn → after other ≡ before other

-- By this call these bytes were sent on that connection, and else all is as it was.
pub record IsSent (call : LinkCall) (conn : ℕ) (bytes : List ℕ) (before after : LinkState) : Type 0 where
  pub put : IsPut conn bytes before.sent after.sent
  pub same : after ≡ noted call (record before { sent = after.sent })

-- What a `send` did: after Ok all bytes were sent, after Failed a prefix of them.
abbrev pub Sends : {T E : Type 0} → ℕ → List ℕ → Option LinkState → Result T E → Option LinkState → Type 0
Sends conn bytes None result now = now ≡ None
Sends conn bytes (Some link) (Ok _) now = IsSomeAnd now (IsSent (Sent conn bytes) conn bytes link)
Sends conn bytes (Some link) (Err _) now = IsSomeAnd now (λ after. (n : ℕ) × IsSent (SendFailed conn bytes) conn (take n bytes) link after)

-- A link that listens at this address, and at no other.
abbrev pub listening : List ℕ → LinkState → LinkState
listening address link = noted (Listened address) (record link { address = Some address })

-- What a link tells after a `listen`: after Ok it listens at that address, after Failed where it did.
abbrev pub listened : {T E : Type 0} → List ℕ → Result T E → Option LinkState → Option LinkState
listened address (Ok _) told = option_map (listening address) told
listened address (Err _) told = option_map (noted (ListenFailed address)) told

-- What a link tells once a connection was closed, behind all bytes that had gone out on it.
abbrev pub closed_on : ℕ → LinkState → LinkState
closed_on conn link = noted (Closed conn) (record link { closings = record { count = one_more link.closings.count; last = conn; behind = length (link.sent conn) } })

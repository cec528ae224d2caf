-- Clocks and links in memory.
use Rattle.std.specs.Prelude.{◌≡◌, ℕ, ◌-◌, ◌≤◌, List, [], ◌∷◌, length, Option, None, Some}
use Rattle.std.specs.Option.{unwrap_or}
use Rattle.std.specs.Map.{lookup}
use Rattle.std.specs.BTreeMap.{is_at}
use Rattle.std.specs.Ordering.{nat_cmp}
use Rattle.crash_disk.specs.Counts.{one_more}
use Rattle.event_link.specs.declared.arrival.Arrival.{Arrival}
use Rattle.event_link.specs.declared.arrival.Arrival.TheVariants.{Start, Bytes, End, Halt}
use Rattle.event_link.specs.declared.closings.Closings.{Closings}
use Rattle.event_link.specs.declared.faults.Faults.{Faults}
use Rattle.event_link.specs.declared.link.LinkEvent.{LinkEvent}
use Rattle.event_link.specs.declared.link.LinkEvent.TheVariants.{Started, Piece, Ended, Stop}
use Rattle.event_link.specs.Links.{LinkState, LinkShown}

-- a clock in memory
pub record ClockInMemory : Type 0 where
  -- the moment that it gave last, 0 where it gave none
  pub last : ℕ
  -- the moments that were added and not given yet
  pub coming : List ℕ

-- the moments to come, of which the last one repeats
abbrev pub moments_in : ℕ → List ℕ → List ℕ
moments_in last [] = last ∷ []
moments_in last (now ∷ later) = now ∷ later

abbrev pub moments_of : ClockInMemory → List ℕ
moments_of clock = moments_in clock.last clock.coming

-- a clock in memory after one more call
abbrev pub given_in : ℕ → List ℕ → ClockInMemory
given_in last [] = record { last = last; coming = [] }
given_in last (now ∷ later) = record { last = now; coming = later }

abbrev pub after_now : ClockInMemory → ClockInMemory
after_now clock = given_in clock.last clock.coming

-- The bytes that go with an event: of a piece as many as it says and at least one, else none.
abbrev pub GoesWith : LinkEvent → List ℕ → Type 0
GoesWith (Started conn) bytes = bytes ≡ []
GoesWith (Piece conn n) bytes = (1 ≤ n) × (length bytes ≡ n)
GoesWith (Ended conn) bytes = bytes ≡ []
GoesWith Stop bytes = bytes ≡ []

-- what is to come where this event with these bytes was added
abbrev pub arrival_of : LinkEvent → List ℕ → Arrival
arrival_of (Started conn) bytes = Start conn
arrival_of (Piece conn n) bytes = Bytes conn bytes
arrival_of (Ended conn) bytes = End conn
arrival_of Stop bytes = Halt

-- each piece to come has a byte
abbrev pub HaveBytes : List Arrival → Type 0
HaveBytes [] = Unit {0}
HaveBytes (Start conn ∷ later) = HaveBytes later
HaveBytes (Bytes conn bytes ∷ later) = (1 ≤ length bytes) × HaveBytes later
HaveBytes (End conn ∷ later) = HaveBytes later
HaveBytes (Halt ∷ later) = HaveBytes later

-- a link in memory
pub record LinkInMemory : Type 0 where
  -- what is to come
  pub coming : List Arrival
  -- each connection on which a `send` went well, with all that was sent on it, in the order of their numbers
  pub sent : List (ℕ × List ℕ)
  -- where it listens
  pub address : Option (List ℕ)
  pub closings : Closings
  -- the calls of `next`, and those of `send`
  pub nexts : Faults
  pub sends : Faults

-- what was sent on a connection
abbrev pub sent_on : List (ℕ × List ℕ) → ℕ → List ℕ
sent_on sent conn = unwrap_or (lookup (is_at (nat_cmp conn)) sent) []

-- what a link in memory tells: all but its calls
abbrev pub state_of : LinkInMemory → LinkState
state_of link = record {
  coming = link.coming;
  sent = sent_on link.sent;
  address = link.address;
  closings = link.closings;
  calls = None;
}

-- what a link in memory shows
abbrev pub shown_by_list : LinkInMemory → LinkShown
shown_by_list link = record { told = Some (state_of link); faults = link.nexts.count; send_faults = link.sends.count }

-- the calls of one kind after one more that went well: the chosen call is one nearer
abbrev pub nearer : Faults → Faults
nearer calls = record calls { chosen = calls.chosen - 1 }

-- and after one more that failed: the count rose by one too
abbrev pub failed : Faults → Faults
failed calls = record { chosen = calls.chosen - 1; count = one_more calls.count }

-- The definitions at worked examples.
use Rattle.std.specs.Prelude.{◌≡◌, List, [], ◌∷◌, codes, None, Some, Result, Ok, Err, refl}
use Rattle.event_link.specs.declared.arrival.Arrival.{Arrival}
use Rattle.event_link.specs.declared.arrival.Arrival.TheVariants.{Start, Bytes, End, Halt}
use Rattle.event_link.specs.declared.link.LinkEvent.TheVariants.{Started, Piece, Ended, Stop}
use Rattle.event_link.specs.Clocks.{now_of, later_of, moment_at}
use Rattle.event_link.specs.Links.{Closed, Gave, LinkState, ListenFailed, Listened, NextFailed, after_next, closed_on, in_front, listened, next_of, noted}
use Rattle.event_link.specs.InMemory.{ClockInMemory, after_now, moments_of, sent_on}

-- a clock with the moments 5 and 3 to come gives 5, 3, 3, 3; one with none gives 0
moments : (now_of (5 ∷ 3 ∷ []) ≡ 5) × (later_of (5 ∷ 3 ∷ []) ≡ 3 ∷ []) × (later_of (3 ∷ []) ≡ 3 ∷ []) × (now_of [] ≡ 0) × (later_of [] ≡ [])
moments = (refl, refl, refl, refl, refl)

numbered : (moment_at (5 ∷ 3 ∷ []) 0 ≡ 5) × (moment_at (5 ∷ 3 ∷ []) 1 ≡ 3) × (moment_at (5 ∷ 3 ∷ []) 2 ≡ 3) × (moment_at [] 4 ≡ 0)
numbered = (refl, refl, refl, refl)

-- the same clock in memory, and one to which 7 is added after it gave 3
abbrev clock : ClockInMemory
clock = record { last = 0; coming = 5 ∷ 3 ∷ [] }

clocks : (moments_of clock ≡ 5 ∷ 3 ∷ []) × (moments_of (after_now (after_now clock)) ≡ 3 ∷ []) × (moments_of (record { last = 3; coming = 7 ∷ [] }) ≡ 7 ∷ [])
clocks = (refl, refl, refl)

-- connection 1 starts, sends abc and ends
abbrev coming : List Arrival
coming = Start 1 ∷ Bytes 1 (codes "abc") ∷ End 1 ∷ []

-- with room for two bytes: Started 1, the piece ab, the piece c, Ended 1, Stop, Stop
first : next_of 2 coming ≡ record { event = Started 1; bytes = []; later = Bytes 1 (codes "abc") ∷ End 1 ∷ [] }
first = refl

second : next_of 2 (next_of 2 coming).later ≡ record { event = Piece 1 2; bytes = codes "ab"; later = Bytes 1 (codes "c") ∷ End 1 ∷ [] }
second = refl

third : next_of 2 (Bytes 1 (codes "c") ∷ End 1 ∷ []) ≡ record { event = Piece 1 1; bytes = codes "c"; later = End 1 ∷ [] }
third = refl

ends : (next_of 2 (End 1 ∷ []) ≡ record { event = Ended 1; bytes = []; later = [] }) × (next_of 2 [] ≡ record { event = Stop; bytes = []; later = [] }) × (next_of 2 (Halt ∷ End 1 ∷ []) ≡ record { event = Stop; bytes = []; later = End 1 ∷ [] })
ends = (refl, refl, refl)

-- a piece that fits exactly is given whole
exact : next_of 3 (Bytes 1 (codes "abc") ∷ []) ≡ record { event = Piece 1 3; bytes = codes "abc"; later = [] }
exact = refl

-- the bytes of a piece in front of what lay in the place for them
places : (in_front (codes "c") (codes "ab") ≡ codes "cb") × (in_front [] (codes "ab") ≡ codes "ab")
places = (refl, refl)

-- hi was sent on connection 1, oh on 4, nothing on 2
sent : (sent_on ((1, codes "hi") ∷ (4, codes "oh") ∷ []) 4 ≡ codes "oh") × (sent_on ((1, codes "hi") ∷ (4, codes "oh") ∷ []) 2 ≡ [])
sent = (refl, refl)

-- a link that listens nowhere, on which hi was sent on connection 1, and which tells its calls from now on
abbrev quiet : LinkState
quiet = record {
  coming = [];
  sent = sent_on ((1, codes "hi") ∷ []);
  address = None;
  closings = record { count = 0; last = 0; behind = 0 };
  calls = Some [];
}

-- it listens where it was told to last, and a `listen` that fails changes nothing
abbrev went_well : Result (Unit {0}) (Unit {0})
went_well = Ok tt

abbrev failed : Result (Unit {0}) (Unit {0})
failed = Err tt

listens : (listened (codes "b") went_well (listened (codes "a") went_well (Some quiet)) ≡ Some (record quiet { address = Some (codes "b"); calls = Some (Listened (codes "a") ∷ Listened (codes "b") ∷ []) }))
    × (listened (codes "a") failed (Some quiet) ≡ Some (record quiet { calls = Some (ListenFailed (codes "a") ∷ []) }))
listens = (refl, refl)

-- connection 1 is closed behind two bytes, and then connection 4 behind none
closes : ((closed_on 1 quiet).closings ≡ record { count = 1; last = 1; behind = 2 })
    × ((closed_on 4 (closed_on 1 quiet)).closings ≡ record { count = 2; last = 4; behind = 0 })
closes = (refl, refl)

-- it gives that connection 3 started, and then a `next` fails; last the connection is closed
told : (noted NextFailed (after_next (next_of 2 (Start 3 ∷ [])) quiet) ≡ record quiet { calls = Some (Gave (Started 3) [] ∷ NextFailed ∷ []) })
    × ((closed_on 1 (closed_on 3 quiet)).calls ≡ Some (Closed 3 ∷ Closed 1 ∷ []))
told = (refl, refl)

-- a link that does not tell its calls goes on not telling them
untold : (closed_on 1 (record quiet { calls = None })).calls ≡ None
untold = refl

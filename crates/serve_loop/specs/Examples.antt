-- The definitions at worked examples.
use Rattle.std.specs.Prelude.{◌≡◌, ℕ, List, [], ◌∷◌, codes, map, false, None, Some, Ok, Err, refl}
use Rattle.std.proofs.Common.{lit≤, arith, inl, ⊎_elim}
use Rattle.crash_disk.specs.Disk.{Image, MayLeave, settled_image}
use Rattle.crash_disk.specs.Soundness.{sound-settled_image}
use Rattle.event_link.specs.declared.arrival.Arrival.TheVariants as arrivals
use Rattle.event_link.specs.declared.link.LinkEvent.TheVariants as link_events
use Rattle.event_link.specs.Links.{Gave, LinkState, NextFailed}
use Rattle.http_wire.specs.declared.answer.Answer.TheVariants as answers
use Rattle.http_wire.specs.declared.method.Method.TheVariants.{Get}
use Rattle.http_wire.specs.Requests.{Request, Whole, Refused as RefusedReading}
use Rattle.conn_table.specs.Events.{Started, Piece, Ended}
use Rattle.serve_loop.specs.declared.served.ServeFault.TheVariants as faults
use Rattle.serve_loop.specs.Laws.{whole_requests}
use Rattle.serve_loop.specs.Serving.{Ends, LeavesSince}
use Rattle.serve_loop.specs.Turns.{Asked, Turn, Taken, Full, StarvedStart, Over, Unknown, Waiting, Answered}
use Rattle.serve_loop.specs.Turns.{StarvedPiece, history_of, asked_in}
use Rattle.serve_loop.specs.Worlds.{World, Comes, TakesMoment, world}

abbrev ask : List ℕ → Request
ask path = record { method = Get; path = path; cookie = None; content_type = None; body = [] }

-- a node that is the number of requests it was asked
abbrev asked : ℕ → List ℕ → ℕ → Asked ℕ
asked conn path node =
    record { conn = conn; request = ask path; now = 5; node = node; disk = None; answer = answers.Fixed 404 }

-- connections 7 and 8 start, 9 finds the table full; 8 is answered first, then 7; 8 brings more and is passed over
abbrev turns : List (Turn ℕ)
turns = Unknown 8 (codes "e") ∷ Answered (codes "d") (asked 7 (codes "/cd") 1)
    ∷ Answered (codes "b") (asked 8 (codes "/b") 0) ∷ Waiting 7 (codes "c") ∷ Full 9 ∷ Taken 8 ∷ Taken 7 ∷ []

-- the requests in the order in which they were asked
in_order : map (λ one. one.conn) (asked_in turns) ≡ 8 ∷ 7 ∷ []
in_order = refl

-- the events, the latest first: each start is an end and a start
events : history_of turns ≡ Piece 8 (codes "e") ∷ Piece 7 (codes "d")
    ∷ Piece 8 (codes "b") ∷ Piece 7 (codes "c") ∷ Started 9 ∷ Ended 9 ∷ Started 8 ∷ Ended 8 ∷ Started 7 ∷ Ended 7 ∷ []
events = refl

-- a start or a piece that finds no memory is an end
starved : history_of {N = ℕ} (StarvedPiece 7 (codes "a") ∷ Taken 7 ∷ StarvedStart 6 ∷ []) ≡ Ended 7
    ∷ Started 7 ∷ Ended 7 ∷ Ended 6 ∷ []
starved = refl

-- of what was completed the whole requests count
wholes : whole_requests (record { conn = 8; reading = Whole (ask (codes "/b")) }
    ∷ record { conn = 9; reading = RefusedReading 400 } ∷ []) ≡ (8, ask (codes "/b")) ∷ []
wholes = refl

-- what is to come
abbrev link : LinkState
link = record {
  coming = arrivals.Bytes 7 (codes "ab") ∷ arrivals.Halt ∷ arrivals.Start 8 ∷ [];
  sent = λ conn. [];
  address = None;
  closings = record { count = 0; last = 0; behind = 0 };
  calls = Some [];
}

-- the piece comes first, then Stop, and connection 8 is still to come
comes : Comes
    (Some (Piece 7 (codes "ab"))) (Some link) (Some (record link {
      coming = arrivals.Halt ∷ arrivals.Start 8 ∷ [];
      calls =
          Some (Gave (link_events.Piece 7 2) (codes "ab") ∷ []);
    }))
comes = (refl, refl)

stops : Comes None (Some (record link { coming = arrivals.Halt ∷ arrivals.Start 8 ∷ []; calls = None }))
    (Some (record link { coming = arrivals.Start 8 ∷ []; calls = None }))
stops = (refl, refl)

-- a moment behind the year 9999 counts as its last one, and the clock goes on
moment : TakesMoment (Some (253402300800000 ∷ 3 ∷ [])) 253402300799999 (Some (3 ∷ []))
moment = record { moment = refl; limit = lit≤ tt; later = refl }

-- a budget of one event was used up
abbrev here : World ℕ
here = world 0 None 0 0 (Some link) 0 None

ends : Ends 1 (Over 7 ∷ []) here (Ok (record { events = 1; stopped = false })) here
ends = (refl, (refl, refl))

-- a budget of two was not, and a `next` failed
faulty : Ends 2 (Over 7 ∷ []) here (Err faults.LinkFault) (record here { link = Some (record link { calls = Some (NextFailed ∷ []) }) })
faulty = (lit≤ tt, refl)

-- a disk that holds one byte at moment 5, before no request
abbrev holding : List ℕ → Image
holding bytes = record { zero = bytes; one = [] }

abbrev point : World ℕ
point = world 0 (Some (settled_image (holding (1 ∷ [])))) 0 5 None 0 None

-- since then a crash leaves that byte and nothing else,
stays : LeavesSince (λ _ _ _ _ _. ⊥) (λ t image. MayLeave (settled_image (holding (1 ∷ []))) image) point []
stays = record { here = λ image may. may; only = λ image left. inl left }

-- so that the byte was not gone in between,
undone : LeavesSince (λ _ _ _ _ _. ⊥) (λ t image. Unit {0}) point [] → ⊥
undone since = ⊎_elim (λ may. omega (arith, may.zero.no_shorter)) (λ inside. inside.2) (since.only (holding []) tt)

-- and the byte was there once.
late : LeavesSince (λ _ _ _ _ _. ⊥) (λ t image. ⊥) point [] → ⊥
late since = let sound = sound-settled_image (holding (1 ∷ [])) in
    since.here (holding (1 ∷ [])) (record { zero = sound.zero.reads; one = sound.one.reads })

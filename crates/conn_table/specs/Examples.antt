-- The definitions at worked examples, with a small language in place of HTTP: a request is what stands before the first dot,
-- and what begins with a question mark is refused.
use Rattle.std.specs.Prelude.{◌≡◌, ℕ, zero, suc, ◌==◌, false, List, [], ◌∷◌, ◌++◌, codes, length, reverse, None, refl, if◌then◌else◌}
use Rattle.http_wire.specs.declared.method.Method.TheVariants.{Get}
use Rattle.http_wire.specs.Requests.{Request, Reading, Whole, More, Refused}
use Rattle.conn_table.specs.Events.{Started, Piece, Ended, History, Completion, contains, kept, completions}

ask : List ℕ → Request
ask path = record { method = Get; path = path; cookie = None; content_type = None; body = [] }

to_dot : List ℕ → List ℕ → Reading
to_dot front [] = More
to_dot front (b ∷ bytes) = if b == 46 then Whole (ask front) else to_dot (front ++ b ∷ []) bytes

small : List ℕ → Reading
small [] = More
small (b ∷ bytes) = if b == 63 then Refused 400 else to_dot [] (b ∷ bytes)

-- the connection that was completed, and its request
whole : ℕ → List ℕ → Completion
whole conn path = record { conn = conn; reading = Whole (ask path) }

refused : ℕ → Completion
refused conn = record { conn = conn; reading = Refused 400 }

-- two connections whose pieces alternate: each has its own bytes, and the second is done first
alternating : completions small (reverse (Started 7 ∷ Started 8 ∷ Piece 7 (codes "a") ∷ Piece 8 (codes "c") ∷ Piece 7 (codes "b") ∷ Piece 8 (codes ".") ∷ Piece 7 (codes ".") ∷ []))
    ≡ whole 8 (codes "c") ∷ whole 7 (codes "ab") ∷ []
unfolding whole small to_dot ask
alternating = refl

-- a request in one piece, and cut in two
in_one : completions small (reverse (Started 7 ∷ Piece 7 (codes "ab.") ∷ [])) ≡ whole 7 (codes "ab") ∷ []
unfolding whole small to_dot ask
in_one = refl

cut_in_two : completions small (reverse (Started 7 ∷ Piece 7 (codes "a") ∷ Piece 7 (codes "b.") ∷ [])) ≡ whole 7 (codes "ab") ∷ []
unfolding whole small to_dot ask
cut_in_two = refl

-- what is behind the end changes nothing, in the same piece or a later one: a connection is completed once
behind_the_end : completions small (reverse (Started 7 ∷ Piece 7 (codes "a.b") ∷ Piece 7 (codes "c.") ∷ [])) ≡ whole 7 (codes "a") ∷ []
unfolding whole small to_dot ask
behind_the_end = refl

-- a refusal completes a connection too
refusal : completions small (reverse (Started 7 ∷ Piece 7 (codes "?") ∷ Piece 7 (codes "a.") ∷ [])) ≡ refused 7 ∷ []
unfolding whole refused small to_dot ask
refusal = refl

-- a connection that ended is completed no more, and one that starts again begins with no bytes
started_again : completions small (reverse (Started 7 ∷ Piece 7 (codes "a") ∷ Ended 7 ∷ Piece 7 (codes ".") ∷ Started 7 ∷ Piece 7 (codes "b.") ∷ [])) ≡ whole 7 (codes "b") ∷ []
unfolding whole small to_dot ask
started_again = refl

-- so many connections are started, one after the other
starts : ℕ → History
starts zero = []
starts (suc n) = Started n ∷ starts n

-- the 65th is not taken, and its piece is answered by none; once one has ended, the next is taken
sixty_five : (length (kept small (starts 65)) ≡ 64) × (contains 64 (kept small (starts 65)) ≡ false)
    × (completions small (Piece 64 (codes "a.") ∷ starts 65) ≡ [])
    × (completions small (Piece 70 (codes "b.") ∷ Started 70 ∷ Ended 3 ∷ starts 65) ≡ whole 70 (codes "b") ∷ [])
unfolding whole small to_dot ask starts
sixty_five = (refl, refl, refl, refl)

-- The definitions at worked examples.
use Rattle.std.specs.Prelude.{◌≡◌, ℕ, true, false, List, [], ◌∷◌, codes, None, Some, refl}
use Rattle.logout_turns.specs.declared.turns.Turn.{Turn}
use Rattle.round_rows.specs.declared.row.RoundRow.{RoundRow}
use Rattle.round_rows.specs.Rounds.{is_done, is_turn_left, is_turn_of, answered, round_found}

turn : List ℕ → Turn
turn peer = record { peer = peer; name = codes "alice"; indexes = codes "_i" ∷ [] }

-- a round of two turns, behind so many answers, which waits for the answer to a request until moment 600000
round : List ℕ → (told confirmed : ℕ) → RoundRow
round request told confirmed = record {
  request = request;
  message = codes "_m";
  asker = None;
  turns = turn (codes "b") ∷ turn (codes "c") ∷ [];
  skipped = false;
  told = told;
  confirmed = confirmed;
  until = 600000;
}

-- at first the provider of the first turn is asked, and then that of the second, behind which no turn is left
turns_come : (is_turn_of (codes "b") (round (codes "_r1") 0 0) ≡ true)
    × (is_turn_left (round (codes "_r1") 0 0) ≡ true)
    × (is_turn_of (codes "b") (round (codes "_r2") 1 1) ≡ false)
    × (is_turn_left (round (codes "_r2") 1 1) ≡ false)
    × (is_done (round (codes "_r2") 1 1) ≡ false)
    × (is_done (round (codes "_r2") 2 1) ≡ true)
unfolding round turn
turns_come = (refl, refl, refl, refl, refl, refl)

-- an answer that confirms the first request, and one that does not confirm the second
answers_come : (answered (codes "_r1") true (Some (codes "_r2")) (round (codes "_r1") 0 0 ∷ []) ≡ round (codes "_r2") 1 1 ∷ [])
    × (answered (codes "_r2") false None (round (codes "_r2") 1 1 ∷ []) ≡ round (codes "_r2") 2 1 ∷ [])
    × (answered (codes "_r1") true None (round (codes "_r2") 1 1 ∷ []) ≡ round (codes "_r2") 1 1 ∷ [])
unfolding round turn
answers_come = (refl, refl, refl)

-- a round is found by the request for which it waits, until its last moment, and not once it is done
rounds_found : (round_found (round (codes "_r2") 1 1 ∷ []) (codes "_r2") 599999 0 ≡ Some (round (codes "_r2") 1 1))
    × (round_found (round (codes "_r2") 1 1 ∷ []) (codes "_r1") 0 0 ≡ None)
    × (round_found (round (codes "_r2") 1 1 ∷ []) (codes "_r2") 600000 0 ≡ None)
    × (round_found (round (codes "_r2") 2 1 ∷ []) (codes "_r2") 0 0 ≡ None)
unfolding round turn
rounds_found = (refl, refl, refl, refl)

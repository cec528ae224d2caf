-- The definitions at worked examples.
use Rattle.std.specs.Prelude.{◌≡◌, ℕ, true, false, List, [], ◌∷◌, codes, Option, None, Some, map, refl}
use Rattle.ledger_records.specs.declared.idp_record.IdpRecord.{IdpRecord}
use Rattle.ledger_records.specs.declared.idp_record.IdpRecord.TheVariants as kinds
use Rattle.idp_rows.specs.declared.row.SessionRow.{SessionRow}
use Rattle.ledger_records.specs.declared.idp_round.Round.{Round}
use Rattle.logout_turns.specs.declared.turns.Turn.{Turn}
use Rattle.round_rows.specs.declared.row.RoundRow.{RoundRow}
use Rattle.idp_rows.specs.RoundsOf.{round_rows, confirmed_all}
use Rattle.idp_rows.specs.RowsOf.{rows_of, issued_rows, session_rows}
use Rattle.idp_rows.specs.Finding.{session_found, last_peer, has_issued, ending, is_partial, parts_of, round_found}
use Rattle.idp_rows.specs.Record.{is_free}

-- a login of this ID that the service provider `sp` asked for, until moment 600000
pending_login : IdpRecord
pending_login = kinds.Pending (record {
  first = 1;
  moment = 0;
  until = 600000;
  pending = codes "_p";
  request = codes "_q";
  peer = codes "sp";
  consumer = codes "acs";
  relay = None;
})

-- an assertion for a login or in a session, to this peer; the session of the cookie `_c` lives until moment 28800000
issued_to : Option (List ℕ) → List ℕ → IdpRecord
issued_to pending peer = kinds.Issued (record {
  first = 2;
  moment = 0;
  pending = pending;
  cookie = codes "_c";
  index = codes "_i";
  session_end = 28800000;
  assertion = codes "_a";
  message = codes "_m";
  user = codes "alice";
  peer = peer;
  consumer = codes "acs";
  request = codes "_q";
  relay = None;
  until = 300000;
  attributes = [];
})

-- a logout of that session
left_session : IdpRecord
left_session = kinds.Left (record { first = 6; moment = 0; until = 600000; cookie = codes "_c"; request = codes "_r"; peer = codes "sp" })

-- a login that is pending, then the assertion for it, then one in its session to another peer
one_login : List IdpRecord
one_login = pending_login ∷ issued_to (Some (codes "_p")) (codes "sp") ∷ issued_to None (codes "other") ∷ []

-- it is used once
used_once : (is_free (rows_of (pending_login ∷ [])) (issued_to (Some (codes "_p")) (codes "sp")) ≡ true)
    × (is_free (rows_of one_login) (issued_to (Some (codes "_p")) (codes "sp")) ≡ false)
unfolding pending_login issued_to one_login
used_once = (refl, refl)

-- one session was begun, in which two assertions were issued, the last one to the other peer
one_session : (map (λ (row : SessionRow). row.cookie) (session_rows one_login) ≡ codes "_c" ∷ [])
    × (last_peer (issued_rows one_login) (codes "_c") ≡ codes "other")
    × (has_issued false (issued_rows one_login) (codes "_c") (codes "sp") ≡ true)
    × (has_issued false (issued_rows one_login) (codes "_c") (codes "third") ≡ false)
unfolding pending_login issued_to one_login
one_session = (refl, refl, refl, refl)

-- the session lives until its end, and not after it was left
lives : (map (λ (row : SessionRow). row.ended) (session_rows one_login) ≡ false ∷ [])
    × (session_found (session_rows one_login) (codes "_c") 28800000 0 ≡ None)
    × (session_found (session_rows (pending_login ∷ issued_to (Some (codes "_p")) (codes "sp") ∷ left_session ∷ [])) (codes "_c") 0 0 ≡ None)
unfolding pending_login issued_to one_login left_session
lives = (refl, refl, refl)

-- a logout of the first peer ends it and is partial; no session has the index `_j`
ends_it : (ending 1000 0 (codes "sp") (codes "alice") [] (rows_of one_login) ≡ codes "_c" ∷ [])
    × (is_partial 1000 0 (codes "sp") (codes "alice") [] (rows_of one_login) ≡ true)
    × (ending 1000 0 (codes "sp") (codes "alice") (codes "_j" ∷ []) (rows_of one_login) ≡ [])
    × (ending 1000 0 (codes "third") (codes "alice") [] (rows_of one_login) ≡ [])
unfolding pending_login issued_to one_login
ends_it = (refl, refl, refl, refl)

-- a round that ends that session and asks two providers, and an answer to a request
turn_to : List ℕ → Turn
turn_to peer = record { peer = peer; name = codes "alice"; indexes = codes "_i" ∷ [] }

begun_round : Round
begun_round = record {
  first = 6;
  moment = 0;
  until = 600000;
  message = codes "_m2";
  request = codes "_r1";
  cookies = codes "_c" ∷ [];
  asker = None;
  turns = turn_to (codes "other") ∷ turn_to (codes "third") ∷ [];
  skipped = false;
}

answer_to : List ℕ → Option (List ℕ) → IdpRecord
answer_to request next = kinds.Told (record { first = 8; moment = 0; request = request; confirmed = true; next = next })

-- the providers to which assertions were issued in the session, and a round that ends it
parts_and_end : (map (λ p. p.peer) (parts_of (codes "_c" ∷ []) (issued_rows one_login)) ≡ codes "sp" ∷ codes "other" ∷ [])
    × (session_found (session_rows (pending_login ∷ issued_to (Some (codes "_p")) (codes "sp") ∷ kinds.Round begun_round ∷ [])) (codes "_c") 0 0 ≡ None)
unfolding pending_login issued_to one_login begun_round
parts_and_end = (refl, refl)

-- the first answer has a next request, and the second, behind which no turn is left, has none
two_answers : (is_free (rows_of (kinds.Round begun_round ∷ [])) (answer_to (codes "_r1") (Some (codes "_r2"))) ≡ true)
    × (is_free (rows_of (kinds.Round begun_round ∷ [])) (answer_to (codes "_r2") (Some (codes "_r3"))) ≡ false)
    × (is_free (rows_of (kinds.Round begun_round ∷ answer_to (codes "_r1") (Some (codes "_r2")) ∷ [])) (answer_to (codes "_r2") (Some (codes "_r3"))) ≡ false)
    × (map (λ (row : RoundRow). row.told) (round_rows (kinds.Round begun_round ∷ answer_to (codes "_r1") (Some (codes "_r2")) ∷ answer_to (codes "_r2") None ∷ [])) ≡ 2 ∷ [])
    × (confirmed_all begun_round (answer_to (codes "_r1") (Some (codes "_r2")) ∷ []) ≡ false)
    × (confirmed_all begun_round (answer_to (codes "_r1") (Some (codes "_r2")) ∷ answer_to (codes "_r2") None ∷ []) ≡ true)
unfolding begun_round answer_to turn_to
two_answers = (refl, refl, refl, refl, refl, refl)

-- behind the last answer no request is waited for
done_round : round_found (round_rows (kinds.Round begun_round ∷ answer_to (codes "_r1") (Some (codes "_r2")) ∷ answer_to (codes "_r2") None ∷ [])) (codes "_r2") 0 0 ≡ None
unfolding begun_round answer_to turn_to
done_round = refl

-- The definitions at worked examples. The present is 1704067200000 milliseconds, 2024-01-01T00:00:00Z, if nothing else is
-- said, and no row was dropped yet.
use Rattle.std.specs.Prelude.{◌≡◌, ℕ, ◌+◌, true, false, List, [], ◌∷◌, codes, slice_index, Some, None, refl}
use Rattle.std.proofs.Common.{subst, lit<, arith}
use Rattle.std.specs.declared.cmp.Ordering.TheVariants.{Less}
use Rattle.request_rows.specs.declared.row.AskedRow.{AskedRow}
use Rattle.request_rows.specs.declared.row.OpenedRow.{OpenedRow}
use Rattle.request_rows.specs.declared.key.RowKey.TheVariants.{OpenedRequest}
use Rattle.request_rows.specs.Rows.{visible, asked_row, is_spent, is_seen, session_row, closed_at}
use Rattle.ledger_rules.specs.Order.{KeyTexts, place_order, IsOrder}
use Rattle.request_rows.specs.Order.{keys_of}

-- a request with this relay state, asked until this moment
asked_until : List ℕ → ℕ → AskedRow
asked_until relay until = record { request = codes "_r1"; relay = relay; target = codes "/app"; until = until }

-- a session for this request by the assertion `_a1`, which may not come again until this moment; the session lives as long
opened_until : List ℕ → ℕ → OpenedRow
opened_until request until = record {
  request = request;
  issuer = codes "urn:example:idp";
  assertion = codes "_a1";
  assertion_until = until;
  token = codes "_t1";
  name = codes "alice";
  index = None;
  attributes = [];
  until = until;
  closed = false;
  key = 0;
}

-- nothing is visible at its end, nor where the horizon lies behind it
before_its_end : visible 1704067200001 1704067200000 0 ≡ true
before_its_end = refl

at_its_end : visible 1704067200000 1704067200000 0 ≡ false
at_its_end = refl

behind_the_horizon : visible 1704067200001 1704067200000 1704067200001 ≡ false
behind_the_horizon = refl

-- of three rows of one request the first is past: the second is the asked row
first_visible : asked_row (asked_until (codes "rel1") 1704067200000 ∷ asked_until (codes "rel2") 1704067200001 ∷ asked_until (codes "rel3") 1704067200001 ∷ [])
    (codes "_r1") 1704067200000 0 ≡ Some (asked_until (codes "rel2") 1704067200001)
unfolding asked_until
first_visible = refl

-- a session that is closed and past has spent its request
closed_and_past : is_spent (closed_at (opened_until (codes "_r1") 5 ∷ []) 0) (codes "_r1") ≡ true
unfolding opened_until
closed_and_past = refl

-- an assertion was seen until the moment of its row, by its issuer alone
seen_before_its_end : is_seen (opened_until (codes "_r9") 1704068000000 ∷ []) (codes "urn:example:idp") (codes "_a1") 1704067200000 0 ≡ true
unfolding opened_until
seen_before_its_end = refl

seen_no_more : is_seen (opened_until (codes "_r9") 1704067200000 ∷ []) (codes "urn:example:idp") (codes "_a1") 1704067200000 0 ≡ false
unfolding opened_until
seen_no_more = refl

other_issuer : is_seen (opened_until (codes "_r9") 1704068000000 ∷ []) (codes "urn:x") (codes "_a1") 1704067200000 0 ≡ false
unfolding opened_until
other_issuer = refl

-- a closed session does not live
closed_session : session_row (closed_at (opened_until (codes "_r1") 1704068000000 ∷ []) 0) (codes "_t1") 1704067200000 0 ≡ None
unfolding opened_until
closed_session = refl

-- after the requests `_r9` and `_r1` the order by request is 1, 0
two_requests : List KeyTexts
two_requests = keys_of OpenedRequest [] (opened_until (codes "_r9") 5 ∷ opened_until (codes "_r1") 5 ∷ [])

lesser_first : IsOrder two_requests (1 ∷ 0 ∷ [])
unfolding opened_until two_requests
lesser_first = record {
  each_once = record { moves = (0, 1) ∷ []; below = (lit< tt, lit< tt, tt); is = refl };
  ascends = λ k below.
      let only : 0 ≡ k = omega arith in
      subst (λ m. place_order two_requests (slice_index (1 ∷ 0 ∷ []) m) (slice_index (1 ∷ 0 ∷ []) (m + 1)) ≡ Less) only refl;
}

-- Rounds of logouts, and what is looked up in them. A moment is the milliseconds since 1970-01-01T00:00:00Z.
-- SAML Profiles, 4.4.3.3: an identity provider has to send a LogoutRequest "to each session participant for which it issued
-- assertions in the current session". In a round it sends them one after the other, each behind the answer to the one before.
use Rattle.std.specs.Prelude.{ℕ, ◌+◌, Bool, false, ◌&&◌, not, nat_lt, nat_le, max, List, map, length, slice_get, Option, if◌then◌else◌}
use Rattle.std.specs.List.{find}
use Rattle.std.specs.Option.{option_map, unwrap_or, option_map_or}
use Rattle.std.specs.Str.{bytes_eq}
use Rattle.logout_turns.specs.declared.turns.Turn.{Turn}
use Rattle.round_rows.specs.declared.row.RoundRow.{RoundRow}
use Rattle.round_rows.specs.declared.row.NextRequest.{NextRequest}

-- whether a round is done: an answer came, and no turn is left
abbrev pub is_done : RoundRow → Bool
is_done row = nat_lt 0 row.told && nat_le (length row.turns) row.told

-- whether a round waits for the answer to a request
abbrev pub waits_for : (request : List ℕ) → RoundRow → Bool
waits_for request row = bytes_eq row.request request && not (is_done row)

-- whether a turn is left behind the next answer
abbrev pub is_turn_left : RoundRow → Bool
is_turn_left row = nat_lt (row.told + 1) (length row.turns)

-- whether the turn of this provider has come
abbrev pub is_turn_of : (peer : List ℕ) → RoundRow → Bool
is_turn_of peer row = option_map_or (λ (turn : Turn). bytes_eq turn.peer peer) (slice_get row.turns row.told) false

-- the ID of the request that follows, where one does
abbrev pub id_of : Option NextRequest → Option (List ℕ)
id_of next = option_map (λ n. n.id) next

-- A round behind one answer more: it is counted, and where a request follows the round waits for that one.
abbrev pub after_answer : (confirmed : Bool) → (next : Option (List ℕ)) → RoundRow → RoundRow
after_answer confirmed next row = record row {
  request = unwrap_or next row.request;
  told = row.told + 1;
  confirmed = if confirmed then row.confirmed + 1 else row.confirmed;
}

-- The rows behind an answer to a request: the round that waits for it takes it, and the others stay.
abbrev pub answered_if : Bool → (confirmed : Bool) → (next : Option (List ℕ)) → RoundRow → RoundRow
answered_if now confirmed next row = if now then after_answer confirmed next row else row

abbrev pub answered : (request : List ℕ) → (confirmed : Bool) → (next : Option (List ℕ)) → List RoundRow → List RoundRow
answered request confirmed next rows = map (λ row. answered_if (waits_for request row) confirmed next row) rows

-- Something is visible where the moment until which it holds is greater than the larger of the present and the horizon, which
-- is the latest moment at which rows were dropped.
abbrev pub visible : (until now horizon : ℕ) → Bool
visible until now horizon = nat_lt (max now horizon) until

-- the visible round that waits for the answer to a request
abbrev pub round_found : List RoundRow → (request : List ℕ) (now horizon : ℕ) → Option RoundRow
round_found rounds request now horizon = find (λ row. waits_for request row && visible row.until now horizon) rounds

-- the same, where the turn of this provider has come
abbrev pub turn_found : List RoundRow → (request peer : List ℕ) (now horizon : ℕ) → Option RoundRow
turn_found rounds request peer now horizon =
    find (λ row. waits_for request row && (visible row.until now horizon && is_turn_of peer row)) rounds

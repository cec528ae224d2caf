-- A round that waits for the answer of a provider in its turn.
use Rattle.std.specs.Prelude.{slice_get}
use Rattle.std.specs.Option.{option_map_or}
use Rattle.std.proofs.Common.{◌≡◌, ℕ, ◌<◌, true, false, ◌&&◌, not, List, length, Option, None, Some, bytes_eq, refl}
use Rattle.std.proofs.lemmas.Bool.{and_parts}
use Rattle.logout_turns.specs.declared.turns.Turn.{Turn}
use Rattle.round_rows.specs.declared.row.RoundRow.{RoundRow}
use Rattle.round_rows.specs.Rounds.{is_done, is_turn_of, turn_found, visible, waits_for}
use Rattle.record_ledger.proofs.Words.{same_text}
use Rattle.idp_ledger.specs.Ledger.{Held}
use Rattle.idp_ledger.specs.Record.{AreRecords}
use Rattle.idp_rows.specs.RowsOf.{rows_of}
use Rattle.idp_ledger.specs.Turns.{AreRoundTexts}
use Rattle.idp_ledger.proofs.RoundTexts.{round_texts}
use Rattle.provider_node.proofs.Sessions.{found_at}
use Rattle.idp_server.proofs.Peers.{there_inside}

-- it is one of the rounds, waits for this request, and its turn has come
pub record IsTurnFound (rounds : List RoundRow) (request peer : List ℕ) (row : RoundRow) : Type 0 where
  pub place : ℕ
  pub there : slice_get rounds place ≡ Some row
  pub waits : waits_for request row ≡ true
  pub request_is : row.request ≡ request
  pub turn : Turn
  pub at : slice_get row.turns row.told ≡ Some turn
  pub within : row.told < length row.turns

turn_at : (peer : List ℕ) (o : Option Turn) → option_map_or (λ (turn : Turn). bytes_eq turn.peer peer) o false ≡ true
    → (turn : Turn) × (o ≡ Some turn)
turn_at peer None is = absurd (cc)
turn_at peer (Some turn) is = (turn, refl)

pub turn_is : (rounds : List RoundRow) (request peer : List ℕ) (now horizon : ℕ) (row : RoundRow)
    → turn_found rounds request peer now horizon ≡ Some row
    → IsTurnFound rounds request peer row
turn_is rounds request peer now horizon row found =
    let is = found_at (λ (r : RoundRow). waits_for request r && (visible r.until now horizon && is_turn_of peer r))
    rounds row found in
    let one = and_parts (waits_for request row) (visible row.until now horizon && is_turn_of peer row) is.2 in
    let two = and_parts (visible row.until now horizon) (is_turn_of peer row) one.1 in
    let turn = turn_at peer (slice_get row.turns row.told) two.1 in
    record {
      place = is.0;
      there = is.1;
      waits = one.0;
      request_is = same_text row.request request (and_parts (bytes_eq row.request request) (not (is_done row)) one.0).0;
      turn = turn.0;
      at = turn.1;
      within = there_inside row.turns row.told turn.0 turn.1;
    }

pub found_texts : (held : Held) (request peer : List ℕ) (now : ℕ) (row : RoundRow) → AreRecords held.records
    → turn_found (rows_of held.records).rounds request peer now held.header.horizon ≡ Some row → AreRoundTexts row
found_texts held request peer now row are found =
    let is = turn_is (rows_of held.records).rounds request peer now held.header.horizon row found in
    round_texts held.records are is.place row is.there

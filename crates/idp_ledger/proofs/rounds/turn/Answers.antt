use Rattle.std.proofs.Common.{◌≡◌, ◌∙◌, ◌<◌, ◌≤◌, Bool, true, false, cond, ◌&&◌, max, nat_lt, Option, None, Some, sym, ap, subst}
use Rattle.std.proofs.lemmas.Bool.{lt-ltb, le-ltb}
use Rattle.gate_journal.specs.declared.header.Header.{Header}
use Rattle.record_ledger.proofs.Draftable.{both}
use Rattle.round_rows.specs.declared.row.RoundRow.{RoundRow}
use Rattle.round_rows.specs.Rounds.{is_turn_of, visible}
use Rattle.round_rows.specs.Kept.{IsRoundOf}
use Rattle.idp_rows.specs.RoundsOf.{round_rows}
use Rattle.idp_rows.specs.RowsOf.{IdpRows}
use Rattle.idp_ledger.proofs.rounds.turn.Goals as goal
use Rattle.idp_ledger.proofs.rounds.turn.Goals.{After-waiting_round, else-max-row-via-then-max-row+else-is_turn_of, else-max-row-via-else-max-row}

-- what is looked for beside the request
test_of : (c : After-waiting_round) → RoundRow → Bool
test_of c row = visible row.until c.args.now c.args.ledger.now.held.header.horizon && is_turn_of c.args.peer.now row

-- what is found among the rows is found among those of the records
its_round : (c : After-waiting_round) (found : Option RoundRow) → IsRoundOf c.rows.result.now.rows.rounds c.args.request.now found
    → IsRoundOf (round_rows c.args.ledger.now.held.records) c.args.request.now found
its_round c found is = subst (λ (rows : IdpRows). IsRoundOf rows.rounds c.args.request.now found) c.rows.ensures is

no : (b : Bool) → (b && false) ≡ false
no true = Rattle.std.proofs.Common.refl
no false = Rattle.std.proofs.Common.refl

pub returns-in_err-row-clause-found : goal.returns-in_err-row-clause-found
unfolding test_of
returns-in_err-row-clause-found c =
    let at = (goal.at.returns-in_err-row-clause-found c).After-waiting_round in
    rw c.from_residual.ensures (sym (its_round at None c.in_err-row.ensures (test_of at)))

pub returns-then-is_turn_of-clause-found : goal.returns-then-is_turn_of-clause-found
unfolding test_of
returns-then-is_turn_of-clause-found c =
    let at = (goal.at.returns-then-is_turn_of-clause-found c).After-waiting_round in
    let row = c.in_ok-row.row.now in
    let latest : c.max.result ≡ max c.args.now c.args.ledger.now.held.header.horizon = c.max.ensures ∙ ap (λ (h : Header). max c.args.now h.horizon) c.header-horizon.ensures in
    let seen = lt-ltb (max c.args.now c.args.ledger.now.held.header.horizon) row.until (subst (λ n. n < row.until) latest c.if-max-row.true) in
    let passes = both (visible row.until c.args.now c.args.ledger.now.held.header.horizon) (is_turn_of c.args.peer.now row) seen (sym c.if-is_turn_of.ensures) in
    sym (its_round at (Some row) c.in_ok-row.ensures (test_of at) ∙ ap (λ b. cond b (Some row) None) passes)

pub returns-else-max-row-clause-found : goal.returns-else-max-row-clause-found
unfolding test_of
returns-else-max-row-clause-found c =
    let at = (goal.at.returns-else-max-row-clause-found c).After-waiting_round in
    let row = c.in_ok-row.row.now in
    let horizon = c.args.ledger.now.held.header.horizon in
    let latest : c.max.result ≡ max c.args.now horizon = c.max.ensures ∙ ap (λ (h : Header). max c.args.now h.horizon) c.header-horizon.ensures in
    let found = its_round at (Some row) c.in_ok-row.ensures (test_of at) in
    elim c.else-max-row.branch [
      | else-max-row-via-then-max-row+else-is_turn_of w ↦
          sym (found ∙ ap (λ b. cond (visible row.until c.args.now horizon && b) (Some row) None) (sym w.if-is_turn_of.ensures)
          ∙ ap (λ b. cond b (Some row) None) (no (visible row.until c.args.now horizon)))
      | else-max-row-via-else-max-row w ↦
          let past : nat_lt (max c.args.now horizon) row.until ≡ false = le-ltb (max c.args.now horizon) row.until (subst (λ n. row.until ≤ n) latest w.if-max-row.false) in
          sym (found ∙ ap (λ b. cond (b && is_turn_of c.args.peer.now row) (Some row) None) past)
    ]

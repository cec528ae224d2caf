-- Each provider of a round is asked in its turn, and once.
use Rattle.std.specs.Prelude.{slice_get, ◌==◌}
use Rattle.std.proofs.Common.{◌≡◌, ℕ, zero, suc, ◌+◌, nat_lt, Bool, true, false, not, ◌||◌, if◌then◌else◌, List, [], ◌∷◌, ◌++◌, length, Option, None, Some, is_some, refl, sym, ap, ◌∙◌, subst, arith, append-nil, append_assoc}
use Rattle.std.specs.List.{flat_map}
use Rattle.std.proofs.lemmas.Bool.{and_parts, not-true}
use Rattle.ledger_records.specs.declared.idp_round.Told.{Told}
use Rattle.ledger_records.specs.declared.idp_record.IdpRecord.{IdpRecord}
use Rattle.ledger_records.specs.declared.idp_record.IdpRecord.TheVariants as kinds
use Rattle.round_rows.specs.declared.row.RoundRow.{RoundRow}
use Rattle.round_rows.specs.Rounds.{after_answer, answered_if, is_done, is_turn_left, waits_for}
use Rattle.std.specs.Str.{bytes_eq}
use Rattle.record_ledger.proofs.Words.{same_text}
use Rattle.idp_rows.specs.RoundsOf.{answers_after, round_row, round_rows}
use Rattle.idp_ledger.specs.Record.{AreRecordsAfter}
use Rattle.idp_rows.specs.Record.{fits_where_waiting, has_its_next}
use Rattle.idp_ledger.specs.Turns.{RoundsAskInTurn}
use Rattle.idp_ledger.proofs.RoundChains.{FitsAll, FitsOne, done_waits, fits_all, last_answer, new_round}
use Rattle.std.specs.Option.{unwrap_or, option_to_list}

-- a round that is done has no answers more
done_none : (row : RoundRow) (later : List IdpRecord) → is_done row ≡ true → answers_after row later ≡ []
done_none row [] done = refl
done_none row (kinds.Told t ∷ later) done =
    ap (λ (b : Bool). (if b then t ∷ [] else []) ++ answers_after (answered_if b t.confirmed t.next row) later) (done_waits t.request row done)
    ∙ done_none row later done
done_none row (other ∷ later) done = done_none row later done

-- ---- the answers from a row on

abbrev nexts : List Told → List (List ℕ)
nexts ts = flat_map (λ (t : Told). option_to_list t.next) ts

record InTurn (row : RoundRow) (ts : List Told) : Type 0 where
  answers_it : (k : ℕ) (t : Told) → slice_get ts k ≡ Some t → slice_get (row.request ∷ nexts ts) k ≡ Some t.request
  goes_on : (k : ℕ) (t : Told) → slice_get ts k ≡ Some t → is_some t.next ≡ nat_lt (row.told + (k + 1)) (length row.turns)

-- an answer has a next request exactly where a turn is left
next_where_left : (left : Bool) (first : ℕ) (next : Option (List ℕ)) → has_its_next left first next ≡ true → is_some next ≡ left
next_where_left left first None fits = sym (not-true left (and_parts (not left) (first == 0) fits).0)
next_where_left left first (Some id) fits = sym fits

fits_here : (t : Told) (row : RoundRow) → waits_for t.request row ≡ true → fits_where_waiting t row ≡ true → has_its_next (is_turn_left row) t.first t.next ≡ true
fits_here t row waits fits = sym (ap (λ (b : Bool). not b || has_its_next (is_turn_left row) t.first t.next) waits) ∙ fits

module _ (row : RoundRow) (t : Told) (later : List IdpRecord) (waits : waits_for t.request row ≡ true) (fits : fits_where_waiting t row ≡ true) where
  abbrev next_row : RoundRow
  next_row = after_answer t.confirmed t.next row

  taken_one : InTurn next_row (answers_after next_row later) → InTurn row (t ∷ answers_after next_row later)
  taken_one rest = record { answers_it = it; goes_on = on }
    where
      behind : (next : Option (List ℕ)) → t.next ≡ next → (k : ℕ) (x : Told) → slice_get (answers_after next_row later) k ≡ Some x
          → slice_get (option_to_list next ++ nexts (answers_after next_row later)) k ≡ Some x.request
      behind None none k x there =
          let empty = done_none next_row later (last_answer t row waits none fits) in
          absurd (let clash = sym (ap (λ (ts : List Told). slice_get ts k) empty) ∙ there in cc)
      behind (Some id) some k x there =
          ap (λ (n : Option (List ℕ)). slice_get (unwrap_or n row.request ∷ nexts (answers_after next_row later)) k) (sym some) ∙ rest.answers_it k x there

      it : (k : ℕ) (x : Told) → slice_get (t ∷ answers_after next_row later) k ≡ Some x
          → slice_get (row.request ∷ nexts (t ∷ answers_after next_row later)) k ≡ Some x.request
      it zero x there =
          let same : t ≡ x = cc in
          ap Some (same_text row.request t.request (and_parts (bytes_eq row.request t.request) (not (is_done row)) waits).0) ∙ ap (λ (y : Told). Some y.request) same
      it (suc k) x there = behind t.next refl k x there

      on : (k : ℕ) (x : Told) → slice_get (t ∷ answers_after next_row later) k ≡ Some x → is_some x.next ≡ nat_lt (row.told + (k + 1)) (length row.turns)
      on zero x there =
          let same : t ≡ x = cc in
          ap (λ (y : Told). is_some y.next) (sym same) ∙ next_where_left (is_turn_left row) t.first t.next (fits_here t row waits fits)
      on (suc k) x there =
          let one : row.told + 1 + (k + 1) ≡ row.told + (suc k + 1) = omega arith in
          rest.goes_on k x there ∙ ap (λ (n : ℕ). nat_lt n (length row.turns)) one

taken : (row : RoundRow) (t : Told) (later : List IdpRecord) (b : Bool) → waits_for t.request row ≡ b → fits_where_waiting t row ≡ true
    → InTurn (answered_if b t.confirmed t.next row) (answers_after (answered_if b t.confirmed t.next row) later)
    → InTurn row ((if b then t ∷ [] else []) ++ answers_after (answered_if b t.confirmed t.next row) later)
taken row t later true waits fits rest = taken_one row t later waits fits rest
taken row t later false waits fits rest = rest

in_turn : (row : RoundRow) (later : List IdpRecord) → FitsAll row later → InTurn row (answers_after row later)
unfolding FitsAll FitsOne
in_turn row [] fits = record { answers_it = λ k t there. absurd (cc); goes_on = λ k t there. absurd (cc) }
in_turn row (kinds.Pending r ∷ later) fits = in_turn row later fits.1
in_turn row (kinds.Issued r ∷ later) fits = in_turn row later fits.1
in_turn row (kinds.Ended r ∷ later) fits = in_turn row later fits.1
in_turn row (kinds.Left r ∷ later) fits = in_turn row later fits.1
in_turn row (kinds.Confirmed r ∷ later) fits = in_turn row later fits.1
in_turn row (kinds.Spoke r ∷ later) fits = in_turn row later fits.1
in_turn row (kinds.Round r ∷ later) fits = in_turn row later fits.1
in_turn row (kinds.Told t ∷ later) fits =
    taken row t later (waits_for t.request row) refl fits.0 (in_turn (answered_if (waits_for t.request row) t.confirmed t.next row) later fits.1)

-- ---- the law

split : (front before later : List IdpRecord) → AreRecordsAfter front (before ++ later) → AreRecordsAfter (front ++ before) later
split front [] later are = subst (λ (rs : List IdpRecord). AreRecordsAfter rs later) (sym (append-nil front)) are
split front (x ∷ before) later are =
    subst (λ (rs : List IdpRecord). AreRecordsAfter rs later) (append_assoc front (x ∷ []) before) (split (front ++ x ∷ []) before later are.1)

pub rounds_ask_in_turn : RoundsAskInTurn
rounds_ask_in_turn before later r are =
    let here = split [] before (kinds.Round r ∷ later) are in
    let all = in_turn (round_row r) later (fits_all (before ++ kinds.Round r ∷ []) later here.1 (length (round_rows before)) (round_row r) (new_round before r)) in
    record {
      answers_it = all.answers_it;
      goes_on = λ k t there.
          let same : 0 + (k + 1) ≡ k + 1 = omega arith in
          all.goes_on k t there ∙ ap (λ (n : ℕ). nat_lt n (length r.turns)) same;
    }

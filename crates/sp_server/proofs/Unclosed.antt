-- What closes no session: whatever is added without closing it, and a compaction.
use Rattle.std.specs.Prelude.{None, Some}
use Rattle.std.proofs.Common.{◌≡◌, ◌⊎◌, inl, inr, ℕ, true, false, List, [], ◌∷◌, sym, subst, refl, ap, ◌∙◌}
use Rattle.std.specs.Str.{bytes_eq}
use Rattle.std.proofs.lemmas.Bool.{cases_Bool}
use Rattle.crash_disk.specs.Counts.{Rose}
use Rattle.http_wire.specs.declared.answer.Answer.{Answer}
use Rattle.http_wire.specs.Requests.{Request}
use Rattle.ledger_records.specs.declared.sp_record.SpRecord.{SpRecord}
use Rattle.ledger_records.specs.declared.sp_record.SpRecord.TheVariants as kinds
use Rattle.request_rows.specs.declared.row.OpenedRow.{OpenedRow}
use Rattle.request_rows.specs.Rows.{session_row}
use Rattle.request_ledger.specs.Compacting.{Compacts}
use Rattle.request_ledger.specs.Laws.{CompactionsChangeNoAnswer}
use Rattle.request_ledger.specs.Ledger.{Held}
use Rattle.record_ledger.specs.Ledger.{held_with}
use Rattle.request_ledger.specs.Record.{AreRecords, request_rules}
use Rattle.request_ledger.specs.RowsOf.{SpRows, closes, is_among, opened_row, rows_of, rows_after}
use Rattle.record_ledger.proofs.Words.{same_text}
use Rattle.request_ledger.proofs.RowLaws.{rows_of-push}
use Rattle.provider_node.specs.Changes.{Anew, Changes, More, Nothing}
use Rattle.provider_node.proofs.Changes.{changes}
use Rattle.provider_node.proofs.Sessions.{none_before, none_in_front}
use Rattle.sp_server.specs.Step.{Provider, Answers}
use Rattle.sp_server.specs.Logouts.{IsClosedWith, NothingElseCloses}
use Rattle.sp_server.proofs.Alike.{alike}
use Rattle.sp_server.proofs.StayingClosed.{opened_sessions}

-- ---- a record

not_this : (one token other : List ℕ) → bytes_eq one token ≡ false → bytes_eq other token ≡ true
    → bytes_eq one other ≡ false
not_this one token other differs is =
    subst (λ (t : List ℕ). bytes_eq one t ≡ false) (sym (same_text other token is)) differs

not_among : (tokens : List (List ℕ)) (token other : List ℕ) → is_among token tokens ≡ false
    → bytes_eq other token ≡ true → is_among other tokens ≡ false
not_among tokens token other none is =
    subst (λ (t : List ℕ). is_among t tokens ≡ false) (sym (same_text other token is)) none

row_stays : (rows : SpRows) (r : SpRecord) (token : List ℕ) (t h : ℕ) → closes token r ≡ false
    → session_row (rows_after rows r).opened token t h ≡ None → session_row rows.opened token t h ≡ None
row_stays rows (kinds.Asked r) token t h closing none = none
row_stays rows (kinds.Opened r) token t h closing none =
    none_in_front opened_sessions rows.opened token t h (opened_row false r ∷ []) none
row_stays rows (kinds.Left r) token t h closing none =
    none_before opened_sessions rows.opened token t h (λ row. bytes_eq r.token row.token)
    (λ row is. not_this r.token token row.token closing is) none
row_stays rows (kinds.Ended r) token t h closing none =
    none_before opened_sessions rows.opened token t h (λ row. is_among row.token r.tokens)
    (λ row is. not_among r.tokens token row.token closing is) none
row_stays rows (kinds.Confirmed r) token t h closing none = none

-- a session that lives over a ledger, and not over it with a record, is closed by that
closed_by : (held : Held) (r : SpRecord) (token : List ℕ) (now : ℕ) (row : OpenedRow)
    → session_row (rows_of held.records).opened token now held.header.horizon ≡ Some row
    → session_row (rows_of (held_with r held).records).opened token now held.header.horizon ≡ None
    → closes token r ≡ true
closed_by held r token now row live none = elim (cases_Bool (closes token r)) [
  | inl closing ↦ closing
  | inr other ↦
      let after : session_row (rows_after (rows_of held.records) r).opened token now held.header.horizon ≡ None =
      sym (ap (λ (rows : SpRows). session_row rows.opened token now held.header.horizon) (rows_of-push held.records r))
      ∙ none in
      absurd (let clash : Some row ≡ None = sym live ∙ row_stays (rows_of held.records) r token now held.header.horizon
      other after in cc)
]

-- ---- a step

module _ (law : CompactionsChangeNoAnswer) where
  -- the session lives over a ledger that was made anew, too
  lives_on : (now : ℕ) (found held : Held) (token : List ℕ) (row : OpenedRow) → AreRecords found.records
      → (held ≡ found) ⊎ Compacts now found held
      → session_row (rows_of found.records).opened token now found.header.horizon ≡ Some row
      → session_row (rows_of held.records).opened token now held.header.horizon ≡ Some row
  lives_on now found held token row are (inl same) live =
      subst (λ (h : Held). session_row (rows_of h.records).opened token now h.header.horizon ≡ Some row) (sym same) live
  lives_on now found held token row are (inr made) live = (alike now found held law are made).session token ∙ live

  module _ (found : Held) (request : Request) (now : ℕ) (answer : Answer) (old new : Provider) (token : List ℕ)
      (row : OpenedRow) (are : AreRecords found.records)
      (live : session_row (rows_of found.records).opened token now found.header.horizon ≡ Some row)
      (none : session_row (rows_of new.ledger.held.records).opened token now new.ledger.held.header.horizon ≡ None)
    where
      still : (held : Held) → (held ≡ found) ⊎ Compacts now found held → new.ledger.held ≡ held → ⊥
      still held which is =
          let here =
          subst (λ (h : Held). session_row (rows_of h.records).opened token now h.header.horizon ≡ None) is none in
          let clash : Some row ≡ None = sym (lives_on now found held token row are which live) ∙ here in
          cc

      recorded : (held : Held) (r : SpRecord) → (held ≡ found) ⊎ Compacts now found held
          → Answers old.setup held request now answer (Some r) → new.ledger.held ≡ held_with r held
          → IsClosedWith old.setup found request now answer token
      recorded held r which answers is = record {
        held = held;
        from = which;
        r = r;
        answers = answers;
        closing =
            closed_by held r token now row (lives_on now found held token row are which live)
            (subst (λ (h : Held). session_row (rows_of h.records).opened token now h.header.horizon ≡ None) is none);
      }

      of_case : Changes request_rules (λ held r. Answers old.setup held request now answer (Some r)) now found
          new.ledger.held
          → IsClosedWith old.setup found request now answer token
      of_case (Nothing same) = absurd (still found (inl refl) same)
      of_case (Anew made) = absurd (still new.ledger.held (inr made) refl)
      of_case (More held r which is answers) = recorded held r which answers is

  pub nothing_else : NothingElseCloses
  nothing_else found request now faults later answer old new token row are serves unbroken live none =
      of_case found request now answer old new token row are live none
      (changes request_rules Answers found request now (Rose faults later) answer old new _ (λ held r answers. answers)
      unbroken serves)

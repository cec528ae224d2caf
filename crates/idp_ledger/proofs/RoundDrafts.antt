-- Rounds and answers that may be drafted.
use Rattle.std.proofs.Common.{◌≡◌, ℕ, suc, ◌+◌, ◌≤◌, Bool, true, false, not, ◌&&◌, List, [], ◌∷◌, ◌++◌, length, Option, None, Some, Result, Ok, Err, inl, inr, refl, sym, ap, ◌∙◌, subst, arith}
use Rattle.std.specs.List.{list_all, flat_map, All}
use Rattle.std.specs.Option.{is_some, option_to_list}
use Rattle.std.proofs.lemmas.Bool.{and_parts, cases_lt}
use Rattle.std.proofs.lemmas.List.Folds.{list_all-append}
use Rattle.std.proofs.lemmas.List.Elements.{All-nil, All-cons, All-head, All-tail}
use Rattle.logout_turns.specs.declared.part.Asker.{Asker}
use Rattle.logout_turns.specs.declared.turns.Turn.{Turn}
use Rattle.saml_ids.specs.IdText.{id_text}
use Rattle.saml_ids.specs.declared.Kind.TheVariants.{Request, Message}
use Rattle.ledger_records.specs.declared.idp_round.Round.{Round}
use Rattle.ledger_records.specs.declared.idp_round.Told.{Told}
use Rattle.ledger_records.specs.declared.idp_record.IdpRecord.{IdpRecord}
use Rattle.ledger_records.specs.declared.idp_record.IdpRecord.TheVariants as kinds
use Rattle.ledger_records.specs.IdpRecord.{idp_bytes, round as round_fields}
use Rattle.ledger_records.specs.Writing.{capped}
use Rattle.ledger_rules.specs.Numbers.{Drawn, NUMBER_END, has_number, is_xml_text}
use Rattle.ledger_rules.specs.declared.fault.DraftFault.{DraftFault}
use Rattle.ledger_rules.specs.declared.fault.DraftFault.TheVariants.{LedgerFull, JournalFull, NoMemory}
use Rattle.round_rows.specs.declared.row.RoundRow.{RoundRow}
use Rattle.round_rows.specs.Rounds.{is_turn_left, is_turn_of, waits_for, answered_if, turn_found}
use Rattle.round_rows.specs.Kept.{IsRoundOf}
use Rattle.idp_rows.specs.declared.row.SessionRow.{SessionRow}
use Rattle.idp_ledger.specs.declared.ids.RoundIds.{RoundIds}
use Rattle.idp_rows.specs.RoundsOf.{round_row, round_behind, round_rows}
use Rattle.idp_rows.specs.RowsOf.{session_rows}
use Rattle.idp_rows.specs.Finding.{session_found, visible}
use Rattle.idp_ledger.specs.Record.{is_record, AreRecords, AreRecordsAfter, idp_rules}
use Rattle.idp_rows.specs.Record.{LAST, drawn, of_asker, of_turn, is_unended}
use Rattle.idp_ledger.specs.Ledger.{Held, OpenedLedger, next_number}
use Rattle.idp_ledger.specs.Ids.{AreRoundIds, round_ids}
use Rattle.idp_ledger.specs.Drafts.{round, round_with, told_with, AreLive, AreXmlTurns, IsXmlAsker, Drafts, IsDraftable}
use Rattle.record_ledger.proofs.Draftable.{both, BelowEnd, id_has_number, id_is_allowed, HasItsNumber, one_number, one_id, id_long}
use Rattle.idp_ledger.proofs.Draftable.{draftable, one_moment}
use Rattle.idp_ledger.proofs.DraftedRecords.{front_xml, fields_alike, text_alike}
use Rattle.idp_ledger.proofs.LawWords.{parts}
use Rattle.idp_rows.proofs.RoundFound.{answer_free}
use Rattle.idp_ledger.proofs.RowTexts.{found_row, found_session, is_session_xml, session_texts, sessions_allowed, some_found}

-- ---- the sessions of a round

record AreEnding (sessions : List SessionRow) (cookies : List (List ℕ)) : Type 0 where
  unended : list_all (is_unended sessions) cookies ≡ true
  texts : list_all is_xml_text cookies ≡ true

live_ending : (sessions : List SessionRow) (cookies : List (List ℕ)) (now horizon : ℕ) → list_all is_session_xml sessions ≡ true → AreLive sessions cookies now horizon → AreEnding sessions cookies
live_ending sessions [] now horizon xml live = record { unended = refl; texts = refl }
live_ending sessions (cookie ∷ cookies) now horizon xml live =
    let both_of = and_parts (is_some (session_found sessions cookie now horizon)) (list_all (λ c. is_some (session_found sessions c now horizon)) cookies) live in
    let row = some_found (session_found sessions cookie now horizon) both_of.0 in
    let found = found_session sessions cookie now horizon row.0 row.1 xml in
    let rest = live_ending sessions cookies now horizon xml both_of.1 in
    record {
      unended = both (is_unended sessions cookie) (list_all (is_unended sessions) cookies) found.unended rest.unended;
      texts = both (is_xml_text cookie) (list_all is_xml_text cookies) (ap is_xml_text (sym found.is) ∙ (session_texts row.0 found.texts_are).cookie) rest.texts;
    }

-- ---- a round

module _ (held : Held) (key : List ℕ) (ids : RoundIds) (are : AreRoundIds key (next_number held) ids) where
  abbrev one : Drawn
  one = record { number = next_number held; id = ids.message }

  abbrev two : Drawn
  two = record { number = next_number held + 1; id = ids.request }

  abbrev P : Drawn → Type 0
  P d = next_number held ≤ d.number

  has_one : HasItsNumber one
  has_one below = ap (has_number (next_number held)) are.message ∙ id_has_number key Message (next_number held)

  has_two : HasItsNumber two
  has_two below = ap (has_number (next_number held + 1)) (are.request (omega (arith, below))) ∙ id_has_number key Request (next_number held + 1)

  pub round_draftable : (now : ℕ) (cookies : List (List ℕ)) (asker : Option Asker) (turns : List Turn) (skipped : Bool) → now ≤ LAST → AreRecords held.records
      → AreLive (session_rows held.records) cookies now held.header.horizon → IsXmlAsker asker → AreXmlTurns turns
      → IsDraftable held (round_with (next_number held) now ids cookies asker turns skipped)
  round_draftable now cookies asker turns skipped moment records live asks tell =
      let ends = live_ending (session_rows held.records) cookies now held.header.horizon (sessions_allowed held.records records) live in
      let last : list_all is_xml_text (flat_map of_turn turns ++ cookies) ≡ true =
      list_all-append is_xml_text (flat_map of_turn turns) cookies ∙ both (list_all is_xml_text (flat_map of_turn turns)) (list_all is_xml_text cookies) tell ends.texts in
      let behind : list_all is_xml_text (of_asker asker ++ (flat_map of_turn turns ++ cookies)) ≡ true =
      list_all-append is_xml_text (of_asker asker) (flat_map of_turn turns ++ cookies)
      ∙ both (list_all is_xml_text (of_asker asker)) (list_all is_xml_text (flat_map of_turn turns ++ cookies)) asks last in
      draftable held (round_with (next_number held) now ids cookies asker turns skipped) ends.unended
      (All-cons P one (two ∷ []) (omega arith) (All-cons P two [] (omega arith) (All-nil P)))
      (All-cons HasItsNumber one (two ∷ []) has_one (All-cons HasItsNumber two [] has_two (All-nil HasItsNumber)))
      (λ below.
      let less = All-head BelowEnd two [] (All-tail BelowEnd one (two ∷ []) below) in
      let request = ap is_xml_text (are.request (omega (arith, less))) ∙ id_is_allowed key Request (next_number held + 1) in
      front_xml (ids.message ∷ ids.request ∷ []) (of_asker asker ++ (flat_map of_turn turns ++ cookies))
      (ap is_xml_text are.message ∙ id_is_allowed key Message (next_number held), (request, tt)) behind)
      (one_moment now moment)

refused_alike : (old new : OpenedLedger) (one other : Round) → length (idp_bytes (kinds.Round one)) ≡ length (idp_bytes (kinds.Round other))
    → (All BelowEnd (drawn (kinds.Round one)) → ⊥) → (All BelowEnd (drawn (kinds.Round other)) → ⊥)
    → (result : Result IdpRecord DraftFault) → Drafts old new (kinds.Round one) result → Drafts old new (kinds.Round other) result
refused_alike old new r s long past past' (Ok drafted) is = absurd (past is.can.fits.numbers)
refused_alike old new r s long past past' (Err (LedgerFull kept)) is = is
refused_alike old new r s long past past' (Err (JournalFull len room next)) is =
    (is.0, λ fits. past' fits.numbers, is.2 ∙ ap capped long, is.3, is.4)
refused_alike old new r s long past past' (Err NoMemory) is = tt

-- where the next number is the end or greater no round fits, whatever its IDs are
pub round_drafts : (old new : OpenedLedger) (key : List ℕ) (next now : ℕ) (ids : RoundIds) (cookies : List (List ℕ)) (asker : Option Asker) (turns : List Turn) (skipped : Bool) (result : Result IdpRecord DraftFault)
    → AreRoundIds key next ids → Drafts old new (round_with next now ids cookies asker turns skipped) result → Drafts old new (round key next now cookies asker turns skipped) result
round_drafts old new key next now ids cookies asker turns skipped result are is =
    elim (cases_lt (next + 1) NUMBER_END) [
      | inl below ↦
          let request = are.request (omega (arith, below)) in
          let with : List ℕ → List ℕ → IdpRecord = λ m r. round_with next now (record { message = m; request = r }) cookies asker turns skipped in
          subst (λ r. Drafts old new r result) (λ i. with (are.message i) (request i)) is
      | inr past ↦
          let made : RoundIds → Round = λ (i : RoundIds). record {
            first = next;
            moment = now;
            until = now + 600000;
            message = i.message;
            request = i.request;
            cookies = cookies;
            asker = asker;
            turns = turns;
            skipped = skipped;
          } in
          let own = round_ids key next in
          refused_alike old new (made ids) (made own)
          (ap suc (fields_alike (round_fields (made ids)) (round_fields (made own))
          (refl, (refl, (refl, (text_alike ids.message own.message (ap length are.message), (text_alike ids.request own.request (are.request_long ∙ sym (id_long key Request (next + 1))), (refl, (refl, (refl, (refl, tt)))))))))))
          (past_end ids.message ids.request past) (past_end own.message own.request past) result is
    ]
  where
    past_end : (a b : List ℕ) → NUMBER_END ≤ next + 1 → All BelowEnd (record { number = next; id = a } ∷ record { number = next + 1; id = b } ∷ []) → ⊥
    past_end a b past all =
        let first : Drawn = record { number = next; id = a } in
        let second : Drawn = record { number = next + 1; id = b } in
        let less = All-head BelowEnd second [] (All-tail BelowEnd first (second ∷ []) all) in
        absurd (omega (arith, past, less))

-- ---- the requests of rounds

abbrev pub is_round_xml : RoundRow → Bool
is_round_xml row = is_xml_text row.request

record ToldTexts (r : Told) : Type 0 where
  request : is_xml_text r.request ≡ true
  next : list_all is_xml_text (option_to_list r.next) ≡ true

told_texts : (before : List IdpRecord) (r : Told) → is_record before (kinds.Told r) ≡ true → ToldTexts r
told_texts before r is =
    let all = and_parts (is_xml_text r.request) (list_all is_xml_text (option_to_list r.next)) (parts before (kinds.Told r) is).texts in
    record { request = all.0; next = all.1 }

answered_xml : (b : Bool) (confirmed : Bool) (next : Option (List ℕ)) (row : RoundRow) → is_round_xml row ≡ true → list_all is_xml_text (option_to_list next) ≡ true
    → is_round_xml (answered_if b confirmed next row) ≡ true
answered_xml false confirmed next row here there = here
answered_xml true confirmed None row here there = here
answered_xml true confirmed (Some id) row here there = (and_parts (is_xml_text id) true there).0

behind_xml : (before later : List IdpRecord) → AreRecordsAfter before later → (row : RoundRow) → is_round_xml row ≡ true → is_round_xml (round_behind row later) ≡ true
behind_xml before [] are row here = here
behind_xml before (kinds.Pending r ∷ later) are row here = behind_xml (before ++ kinds.Pending r ∷ []) later are.1 row here
behind_xml before (kinds.Issued r ∷ later) are row here = behind_xml (before ++ kinds.Issued r ∷ []) later are.1 row here
behind_xml before (kinds.Ended r ∷ later) are row here = behind_xml (before ++ kinds.Ended r ∷ []) later are.1 row here
behind_xml before (kinds.Left r ∷ later) are row here = behind_xml (before ++ kinds.Left r ∷ []) later are.1 row here
behind_xml before (kinds.Confirmed r ∷ later) are row here = behind_xml (before ++ kinds.Confirmed r ∷ []) later are.1 row here
behind_xml before (kinds.Spoke r ∷ later) are row here = behind_xml (before ++ kinds.Spoke r ∷ []) later are.1 row here
behind_xml before (kinds.Round r ∷ later) are row here = behind_xml (before ++ kinds.Round r ∷ []) later are.1 row here
behind_xml before (kinds.Told r ∷ later) are row here =
    behind_xml (before ++ kinds.Told r ∷ []) later are.1 (answered_if (waits_for r.request row) r.confirmed r.next row)
    (answered_xml (waits_for r.request row) r.confirmed r.next row here (told_texts before r are.0).next)

rounds_after : (before later : List IdpRecord) → AreRecordsAfter before later → list_all is_round_xml (round_rows later) ≡ true
rounds_after before [] are = refl
rounds_after before (kinds.Pending r ∷ later) are = rounds_after (before ++ kinds.Pending r ∷ []) later are.1
rounds_after before (kinds.Issued r ∷ later) are = rounds_after (before ++ kinds.Issued r ∷ []) later are.1
rounds_after before (kinds.Ended r ∷ later) are = rounds_after (before ++ kinds.Ended r ∷ []) later are.1
rounds_after before (kinds.Left r ∷ later) are = rounds_after (before ++ kinds.Left r ∷ []) later are.1
rounds_after before (kinds.Confirmed r ∷ later) are = rounds_after (before ++ kinds.Confirmed r ∷ []) later are.1
rounds_after before (kinds.Spoke r ∷ later) are = rounds_after (before ++ kinds.Spoke r ∷ []) later are.1
rounds_after before (kinds.Told r ∷ later) are = rounds_after (before ++ kinds.Told r ∷ []) later are.1
rounds_after before (kinds.Round r ∷ later) are =
    let message = and_parts (is_xml_text r.message) (is_xml_text r.request && list_all is_xml_text (of_asker r.asker ++ (flat_map of_turn r.turns ++ r.cookies))) (parts before (kinds.Round r) are.0).texts in
    let request = and_parts (is_xml_text r.request) (list_all is_xml_text (of_asker r.asker ++ (flat_map of_turn r.turns ++ r.cookies))) message.1 in
    both (is_round_xml (round_behind (round_row r) later)) (list_all is_round_xml (round_rows later))
    (behind_xml (before ++ kinds.Round r ∷ []) later are.1 (round_row r) request.0) (rounds_after (before ++ kinds.Round r ∷ []) later are.1)

-- ---- an answer

module _ (held : Held) (request peer : List ℕ) (now : ℕ) (row : RoundRow) (moment : now ≤ LAST) (records : AreRecords held.records)
    (found : turn_found (round_rows held.records) request peer now held.header.horizon ≡ Some row) (only : IsRoundOf (round_rows held.records) request (Some row)) where
  request_xml : is_xml_text request ≡ true
  request_xml =
      let test : RoundRow → Bool = λ r. waits_for request r && (visible r.until now held.header.horizon && is_turn_of peer r) in
      let is = found_row test is_round_xml (round_rows held.records) row found (rounds_after [] held.records records) in
      let waits = (and_parts (waits_for request row) (visible row.until now held.header.horizon && is_turn_of peer row) is.0).0 in
      let same = Rattle.record_ledger.proofs.Words.same_text row.request request (and_parts (Rattle.std.specs.Str.bytes_eq row.request request) (not (Rattle.round_rows.specs.Rounds.is_done row)) waits).0 in
      ap is_xml_text (sym same) ∙ is.1

  pub told_draftable : (key : List ℕ) (confirmed : Bool) → is_turn_left row ≡ true → IsDraftable held (told_with (next_number held) now request confirmed (Some (id_text key Request (next_number held))))
  told_draftable key confirmed left =
      let first = next_number held in
      let id = id_text key Request first in
      let t : Told = record { first = first; moment = now; request = request; confirmed = confirmed; next = Some id } in
      let d : Drawn = record { number = first; id = id } in
      draftable held (kinds.Told t) (answer_free (round_rows held.records) t (Some row) only ∙ left) (one_number idp_rules held d (omega arith)) (one_id d (id_has_number key Request first))
      (λ below. front_xml (request ∷ id ∷ []) [] (request_xml, (id_is_allowed key Request first, tt)) refl) (one_moment now moment)

  pub last_draftable : (confirmed : Bool) → is_turn_left row ≡ false → IsDraftable held (told_with 0 now request confirmed None)
  last_draftable confirmed none =
      let t : Told = record { first = 0; moment = now; request = request; confirmed = confirmed; next = None } in
      draftable held (kinds.Told t) (answer_free (round_rows held.records) t (Some row) only ∙ ap (λ b. not b && true) none)
      (All-nil (λ (d : Drawn). next_number held ≤ d.number)) (All-nil HasItsNumber) (λ below. front_xml (request ∷ []) [] (request_xml, tt) refl) (one_moment now moment)

-- The records that are drafted, kind by kind.
use Rattle.std.specs.Prelude.{IsSome}
use Rattle.std.proofs.Common.{◌≡◌, ℕ, ◌+◌, ◌<◌, ◌≤◌, true, false, not, ◌&&◌, List, [], ◌∷◌, ◌++◌, length, Result, Ok, Err, inl, inr, refl, sym, ap, ◌∙◌, subst, arith}
use Rattle.std.specs.List.{list_all, flat_map, All}
use Rattle.std.proofs.lemmas.Bool.{and_parts, cases_lt}
use Rattle.std.proofs.lemmas.List.{length-append}
use Rattle.std.proofs.lemmas.List.Elements.{All-nil, All-cons, All-head, All-tail}
use Rattle.saml_ids.specs.IdText.{id_text}
use Rattle.saml_ids.specs.declared.Kind.TheVariants.{Request, Relay, Cookie, Message}
use Rattle.ledger_records.specs.declared.sp_record.Asked.{Asked}
use Rattle.ledger_records.specs.declared.sp_record.SpRecord.{SpRecord}
use Rattle.ledger_records.specs.declared.sp_record.SpRecord.TheVariants as kinds
use Rattle.ledger_records.specs.Fields.{text}
use Rattle.ledger_records.specs.SpRecord.{sp_bytes}
use Rattle.ledger_records.specs.Writing.{capped}
use Rattle.ledger_rules.specs.Numbers.{Drawn, NUMBER_END, has_number, is_xml_text}
use Rattle.ledger_rules.specs.declared.fault.DraftFault.{DraftFault}
use Rattle.ledger_rules.specs.declared.fault.DraftFault.TheVariants.{LedgerFull, JournalFull, NoMemory}
use Rattle.request_rows.specs.declared.row.NewSession.{NewSession}
use Rattle.request_rows.specs.Rows.{asked_row, is_spent, session_row}
use Rattle.request_ledger.specs.RowsOf.{asked_rows, opened_rows, left_rows}
use Rattle.request_ledger.specs.Record.{drawn, LAST, of_attribute, is_asked, AreRecords, request_rules}
use Rattle.request_ledger.specs.Ledger.{Held, OpenedLedger, next_number}
use Rattle.request_ledger.specs.Drafts.{asked, opened, left, ended, confirmed, ending, is_waiting_now, AreSessionTexts, Drafts, IsDraftable}
use Rattle.record_ledger.proofs.Draftable.{both, id_has_number, id_is_allowed, id_long, HasItsNumber, one_number, one_id}
use Rattle.request_ledger.proofs.Draftable.{draftable}
use Rattle.request_ledger.proofs.RowTexts.{tokens_allowed, requests_allowed, is_asked_now, live_is_open, live_is_allowed, waiting_is, waiting_is_allowed, ending_open, ending_allowed}
use Rattle.std.specs.Option.{option_to_list}

-- ---- a request for a login

pub asked_draftable : (held : Held) (key : List ℕ) (r : Asked) → r.first ≡ next_number held → r.moment ≤ LAST → is_xml_text r.target ≡ true → r.request ≡ id_text key Request r.first
    → (r.first + 1 < NUMBER_END → r.relay ≡ id_text key Relay (r.first + 1)) → IsDraftable held (kinds.Asked r)
asked_draftable held key r first moment target request relay =
    let one : Drawn = record { number = r.first; id = r.request } in
    let two : Drawn = record { number = r.first + 1; id = r.relay } in
    let P : Drawn → Type 0 = λ (d : Drawn). next_number held ≤ d.number in
    let numbers = All-cons P one (two ∷ []) (omega (arith, first)) (All-cons P two [] (omega (arith, first)) (All-nil P)) in
    let have_one : HasItsNumber one = λ below. ap (has_number r.first) request ∙ id_has_number key Request r.first in
    let have_two : HasItsNumber two = λ below. ap (has_number (r.first + 1)) (relay below) ∙ id_has_number key Relay (r.first + 1) in
    let have = All-cons HasItsNumber one (two ∷ []) have_one (All-cons HasItsNumber two [] have_two (All-nil HasItsNumber)) in
    let allowed : is_xml_text r.request ≡ true = ap is_xml_text request ∙ id_is_allowed key Request r.first in
    draftable held (kinds.Asked r) refl numbers have (both (is_xml_text r.target) (is_xml_text r.request && true) target (both (is_xml_text r.request) true allowed refl)) moment

-- how long its payload is
asked_length : (r : Asked) → length (sp_bytes 2 (kinds.Asked r)) ≡ 37 + length r.target + length r.request + length r.relay
asked_length r =
    omega (arith, length-append r.target (text r.request ++ (text r.relay ++ [])), length-append r.request (text r.relay ++ []), length-append r.relay [])

-- where the next number is the end or greater no record fits, whatever the relay state is
module _ (old new : OpenedLedger) (one other : Asked) where
  refused_alike : length (sp_bytes 2 (kinds.Asked one)) ≡ length (sp_bytes 2 (kinds.Asked other))
      → (All (λ (d : Drawn). d.number < NUMBER_END) (drawn (kinds.Asked one)) → ⊥) → (All (λ (d : Drawn). d.number < NUMBER_END) (drawn (kinds.Asked other)) → ⊥)
      → (result : Result SpRecord DraftFault) → Drafts old new (kinds.Asked one) result → Drafts old new (kinds.Asked other) result
  refused_alike long past past' (Ok drafted) is = absurd (past is.can.fits.numbers)
  refused_alike long past past' (Err (LedgerFull kept)) is = is
  refused_alike long past past' (Err (JournalFull len room next)) is =
      (is.0, λ fits. past' fits.numbers, is.2 ∙ ap capped long, is.3, is.4)
  refused_alike long past past' (Err NoMemory) is = tt

past_end : (r : Asked) → NUMBER_END ≤ r.first + 1 → All (λ (d : Drawn). d.number < NUMBER_END) (drawn (kinds.Asked r)) → ⊥
past_end r past all =
    let P : Drawn → Type 0 = λ (d : Drawn). d.number < NUMBER_END in
    let one : Drawn = record { number = r.first; id = r.request } in
    let two : Drawn = record { number = r.first + 1; id = r.relay } in
    let below : r.first + 1 < NUMBER_END = All-head P two [] (All-tail P one (two ∷ []) all) in
    absurd (omega (arith, past, below))

pub asked_drafts : (old new : OpenedLedger) (key : List ℕ) (next now : ℕ) (target relay : List ℕ) (result : Result SpRecord DraftFault) → length relay ≡ 57
    → (next + 1 < NUMBER_END → relay ≡ id_text key Relay (next + 1))
    → Drafts old new (kinds.Asked (record { first = next; moment = now; until = now + 600000; target = target; request = id_text key Request next; relay = relay })) result
    → Drafts old new (asked key next now target) result
asked_drafts old new key next now target relay result long same is =
    let with : List ℕ → Asked = λ (t : List ℕ). record { first = next; moment = now; until = now + 600000; target = target; request = id_text key Request next; relay = t } in
    let id = id_text key Relay (next + 1) in
    elim (cases_lt (next + 1) NUMBER_END) [
      | inl below ↦ subst (λ (t : List ℕ). Drafts old new (kinds.Asked (with t)) result) (same below) is
      | inr past ↦
          let size : length (sp_bytes 2 (kinds.Asked (with relay))) ≡ length (sp_bytes 2 (kinds.Asked (with id))) =
          asked_length (with relay) ∙ ap (λ n. 37 + length target + length (id_text key Request next) + n) (long ∙ sym (id_long key Relay (next + 1))) ∙ sym (asked_length (with id)) in
          refused_alike old new (with relay) (with id) size (past_end (with relay) past) (past_end (with id) past) result is
    ]

pub drafts_asked : (old new : OpenedLedger) (r : Asked) (key : List ℕ) (next now : ℕ) (target : List ℕ) (result : Result SpRecord DraftFault) → r.first ≡ next → r.moment ≡ now → r.until ≡ now + 600000 → r.target ≡ target
    → r.request ≡ id_text key Request next → length r.relay ≡ 57 → (next + 1 < NUMBER_END → r.relay ≡ id_text key Relay (next + 1))
    → Drafts old new (kinds.Asked r) result → Drafts old new (asked key next now target) result
drafts_asked old new r key next now target result first moment until goes request long relay is =
    let same : kinds.Asked r ≡ kinds.Asked (record { first = next; moment = now; until = now + 600000; target = target; request = id_text key Request next; relay = r.relay }) =
    λ i. kinds.Asked (record { first = first i; moment = moment i; until = until i; target = goes i; request = request i; relay = r.relay }) in
    asked_drafts old new key next now target r.relay result long relay (subst (λ (e : SpRecord). Drafts old new e result) same is)

-- the number of the relay state
pub number_behind : (n : ℕ) → n + 1 < NUMBER_END → Rattle.std.proofs.Common.◌%◌ (n + 1) 18446744073709551616 ≡ n + 1
number_behind n below = omega arith

-- ---- a session

pub opened_draftable : (held : Held) (key : List ℕ) (now : ℕ) (new : NewSession) → now ≤ LAST → AreSessionTexts new
    → IsSome (asked_row (asked_rows held.records) new.request now held.header.horizon) → is_spent (opened_rows held.records) new.request ≡ false → IsDraftable held (opened key (next_number held) now new)
opened_draftable held key now new moment allowed some unspent =
    let first = next_number held in
    let token = id_text key Cookie first in
    let drawn_one : Drawn = record { number = first; id = token } in
    let free = both (is_asked (asked_rows held.records) new.request) (not (is_spent (opened_rows held.records) new.request))
    (is_asked_now (asked_rows held.records) new.request now held.header.horizon some) (ap not unspent) in
    let one = and_parts (is_xml_text new.request) _ allowed in
    let two = and_parts (is_xml_text new.issuer) _ one.1 in
    let three = and_parts (is_xml_text new.assertion) _ two.1 in
    let rest = list_all is_xml_text (new.name ∷ option_to_list new.index ++ flat_map of_attribute new.attributes) in
    let with_token : (is_xml_text token && rest) ≡ true = both (is_xml_text token) rest (id_is_allowed key Cookie first) three.1 in
    let texts_of = both (is_xml_text new.request) _ one.0 (both (is_xml_text new.issuer) _ two.0 (both (is_xml_text new.assertion) _ three.0 with_token)) in
    draftable held (opened key first now new) free (one_number request_rules held drawn_one (omega arith)) (one_id drawn_one (id_has_number key Cookie first)) texts_of moment

-- ---- a logout that is begun

pub left_draftable : (held : Held) (key : List ℕ) (now : ℕ) (token : List ℕ) → now ≤ LAST → AreRecords held.records
    → IsSome (session_row (opened_rows held.records) token now held.header.horizon) → IsDraftable held (left key (next_number held) now token)
left_draftable held key now token moment are some =
    let first = next_number held in
    let request = id_text key Request first in
    let drawn_one : Drawn = record { number = first; id = request } in
    let allowed = live_is_allowed (opened_rows held.records) token now held.header.horizon (tokens_allowed held.records are) some in
    draftable held (left key first now token) (live_is_open (opened_rows held.records) token now held.header.horizon some)
    (one_number request_rules held drawn_one (omega arith)) (one_id drawn_one (id_has_number key Request first))
    (both (is_xml_text token) (is_xml_text request && true) allowed (both (is_xml_text request) true (id_is_allowed key Request first) refl)) moment

-- ---- a logout that is answered

pub ended_draftable : (held : Held) (key : List ℕ) (now : ℕ) (issuer name : List ℕ) (indexes : List (List ℕ)) (request : List ℕ) → now ≤ LAST → is_xml_text request ≡ true → AreRecords held.records
    → IsDraftable held (ended key (next_number held) now (ending now held.header.horizon issuer name indexes (opened_rows held.records)) request)
ended_draftable held key now issuer name indexes request moment asks are =
    let first = next_number held in
    let message = id_text key Message first in
    let tokens = ending now held.header.horizon issuer name indexes (opened_rows held.records) in
    let drawn_one : Drawn = record { number = first; id = message } in
    draftable held (ended key first now tokens request) (ending_open now held.header.horizon issuer name indexes (opened_rows held.records))
    (one_number request_rules held drawn_one (omega arith)) (one_id drawn_one (id_has_number key Message first))
    (both (is_xml_text message) (is_xml_text request && list_all is_xml_text tokens) (id_is_allowed key Message first)
    (both (is_xml_text request) (list_all is_xml_text tokens) asks (ending_allowed now held.header.horizon issuer name indexes (opened_rows held.records) (tokens_allowed held.records are)))) moment

-- ---- a logout that is confirmed

pub confirmed_draftable : (held : Held) (now : ℕ) (request : List ℕ) → now ≤ LAST → AreRecords held.records → is_waiting_now (left_rows held.records) request now held.header.horizon ≡ true
    → IsDraftable held (confirmed now request)
confirmed_draftable held now request moment are waits =
    let allowed = waiting_is_allowed (left_rows held.records) request now held.header.horizon (requests_allowed held.records are) waits in
    draftable held (confirmed now request) (waiting_is (left_rows held.records) request now held.header.horizon waits)
    (All-nil (λ (d : Drawn). next_number held ≤ d.number)) (All-nil HasItsNumber) (both (is_xml_text request) true allowed refl) moment

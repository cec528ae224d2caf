-- The records that are drafted, kind by kind.
use Rattle.std.proofs.Common.{◌≡◌, ℕ, suc, ◌+◌, ◌<◌, ◌≤◌, min, Bool, true, List, [], ◌∷◌, ◌++◌, length, None, Some, Result, Ok, Err, inl, inr, refl, sym, ap, ◌∙◌, subst, arith}
use Rattle.std.specs.List.{list_all, flat_map, All}
use Rattle.std.proofs.lemmas.Bool.{and_parts, cases_lt}
use Rattle.std.proofs.lemmas.List.{length-append}
use Rattle.std.proofs.lemmas.List.Elements.{All-nil, All-cons, All-head, All-tail}
use Rattle.owned_values.specs.declared.attributes.Attribute.{Attribute}
use Rattle.saml_ids.specs.IdText.{id_text}
use Rattle.saml_ids.specs.declared.Kind.TheVariants.{Request, Cookie, Index, Assertion, Message, Pending as PendingId}
use Rattle.ledger_records.specs.declared.idp_record.Issued.{Issued}
use Rattle.ledger_records.specs.declared.idp_record.IdpRecord.{IdpRecord}
use Rattle.ledger_records.specs.declared.idp_record.IdpRecord.TheVariants as kinds
use Rattle.ledger_records.specs.Fields.{Field, Number, Text, Optional, Attributes, count, field, bytes_of}
use Rattle.ledger_records.specs.IdpRecord.{idp_bytes, issued}
use Rattle.ledger_records.specs.Writing.{capped}
use Rattle.ledger_rules.specs.Numbers.{Drawn, NUMBER_END, has_number, is_xml_text}
use Rattle.ledger_rules.specs.declared.fault.DraftFault.{DraftFault}
use Rattle.ledger_rules.specs.declared.fault.DraftFault.TheVariants.{LedgerFull, JournalFull, NoMemory}
use Rattle.idp_ledger.specs.declared.ask.Ask.{Ask}
use Rattle.idp_rows.specs.declared.row.PendingRow.{PendingRow}
use Rattle.idp_rows.specs.declared.row.SessionRow.{SessionRow}
use Rattle.idp_ledger.specs.declared.ids.LoginIds.{LoginIds}
use Rattle.idp_rows.specs.RowsOf.{pending_rows, issued_rows, session_rows, left_rows, rows_of}
use Rattle.idp_rows.specs.Finding.{pending_found, session_found, ending, is_waiting_now, last_peer}
use Rattle.idp_ledger.specs.Record.{AreRecords, idp_rules}
use Rattle.idp_rows.specs.Record.{drawn, LAST, of_attribute}
use Rattle.idp_ledger.specs.Ledger.{Held, OpenedLedger, next_number}
use Rattle.idp_ledger.specs.Ids.{AreLoginIds, login_ids}
use Rattle.idp_ledger.specs.Drafts.{ASSERTION_LIFE, SESSION_LIFE, IsXmlAsk, AreXmlAttributes, pending, login, login_with, issue, issue_with, ended, left, confirmed, spoke, Drafts, IsDraftable}
use Rattle.record_ledger.proofs.Draftable.{both, BelowEnd, id_has_number, id_is_allowed, HasItsNumber, one_number, one_id}
use Rattle.idp_ledger.proofs.Draftable.{draftable, one_moment, two_moments}
use Rattle.idp_ledger.proofs.RowTexts.{pendings_allowed, peers_allowed, sessions_allowed, requests_allowed, found_pending, found_session, session_texts, last_peer_xml, waiting_is, waiting_is_allowed, ending_unended, ending_allowed}

-- ---- the texts that are given

pub record AskTexts (ask : Ask) : Type 0 where
  pub request : is_xml_text ask.request ≡ true
  pub peer : is_xml_text ask.peer ≡ true
  pub consumer : is_xml_text ask.consumer ≡ true

pub ask_texts : (ask : Ask) → IsXmlAsk ask → AskTexts ask
ask_texts ask is =
    let one = and_parts (is_xml_text ask.request) _ is in
    let two = and_parts (is_xml_text ask.peer) _ one.1 in
    record { request = one.0; peer = two.0; consumer = (and_parts (is_xml_text ask.consumer) true two.1).0 }

abbrev pub AreXml : List (List ℕ) → Type 0
AreXml [] = Unit {0}
AreXml (t ∷ ts) = (is_xml_text t ≡ true) × AreXml ts

pub front_xml : (ts rest : List (List ℕ)) → AreXml ts → list_all is_xml_text rest ≡ true → list_all is_xml_text (ts ++ rest) ≡ true
front_xml [] rest are later = later
front_xml (t ∷ ts) rest are later = both (is_xml_text t) (list_all is_xml_text (ts ++ rest)) are.0 (front_xml ts rest are.1 later)

-- ---- a login that is pending, and an answer without an assertion

pub pending_draftable : (held : Held) (key : List ℕ) (now : ℕ) (ask : Ask) → now ≤ LAST → IsXmlAsk ask → IsDraftable held (pending key (next_number held) now ask)
pending_draftable held key now ask moment texts =
    let first = next_number held in
    let id = id_text key PendingId first in
    let d : Drawn = record { number = first; id = id } in
    let t = ask_texts ask texts in
    draftable held (pending key first now ask) refl (one_number idp_rules held d (omega arith)) (one_id d (id_has_number key PendingId first))
    (λ below. front_xml (id ∷ ask.request ∷ ask.peer ∷ ask.consumer ∷ []) [] (id_is_allowed key PendingId first, (t.request, (t.peer, (t.consumer, tt)))) refl) (one_moment now moment)

pub spoke_draftable : (held : Held) (key : List ℕ) (now : ℕ) (ask : Ask) → now ≤ LAST → IsXmlAsk ask → IsDraftable held (spoke key (next_number held) now ask)
spoke_draftable held key now ask moment texts =
    let first = next_number held in
    let id = id_text key Message first in
    let d : Drawn = record { number = first; id = id } in
    let t = ask_texts ask texts in
    draftable held (spoke key first now ask) refl (one_number idp_rules held d (omega arith)) (one_id d (id_has_number key Message first))
    (λ below. front_xml (id ∷ ask.request ∷ ask.peer ∷ []) [] (id_is_allowed key Message first, (t.request, (t.peer, tt))) refl) (one_moment now moment)

-- ---- a logout that is begun

pub left_draftable : (held : Held) (key : List ℕ) (now : ℕ) (cookie : List ℕ) (row : SessionRow) → now ≤ LAST → AreRecords held.records
    → session_found (session_rows held.records) cookie now held.header.horizon ≡ Some row
    → IsDraftable held (left key (next_number held) now cookie (last_peer (issued_rows held.records) cookie))
left_draftable held key now cookie row moment are some =
    let first = next_number held in
    let request = id_text key Request first in
    let peer = last_peer (issued_rows held.records) cookie in
    let d : Drawn = record { number = first; id = request } in
    let found = found_session (session_rows held.records) cookie now held.header.horizon row some (sessions_allowed held.records are) in
    let allowed = ap is_xml_text (sym found.is) ∙ (session_texts row found.texts_are).cookie in
    draftable held (left key first now cookie peer) found.unended (one_number idp_rules held d (omega arith)) (one_id d (id_has_number key Request first))
    (λ below. front_xml (cookie ∷ request ∷ peer ∷ []) [] (allowed, (id_is_allowed key Request first, (last_peer_xml (issued_rows held.records) cookie (peers_allowed held.records are), tt))) refl)
    (one_moment now moment)

-- ---- a logout that is answered

pub ended_draftable : (held : Held) (key : List ℕ) (now : ℕ) (peer name : List ℕ) (indexes : List (List ℕ)) (request : List ℕ) (partial : Bool) → now ≤ LAST → is_xml_text request ≡ true → is_xml_text peer ≡ true
    → AreRecords held.records → IsDraftable held (ended key (next_number held) now (ending now held.header.horizon peer name indexes (rows_of held.records)) request peer partial)
ended_draftable held key now peer name indexes request partial moment asks peers are =
    let first = next_number held in
    let message = id_text key Message first in
    let cookies = ending now held.header.horizon peer name indexes (rows_of held.records) in
    let d : Drawn = record { number = first; id = message } in
    draftable held (ended key first now cookies request peer partial) (ending_unended now held.header.horizon peer name indexes (issued_rows held.records) (session_rows held.records))
    (one_number idp_rules held d (omega arith)) (one_id d (id_has_number key Message first))
    (λ below. front_xml (message ∷ request ∷ peer ∷ []) cookies (id_is_allowed key Message first, (asks, (peers, tt)))
    (ending_allowed now held.header.horizon peer name indexes (issued_rows held.records) (session_rows held.records) (sessions_allowed held.records are)))
    (one_moment now moment)

-- ---- a logout that is confirmed

pub confirmed_draftable : (held : Held) (now : ℕ) (request : List ℕ) → now ≤ LAST → AreRecords held.records → is_waiting_now (left_rows held.records) request now held.header.horizon ≡ true
    → IsDraftable held (confirmed now request)
confirmed_draftable held now request moment are waits =
    let allowed = waiting_is_allowed (left_rows held.records) request now held.header.horizon (requests_allowed held.records are) waits in
    draftable held (confirmed now request) (waiting_is (left_rows held.records) request now held.header.horizon waits)
    (All-nil (λ (d : Drawn). next_number held ≤ d.number)) (All-nil HasItsNumber) (λ below. front_xml (request ∷ []) [] (allowed, tt) refl) (one_moment now moment)

-- ---- the IDs of an assertion

module _ (held : Held) (key : List ℕ) (ids : LoginIds) (are : AreLoginIds key (next_number held) ids) where
  abbrev first : ℕ
  first = next_number held

  abbrev one : Drawn
  one = record { number = first; id = ids.assertion }

  abbrev two : Drawn
  two = record { number = first + 1; id = ids.message }

  abbrev three : Drawn
  three = record { number = first + 2; id = ids.cookie }

  abbrev four : Drawn
  four = record { number = first + 3; id = ids.index }

  abbrev P : Drawn → Type 0
  P d = next_number held ≤ d.number

  has_one : HasItsNumber one
  has_one below = ap (has_number first) are.assertion ∙ id_has_number key Assertion first

  has_two : HasItsNumber two
  has_two below = ap (has_number (first + 1)) (are.message (omega (arith, below))) ∙ id_has_number key Message (first + 1)

  has_three : HasItsNumber three
  has_three below = ap (has_number (first + 2)) (are.cookie (omega (arith, below))) ∙ id_has_number key Cookie (first + 2)

  has_four : HasItsNumber four
  has_four below = ap (has_number (first + 3)) (are.index (omega (arith, below))) ∙ id_has_number key Index (first + 3)

  xml_assertion : is_xml_text ids.assertion ≡ true
  xml_assertion = ap is_xml_text are.assertion ∙ id_is_allowed key Assertion first

  xml_message : first + 1 < NUMBER_END → is_xml_text ids.message ≡ true
  xml_message below = ap is_xml_text (are.message (omega (arith, below))) ∙ id_is_allowed key Message (first + 1)

  xml_cookie : first + 2 < NUMBER_END → is_xml_text ids.cookie ≡ true
  xml_cookie below = ap is_xml_text (are.cookie (omega (arith, below))) ∙ id_is_allowed key Cookie (first + 2)

  xml_index : first + 3 < NUMBER_END → is_xml_text ids.index ≡ true
  xml_index below = ap is_xml_text (are.index (omega (arith, below))) ∙ id_is_allowed key Index (first + 3)

  pub login_draftable : (now : ℕ) (id user : List ℕ) (attributes : List Attribute) (row : PendingRow) → now ≤ LAST → AreRecords held.records
      → pending_found (pending_rows held.records) id now held.header.horizon ≡ Some row → is_xml_text user ≡ true → AreXmlAttributes attributes
      → IsDraftable held (login_with first now ids row user attributes)
  login_draftable now id user attributes row moment records some user_xml attributes_xml =
      let found = found_pending (pending_rows held.records) id now held.header.horizon row some (pendings_allowed held.records records) in
      let t1 = and_parts (is_xml_text row.pending) _ found.texts_are in
      let t2 = and_parts (is_xml_text row.request) _ t1.1 in
      let t3 = and_parts (is_xml_text row.peer) _ t2.1 in
      let consumer = (and_parts (is_xml_text row.consumer) true t3.1).0 in
      draftable held (login_with first now ids row user attributes) found.unused
      (All-cons P one (two ∷ three ∷ four ∷ []) (omega arith) (All-cons P two (three ∷ four ∷ []) (omega arith) (All-cons P three (four ∷ []) (omega arith) (All-cons P four [] (omega arith) (All-nil P)))))
      (All-cons HasItsNumber one (two ∷ three ∷ four ∷ []) has_one (All-cons HasItsNumber two (three ∷ four ∷ []) has_two
      (All-cons HasItsNumber three (four ∷ []) has_three (All-cons HasItsNumber four [] has_four (All-nil HasItsNumber)))))
      (λ below.
      let b2 = All-tail BelowEnd one (two ∷ three ∷ four ∷ []) below in
      let b3 = All-tail BelowEnd two (three ∷ four ∷ []) b2 in
      let b4 = All-tail BelowEnd three (four ∷ []) b3 in
      front_xml (ids.cookie ∷ ids.index ∷ ids.assertion ∷ ids.message ∷ user ∷ row.peer ∷ row.consumer ∷ row.request ∷ row.pending ∷ []) (flat_map of_attribute attributes)
      (xml_cookie (All-head BelowEnd three (four ∷ []) b3), (xml_index (All-head BelowEnd four [] b4), (xml_assertion, (xml_message (All-head BelowEnd two (three ∷ four ∷ []) b2), (user_xml, (t3.0, (consumer, (t2.0, (t1.0, tt))))))))) attributes_xml)
      (two_moments now (min LAST (now + SESSION_LIFE)) moment (omega arith))

  pub issue_draftable : (now : ℕ) (cookie : List ℕ) (ask : Ask) (row : SessionRow) → now ≤ LAST → AreRecords held.records
      → session_found (session_rows held.records) cookie now held.header.horizon ≡ Some row → IsXmlAsk ask
      → IsDraftable held (issue_with first now ids row ask)
  issue_draftable now cookie ask row moment records some texts =
      let found = found_session (session_rows held.records) cookie now held.header.horizon row some (sessions_allowed held.records records) in
      let s = session_texts row found.texts_are in
      let t = ask_texts ask texts in
      let unended = ap (Rattle.idp_rows.specs.Record.is_unended (session_rows held.records)) found.is ∙ found.unended in
      draftable held (issue_with first now ids row ask) unended
      (All-cons P one (two ∷ []) (omega arith) (All-cons P two [] (omega arith) (All-nil P)))
      (All-cons HasItsNumber one (two ∷ []) has_one (All-cons HasItsNumber two [] has_two (All-nil HasItsNumber)))
      (λ below.
      let b2 = All-tail BelowEnd one (two ∷ []) below in
      front_xml (row.cookie ∷ row.index ∷ ids.assertion ∷ ids.message ∷ row.user ∷ ask.peer ∷ ask.consumer ∷ ask.request ∷ []) (flat_map of_attribute row.attributes)
      (s.cookie, (s.index, (xml_assertion, (xml_message (All-head BelowEnd two [] b2), (s.user, (t.peer, (t.consumer, (t.request, tt)))))))) s.attributes)
      (two_moments now row.until moment s.until)

-- ---- where the next number is the end or greater no record fits, whatever its IDs are

abbrev pub AreAlike : List Field → List Field → Type 0
AreAlike [] [] = Unit {0}
AreAlike [] (g ∷ gs) = ⊥
AreAlike (f ∷ fs) [] = ⊥
AreAlike (f ∷ fs) (g ∷ gs) = (length (field f) ≡ length (field g)) × AreAlike fs gs

pub fields_alike : (fs gs : List Field) → AreAlike fs gs → length (bytes_of fs) ≡ length (bytes_of gs)
fields_alike [] [] are = refl
fields_alike [] (g ∷ gs) are = absurd are
fields_alike (f ∷ fs) [] are = absurd are
fields_alike (f ∷ fs) (g ∷ gs) are =
    omega (arith, length-append (field f) (bytes_of fs), length-append (field g) (bytes_of gs), are.0, fields_alike fs gs are.1)

pub text_alike : (a b : List ℕ) → length a ≡ length b → length (field (Text a)) ≡ length (field (Text b))
text_alike a b same = omega (arith, length-append (count (length a)) a, length-append (count (length b)) b, same)

issued_alike : (one other : Issued) → one.first ≡ other.first → one.moment ≡ other.moment → one.pending ≡ other.pending → length one.cookie ≡ length other.cookie → length one.index ≡ length other.index
    → one.session_end ≡ other.session_end → length one.assertion ≡ length other.assertion → length one.message ≡ length other.message → one.user ≡ other.user → one.peer ≡ other.peer
    → one.consumer ≡ other.consumer → one.request ≡ other.request → one.relay ≡ other.relay → one.until ≡ other.until → one.attributes ≡ other.attributes
    → length (bytes_of (issued one)) ≡ length (bytes_of (issued other))
issued_alike a b e0 e1 e2 e3 e4 e5 e6 e7 e8 e9 e10 e11 e12 e13 e14 =
    fields_alike (issued a) (issued b) (ap (λ n. length (field (Number n))) e0, (ap (λ n. length (field (Number n))) e1, (ap (λ p. length (field (Optional p))) e2, (text_alike a.cookie b.cookie e3, (text_alike a.index b.index e4, (ap (λ n. length (field (Number n))) e5, (text_alike a.assertion b.assertion e6, (text_alike a.message b.message e7, (ap (λ t. length (field (Text t))) e8, (ap (λ t. length (field (Text t))) e9, (ap (λ t. length (field (Text t))) e10, (ap (λ t. length (field (Text t))) e11, (ap (λ p. length (field (Optional p))) e12, (ap (λ n. length (field (Number n))) e13, (ap (λ attributes. length (field (Attributes attributes))) e14, tt)))))))))))))))

refused_alike : (old new : OpenedLedger) (one other : Issued) → length (idp_bytes (kinds.Issued one)) ≡ length (idp_bytes (kinds.Issued other))
    → (All BelowEnd (drawn (kinds.Issued one)) → ⊥) → (All BelowEnd (drawn (kinds.Issued other)) → ⊥)
    → (result : Result IdpRecord DraftFault) → Drafts old new (kinds.Issued one) result → Drafts old new (kinds.Issued other) result
refused_alike old new r s long past past' (Ok drafted) is = absurd (past is.can.fits.numbers)
refused_alike old new r s long past past' (Err (LedgerFull kept)) is = is
refused_alike old new r s long past past' (Err (JournalFull len room next)) is =
    (is.0, λ fits. past' fits.numbers, is.2 ∙ ap capped long, is.3, is.4)
refused_alike old new r s long past past' (Err NoMemory) is = tt

same_ids : (key : List ℕ) (next : ℕ) (ids : LoginIds) → AreLoginIds key next ids → next + 3 < NUMBER_END → ids ≡ login_ids key next
same_ids key next ids are below =
    let message = are.message (omega (arith, below)) in
    let cookie = are.cookie (omega (arith, below)) in
    let index = are.index (omega (arith, below)) in
    λ i. record { assertion = are.assertion i; message = message i; cookie = cookie i; index = index i }

id_57 : (key : List ℕ) (kind : Rattle.saml_ids.specs.declared.Kind.Kind) (n : ℕ) (id : List ℕ) → length id ≡ 57 → length id ≡ length (id_text key kind n)
id_57 key kind n id long = long ∙ sym (Rattle.record_ledger.proofs.Draftable.id_long key kind n)

-- the IDs of the next numbers stand for those that were drawn
pub login_drafts : (old new : OpenedLedger) (key : List ℕ) (next now : ℕ) (ids : LoginIds) (row : PendingRow) (user : List ℕ) (attributes : List Attribute) (result : Result IdpRecord DraftFault)
    → AreLoginIds key next ids → Drafts old new (login_with next now ids row user attributes) result → Drafts old new (login key next now row user attributes) result
login_drafts old new key next now ids row user attributes result are is =
    elim (cases_lt (next + 3) NUMBER_END) [
      | inl below ↦ subst (λ i. Drafts old new (login_with next now i row user attributes) result) (same_ids key next ids are below) is
      | inr past ↦
          let made : LoginIds → Issued = λ (i : LoginIds). record {
            first = next;
            moment = now;
            pending = Some row.pending;
            cookie = i.cookie;
            index = i.index;
            session_end = min LAST (now + SESSION_LIFE);
            assertion = i.assertion;
            message = i.message;
            user = user;
            peer = row.peer;
            consumer = row.consumer;
            request = row.request;
            relay = row.relay;
            until = min LAST (now + ASSERTION_LIFE);
            attributes = attributes;
          } in
          let drawn_ids = login_ids key next in
          refused_alike old new (made ids) (made drawn_ids) (ap suc (issued_alike (made ids) (made drawn_ids) refl refl refl (id_57 key Cookie (next + 2) ids.cookie are.cookie_long) (id_57 key Index (next + 3) ids.index are.index_long) refl
          (ap length are.assertion) (id_57 key Message (next + 1) ids.message are.message_long) refl refl refl refl refl refl refl))
          (past_end ids.assertion ids.message ids.cookie ids.index past) (past_end (id_text key Assertion next) (id_text key Message (next + 1)) (id_text key Cookie (next + 2)) (id_text key Index (next + 3)) past) result is
    ]
  where
    past_end : (a b c d : List ℕ) → NUMBER_END ≤ next + 3
        → All BelowEnd (record { number = next; id = a } ∷ record { number = next + 1; id = b } ∷ record { number = next + 2; id = c } ∷ record { number = next + 3; id = d } ∷ []) → ⊥
    past_end a b c d past all =
        let one : Drawn = record { number = next; id = a } in
        let two : Drawn = record { number = next + 1; id = b } in
        let three : Drawn = record { number = next + 2; id = c } in
        let four : Drawn = record { number = next + 3; id = d } in
        let less = All-head BelowEnd four [] (All-tail BelowEnd three (four ∷ []) (All-tail BelowEnd two (three ∷ four ∷ []) (All-tail BelowEnd one (two ∷ three ∷ four ∷ []) all))) in
        absurd (omega (arith, past, less))

pub issue_drafts : (old new : OpenedLedger) (key : List ℕ) (next now : ℕ) (ids : LoginIds) (row : SessionRow) (ask : Ask) (result : Result IdpRecord DraftFault)
    → AreLoginIds key next ids → Drafts old new (issue_with next now ids row ask) result → Drafts old new (issue key next now row ask) result
issue_drafts old new key next now ids row ask result are is =
    elim (cases_lt (next + 1) NUMBER_END) [
      | inl below ↦
          let message = are.message (omega (arith, below)) in
          let with : List ℕ → List ℕ → IdpRecord = λ a m. issue_with next now (record ids { assertion = a; message = m }) row ask in
          subst (λ r. Drafts old new r result) (λ i. with (are.assertion i) (message i)) is
      | inr past ↦
          let made : LoginIds → Issued = λ (i : LoginIds). record {
            first = next;
            moment = now;
            pending = None;
            cookie = row.cookie;
            index = row.index;
            session_end = row.until;
            assertion = i.assertion;
            message = i.message;
            user = row.user;
            peer = ask.peer;
            consumer = ask.consumer;
            request = ask.request;
            relay = ask.relay;
            until = min LAST (now + ASSERTION_LIFE);
            attributes = row.attributes;
          } in
          let drawn_ids = login_ids key next in
          refused_alike old new (made ids) (made drawn_ids) (ap suc (issued_alike (made ids) (made drawn_ids) refl refl refl refl refl refl
          (ap length are.assertion) (id_57 key Message (next + 1) ids.message are.message_long) refl refl refl refl refl refl refl))
          (past_end ids.assertion ids.message past) (past_end (id_text key Assertion next) (id_text key Message (next + 1)) past) result is
    ]
  where
    past_end : (a b : List ℕ) → NUMBER_END ≤ next + 1 → All BelowEnd (record { number = next; id = a } ∷ record { number = next + 1; id = b } ∷ []) → ⊥
    past_end a b past all =
        let one : Drawn = record { number = next; id = a } in
        let two : Drawn = record { number = next + 1; id = b } in
        let less = All-head BelowEnd two [] (All-tail BelowEnd one (two ∷ []) all) in
        absurd (omega (arith, past, less))

-- To a service provider's ledger a hub's records are as those of requests, of sessions and of ends that close none. So what is a law
-- there of requests and of what they open holds here.
use Rattle.std.proofs.Common.{◌≡◌, ℕ, ◌+◌, ◌≤◌, Bool, true, ◌&&◌, ◌||◌, not, nat_le, nat_lt, List, [], ◌∷◌, ◌++◌, map, None, bytes_eq, refl, ap, ◌∙◌, subst, inl, inr, arith}
use Rattle.std.specs.List.{list_all, flat_map}
use Rattle.std.proofs.lemmas.Bool.{and_parts, and_from, or_cases, or_left, or_right, false≢true}
use Rattle.std.proofs.lemmas.List.{map_push}
use Rattle.ledger_records.specs.declared.sp_record.SpRecord.{SpRecord}
use Rattle.ledger_records.specs.declared.sp_record.SpRecord.TheVariants as sp
use Rattle.ledger_records.specs.declared.hub_record.Backed.{Backed}
use Rattle.ledger_records.specs.declared.hub_record.HubRecord.{HubRecord}
use Rattle.ledger_records.specs.declared.hub_record.HubRecord.TheVariants as kinds
use Rattle.ledger_rules.specs.Numbers.{Drawn, NUMBER_END, above, are_fresh, has_number, is_xml_text}
use Rattle.request_rows.specs.declared.row.AskedRow.{AskedRow}
use Rattle.request_rows.specs.declared.row.OpenedRow.{OpenedRow}
use Rattle.request_rows.specs.Rows.{is_spent, is_seen, visible}
use Rattle.record_ledger.proofs.Draftable.{text_is_allowed}
use Rattle.record_ledger.proofs.Numbers as any
use Rattle.record_ledger.proofs.Numbers.{fresh_below}
use Rattle.request_ledger.specs.RowsOf as sp_rows
use Rattle.request_ledger.specs.Record as sp_record
use Rattle.request_ledger.proofs.LawWords as sp_words
use Rattle.hub_ledger.specs.RowsOf.{asked_row, asked_rows, below_rows, opened_rows, rows_of}
use Rattle.hub_ledger.specs.declared.row.BelowRow.{BelowRow}
use Rattle.hub_ledger.specs.Record.{drawn, goes_to, is_free, is_routed, moments, next_of, is_record, of_attribute, texts, AreRecordsAfter, hub_rules, LAST}
use Rattle.hub_ledger.proofs.Words.{parts}

abbrev pub as_sp : HubRecord → SpRecord
as_sp (kinds.Routed r) =
    sp.Asked (record { first = r.first; moment = r.moment; until = r.until; target = []; request = r.request; relay = r.relay })
as_sp (kinds.Backed r) = sp.Opened (record {
  first = r.first;
  moment = r.moment;
  until = r.until;
  request = r.request;
  issuer = r.issuer;
  assertion = r.above;
  assertion_until = r.assertion_until;
  token = r.assertion;
  name = r.name;
  index = None;
  attributes = r.attributes;
  key = r.key;
})
as_sp (kinds.Spoke r) = sp.Ended (record { first = r.first; moment = r.moment; tokens = []; message = r.message; request = r.request })

abbrev pub all_as_sp : List HubRecord → List SpRecord
all_as_sp records = map as_sp records

-- the rows are the same, as far as they are asked for
pub asked_same : (records : List HubRecord) → sp_rows.asked_rows (all_as_sp records) ≡ asked_rows records
asked_same [] = refl
asked_same (kinds.Routed r ∷ later) = ap (λ rows. asked_row r ∷ rows) (asked_same later)
asked_same (other ∷ later) = asked_same later

pub spent_same : (records : List HubRecord) (request : List ℕ)
    → is_spent (sp_rows.opened_rows (all_as_sp records)) request ≡ is_spent (opened_rows records) request
spent_same [] request = refl
spent_same (kinds.Backed r ∷ later) request = ap (λ b. bytes_eq r.request request || b) (spent_same later request)
spent_same (other ∷ later) request = spent_same later request

pub seen_same : (records : List HubRecord) (issuer assertion : List ℕ) (now horizon : ℕ)
    → is_seen (sp_rows.opened_rows (all_as_sp records)) issuer assertion now horizon ≡ is_seen (opened_rows records) issuer assertion now horizon
seen_same [] issuer assertion now horizon = refl
seen_same (kinds.Backed r ∷ later) issuer assertion now horizon =
    ap (λ b. (bytes_eq r.issuer issuer && bytes_eq r.above assertion && visible r.assertion_until now horizon) || b)
    (seen_same later issuer assertion now horizon)
seen_same (other ∷ later) issuer assertion now horizon = seen_same later issuer assertion now horizon

pub requests_same : (records : List HubRecord)
    → map (λ (row : OpenedRow). row.request) (sp_rows.opened_rows (all_as_sp records)) ≡ map (λ (row : OpenedRow). row.request) (opened_rows records)
requests_same [] = refl
requests_same (kinds.Backed r ∷ later) = ap (λ rest. r.request ∷ rest) (requests_same later)
requests_same (other ∷ later) = requests_same later

-- a request to which a login goes was asked
pub routed_asked : (asked : List AskedRow) (below : List BelowRow) (b : Backed) → is_routed asked below b ≡ true → sp_record.is_asked asked b.request ≡ true
routed_asked [] below b is = absurd (false≢true is)
routed_asked (row ∷ asked) [] b is = absurd (false≢true is)
routed_asked (row ∷ asked) (to ∷ below) b is =
    elim (or_cases (bytes_eq row.request b.request && goes_to b to) (is_routed asked below b) is) [
      | inl here ↦
          or_left (bytes_eq row.request b.request) (sp_record.is_asked asked b.request)
          (and_parts (bytes_eq row.request b.request) (goes_to b to) here).0
      | inr there ↦ or_right (bytes_eq row.request b.request) (sp_record.is_asked asked b.request) (routed_asked asked below b there)
    ]

-- the numbers of fewer IDs are drawn
pub above_less : (r : HubRecord) → above (sp_record.drawn (as_sp r)) ≤ above (drawn r)
above_less (kinds.Routed r) = omega arith
above_less (kinds.Backed r) = omega arith
above_less (kinds.Spoke r) = omega arith

pub next_less : (records : List HubRecord) → sp_record.next_of (all_as_sp records) ≤ next_of records
next_less [] = omega arith
next_less (r ∷ later) =
    omega (arith, above_less r, next_less later, any.next_cons hub_rules r later, any.next_cons sp_record.request_rules (as_sp r) (all_as_sp later))

abbrev is_fresh : ℕ → Drawn → Bool
is_fresh least d = nat_le least d.number && nat_lt d.number NUMBER_END && has_number d.number d.id

fewer_fresh : (least : ℕ) (r : HubRecord) → are_fresh least (drawn r) ≡ true → are_fresh least (sp_record.drawn (as_sp r)) ≡ true
fewer_fresh least (kinds.Backed r) fresh =
    let one : Drawn = record { number = r.first; id = r.assertion } in
    let others : List Drawn = record { number = r.first + 1; id = r.message } ∷ record { number = r.first + 2; id = r.index } ∷ [] in
    and_from (is_fresh least one) true (and_parts (is_fresh least one) (are_fresh least others) fresh).0 refl
fewer_fresh least other fresh = fresh

-- a document may hold fewer texts
no_text : is_xml_text [] ≡ true
no_text = text_is_allowed [] (record { characters = []; allowed = refl; spelled = refl })

fewer_texts : (r : HubRecord) → list_all is_xml_text (texts r) ≡ true → list_all is_xml_text (sp_record.texts (as_sp r)) ≡ true
fewer_texts (kinds.Routed r) are =
    and_from (is_xml_text []) (is_xml_text r.request && true) no_text
    (and_from (is_xml_text r.request) true (and_parts (is_xml_text r.request) (list_all is_xml_text (r.peer ∷ r.consumer ∷ r.below ∷ [])) are).0 refl)
fewer_texts (kinds.Backed r) are =
    let ends = flat_map of_attribute r.attributes in
    let one = and_parts (is_xml_text r.request) _ are in
    let two = and_parts (is_xml_text r.issuer) _ one.1 in
    let three = and_parts (is_xml_text r.above) _ two.1 in
    let four = and_parts (is_xml_text r.assertion) _ three.1 in
    let five = and_parts (is_xml_text r.message) _ four.1 in
    let six = and_parts (is_xml_text r.index) _ five.1 in
    let seven = and_parts (is_xml_text r.name) _ six.1 in
    let eight = and_parts (is_xml_text r.peer) _ seven.1 in
    let nine = and_parts (is_xml_text r.consumer) _ eight.1 in
    let ten = and_parts (is_xml_text r.below) (list_all is_xml_text ends) nine.1 in
    let named = and_from (is_xml_text r.name) (list_all is_xml_text ends) seven.0 ten.1 in
    let with_token = and_from (is_xml_text r.assertion) (list_all is_xml_text (r.name ∷ ends)) four.0 named in
    let with_above = and_from (is_xml_text r.above) (list_all is_xml_text (r.assertion ∷ r.name ∷ ends)) three.0 with_token in
    let with_issuer = and_from (is_xml_text r.issuer) (list_all is_xml_text (r.above ∷ r.assertion ∷ r.name ∷ ends)) two.0 with_above in
    and_from (is_xml_text r.request) (list_all is_xml_text (r.issuer ∷ r.above ∷ r.assertion ∷ r.name ∷ ends)) one.0 with_issuer
fewer_texts (kinds.Spoke r) are =
    let one = and_parts (is_xml_text r.message) _ are in
    let two = and_parts (is_xml_text r.request) _ one.1 in
    and_from (is_xml_text r.message) (is_xml_text r.request && true) one.0 (and_from (is_xml_text r.request) true two.0 refl)

dated : (r : HubRecord) → list_all (λ moment. nat_le moment LAST) (moments r) ≡ true → nat_le (sp_record.moment_of (as_sp r)) LAST ≡ true
dated (kinds.Routed r) are = (and_parts (nat_le r.moment LAST) true are).0
dated (kinds.Backed r) are = (and_parts (nat_le r.moment LAST) (nat_le r.until LAST && true) are).0
dated (kinds.Spoke r) are = (and_parts (nat_le r.moment LAST) true are).0

free : (before : List HubRecord) (r : HubRecord) → is_free (rows_of before) r ≡ true
    → sp_record.is_free (sp_rows.rows_of (all_as_sp before)) (as_sp r) ≡ true
free before (kinds.Backed r) is =
    let both = and_parts (is_routed (asked_rows before) (below_rows before) r) (not (is_spent (opened_rows before) r.request)) is in
    and_from (sp_record.is_asked (sp_rows.asked_rows (all_as_sp before)) r.request) (not (is_spent (sp_rows.opened_rows (all_as_sp before)) r.request))
    (ap (λ rows. sp_record.is_asked rows r.request) (asked_same before) ∙ routed_asked (asked_rows before) (below_rows before) r both.0)
    (ap not (spent_same before r.request) ∙ both.1)
free before other is = refl

pub is_sp_record : (before : List HubRecord) (r : HubRecord) → is_record before r ≡ true → sp_record.is_record (all_as_sp before) (as_sp r) ≡ true
is_sp_record before r is =
    let p = parts before r is in
    sp_words.from_parts (all_as_sp before) (as_sp r) (record {
      free = free before r p.free;
      fresh = fresh_below (next_of before) (sp_record.next_of (all_as_sp before)) (sp_record.drawn (as_sp r)) (next_less before)
          (fewer_fresh (next_of before) r p.fresh);
      texts = fewer_texts r p.texts;
      moment = dated r p.dated;
    })

pub are_sp_records : (before later : List HubRecord) → AreRecordsAfter before later → sp_record.AreRecordsAfter (all_as_sp before) (all_as_sp later)
are_sp_records before [] are = tt
are_sp_records before (r ∷ later) are = (
  is_sp_record before r are.0,
  subst (λ front. sp_record.AreRecordsAfter front (all_as_sp later)) (map_push as_sp before r) (are_sp_records (before ++ r ∷ []) later are.1),
)

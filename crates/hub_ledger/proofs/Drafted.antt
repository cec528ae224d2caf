-- The records that are drafted.
use Rattle.std.proofs.Common.{◌≡◌, ℕ, suc, ◌+◌, ◌≤◌, min, Bool, true, false, not, ◌&&◌, cond, nat_le, find, List, [], ◌∷◌, ◌++◌, length, Option, None, Some, Result, Ok, Err, bytes_eq, inl, inr, refl, sym, ap, ◌∙◌, subst, arith}
use Rattle.std.specs.List.{list_all, list_any, flat_map, All}
use Rattle.std.proofs.lemmas.Bool.{and_parts, cases_Bool, cases_lt, le-leb, or_left, or_right}
use Rattle.std.proofs.lemmas.List.{length-append}
use Rattle.std.proofs.lemmas.List.Elements.{All-nil, All-cons, All-head, All-tail}
use Rattle.std.proofs.lemmas.Option.{same_Some}
use Rattle.saml_ids.specs.IdText.{id_text}
use Rattle.saml_ids.specs.declared.Kind.{Kind}
use Rattle.saml_ids.specs.declared.Kind.TheVariants.{Assertion, Index, Message, Relay, Request}
use Rattle.ledger_records.specs.declared.hub_record.HubRecord.{HubRecord}
use Rattle.ledger_records.specs.declared.hub_record.HubRecord.TheVariants as kinds
use Rattle.ledger_records.specs.Fields.{Field, Text, count, field, bytes_of}
use Rattle.ledger_records.specs.HubRecord.{hub_bytes, hub_fields}
use Rattle.ledger_records.specs.Writing.{capped}
use Rattle.ledger_rules.specs.Numbers.{Drawn, NUMBER_END, are_fresh, has_number, is_xml_text}
use Rattle.ledger_rules.specs.declared.fault.DraftFault.{DraftFault}
use Rattle.ledger_rules.specs.declared.fault.DraftFault.TheVariants.{LedgerFull, JournalFull, NoMemory}
use Rattle.record_ledger.proofs.Draftable.{both, fresh_drawn, BelowEnd, HasItsNumber, id_has_number, id_is_allowed, id_long, one_id, one_number}
use Rattle.record_ledger.proofs.Words.{text_itself}
use Rattle.request_rows.specs.declared.row.NewSession.{NewSession}
use Rattle.request_rows.specs.Rows.{is_spent, visible}
use Rattle.hub_ledger.specs.declared.row.BelowRow.{BelowRow}
use Rattle.hub_ledger.specs.declared.ids.LoginIds.{LoginIds}
use Rattle.hub_ledger.specs.declared.ids.RequestIds.{RequestIds}
use Rattle.hub_ledger.specs.Ids.{AreLoginIds, AreRequestIds}
use Rattle.hub_ledger.specs.RowsOf.{Route, asked_rows, below_rows, opened_rows, routes, rows_of}
use Rattle.hub_ledger.specs.Finding.{routed_row}
use Rattle.hub_ledger.specs.Record.{drawn, goes_to, is_free, is_routed, moments, next_of, of_attribute, same_option, texts, AreRecords, AreRecordsAfter, LAST, hub_rules}
use Rattle.hub_ledger.specs.Ledger.{Held, OpenedLedger, next_number}
use Rattle.hub_ledger.specs.Drafts.{backed, backed_with, passed_with, routed, routed_with, spoke, AreSessionTexts, Drafts, IsDraftable, IsXmlBelow}
use Rattle.hub_ledger.proofs.Words.{is_record-is, parts}
use Rattle.std.specs.Option.{option_to_list, option_map_or}
use Rattle.record_ledger.specs.Drafts.{MOST_ROWS}

-- ---- what may be drafted

draftable : (held : Held) (r : HubRecord) → is_free (rows_of held.records) r ≡ true → All (λ (d : Drawn). next_number held ≤ d.number) (drawn r) → All HasItsNumber (drawn r)
    → (All BelowEnd (drawn r) → list_all is_xml_text (texts r) ≡ true) → list_all (λ moment. nat_le moment LAST) (moments r) ≡ true → IsDraftable held r
draftable held r free numbers have allowed dated = record {
  numbers = numbers;
  is = λ below.
      let fresh = fresh_drawn hub_rules held r numbers below have in
      is_record-is held.records r
      ∙ both (is_free (rows_of held.records) r && are_fresh (next_of held.records) (drawn r) && list_all is_xml_text (texts r)) (list_all (λ moment. nat_le moment LAST) (moments r))
      (both (is_free (rows_of held.records) r && are_fresh (next_of held.records) (drawn r)) (list_all is_xml_text (texts r))
      (both (is_free (rows_of held.records) r) (are_fresh (next_of held.records) (drawn r)) free fresh) (allowed below))
      dated;
}

one_moment : (now : ℕ) → now ≤ LAST → (nat_le now LAST && true) ≡ true
one_moment now le = both (nat_le now LAST) true (le-leb now LAST le) refl

two_moments : (now end : ℕ) → now ≤ LAST → end ≤ LAST → (nat_le now LAST && (nat_le end LAST && true)) ≡ true
two_moments now end le less = both (nat_le now LAST) (nat_le end LAST && true) (le-leb now LAST le) (one_moment end less)

-- ---- texts

abbrev AreXml : List (List ℕ) → Type 0
AreXml [] = Unit {0}
AreXml (t ∷ ts) = (is_xml_text t ≡ true) × AreXml ts

front_xml : (ts rest : List (List ℕ)) → AreXml ts → list_all is_xml_text rest ≡ true → list_all is_xml_text (ts ++ rest) ≡ true
front_xml [] rest are later = later
front_xml (t ∷ ts) rest are later = both (is_xml_text t) (list_all is_xml_text (ts ++ rest)) are.0 (front_xml ts rest are.1 later)

behind_xml : (ts rest : List (List ℕ)) → list_all is_xml_text (ts ++ rest) ≡ true → list_all is_xml_text rest ≡ true
behind_xml [] rest are = are
behind_xml (t ∷ ts) rest are = behind_xml ts rest (and_parts (is_xml_text t) (list_all is_xml_text (ts ++ rest)) are).1

record BelowTexts (below : BelowRow) : Type 0 where
  peer : is_xml_text below.peer ≡ true
  consumer : is_xml_text below.consumer ≡ true
  request : is_xml_text below.request ≡ true

below_texts : (below : BelowRow) → IsXmlBelow below → BelowTexts below
below_texts below is =
    let one = and_parts (is_xml_text below.peer) _ is in
    let two = and_parts (is_xml_text below.consumer) _ one.1 in
    record { peer = one.0; consumer = two.0; request = (and_parts (is_xml_text below.request) true two.1).0 }

-- the texts of the requests below are those of records
abbrev is_xml_route : Route → Bool
is_xml_route route = list_all is_xml_text (route.below.peer ∷ route.below.consumer ∷ route.below.request ∷ [])

routes_after : (before later : List HubRecord) → AreRecordsAfter before later → list_all is_xml_route (routes (asked_rows later) (below_rows later)) ≡ true
routes_after before [] are = refl
routes_after before (kinds.Routed r ∷ later) are =
    let texts_are = (parts before (kinds.Routed r) are.0).texts in
    both (list_all is_xml_text (r.peer ∷ r.consumer ∷ r.below ∷ [])) (list_all is_xml_route (routes (asked_rows later) (below_rows later)))
    (and_parts (is_xml_text r.request) _ texts_are).1 (routes_after (before ++ kinds.Routed r ∷ []) later are.1)
routes_after before (kinds.Backed r ∷ later) are = routes_after (before ++ kinds.Backed r ∷ []) later are.1
routes_after before (kinds.Spoke r ∷ later) are = routes_after (before ++ kinds.Spoke r ∷ []) later are.1

-- ---- what is found

module _ {X : Type 0} (F : X → Bool) where
  step : (y : X) (ys : List X) (b : Bool) (found : Option X) → F y ≡ b → find F (y ∷ ys) ≡ found → cond b (Some y) (find F ys) ≡ found
  step y ys b found is there = sym (ap (λ c. cond c (Some y) (find F ys)) is) ∙ there

  found_passes : (xs : List X) (x : X) → find F xs ≡ Some x → F x ≡ true
  found_passes [] x is = absurd (cc)
  found_passes (y ∷ ys) x is =
      elim (cases_Bool (F y)) [
        | inl here ↦ ap F (sym (same_Some y x (step y ys true (Some x) here is))) ∙ here
        | inr not_here ↦ found_passes ys x (step y ys false (Some x) not_here is)
      ]

  found_any : (test : X → Bool) (xs : List X) (x : X) → find F xs ≡ Some x → test x ≡ true → list_any test xs ≡ true
  found_any test [] x is passes = absurd (cc)
  found_any test (y ∷ ys) x is passes =
      elim (cases_Bool (F y)) [
        | inl here ↦ or_left (test y) (list_any test ys) (ap test (same_Some y x (step y ys true (Some x) here is)) ∙ passes)
        | inr not_here ↦ or_right (test y) (list_any test ys) (found_any test ys x (step y ys false (Some x) not_here is) passes)
      ]

  found_all : (test : X → Bool) (xs : List X) (x : X) → find F xs ≡ Some x → list_all test xs ≡ true → test x ≡ true
  found_all test [] x is all = absurd (cc)
  found_all test (y ∷ ys) x is all =
      let both_are = and_parts (test y) (list_all test ys) all in
      elim (cases_Bool (F y)) [
        | inl here ↦ ap test (sym (same_Some y x (step y ys true (Some x) here is))) ∙ both_are.0
        | inr not_here ↦ found_all test ys x (step y ys false (Some x) not_here is) both_are.1
      ]

-- a route that is found is not spent
unspent : (b : Bool) (found : Option Route) (route : Route) → cond b None found ≡ Some route → (b ≡ false) × (found ≡ Some route)
unspent true found route is = absurd (cc)
unspent false found route is = (refl, is)

-- the texts of one that is found may stand in a document
pub routed_texts : (held : Held) (request : List ℕ) (now : ℕ) (route : Route) → AreRecords held.records
    → routed_row (rows_of held.records) request now held.header.horizon ≡ Some route → IsXmlBelow route.below
routed_texts held request now route records some =
    let is_it : Route → Bool = λ (r : Route). bytes_eq r.asked.request request && visible r.asked.until now held.header.horizon in
    let all = routes (asked_rows held.records) (below_rows held.records) in
    let found = unspent (is_spent (opened_rows held.records) request) (find is_it all) route some in
    found_all is_it is_xml_route all route found.1 (routes_after [] held.records records)

same_itself : (t : Option (List ℕ)) → same_option t t ≡ true
same_itself None = refl
same_itself (Some t) = text_itself t

-- ---- a request upwards

module _ (held : Held) (key : List ℕ) (ids : RequestIds) (are : AreRequestIds key (next_number held) ids) where
  pub routed_draftable : (now : ℕ) (below : BelowRow) → now ≤ LAST → IsXmlBelow below → IsDraftable held (routed_with (next_number held) now ids below)
  routed_draftable now below moment xml =
      let first = next_number held in
      let P : Drawn → Type 0 = λ (d : Drawn). next_number held ≤ d.number in
      let one : Drawn = record { number = first; id = ids.request } in
      let two : Drawn = record { number = first + 1; id = ids.relay } in
      let has_one : HasItsNumber one = λ less. ap (has_number first) are.request ∙ id_has_number key Request first in
      let has_two : HasItsNumber two = λ less. ap (has_number (first + 1)) (are.relay (omega (arith, less))) ∙ id_has_number key Relay (first + 1) in
      let t = below_texts below xml in
      draftable held (routed_with first now ids below) refl
      (All-cons P one (two ∷ []) (omega arith) (All-cons P two [] (omega arith) (All-nil P)))
      (All-cons HasItsNumber one (two ∷ []) has_one (All-cons HasItsNumber two [] has_two (All-nil HasItsNumber)))
      (λ less. front_xml (ids.request ∷ below.peer ∷ below.consumer ∷ below.request ∷ []) []
      (ap is_xml_text are.request ∙ id_is_allowed key Request first, (t.peer, (t.consumer, (t.request, tt)))) refl)
      (one_moment now moment)

-- ---- an answer without an assertion

pub spoke_draftable : (held : Held) (key : List ℕ) (now : ℕ) (below : BelowRow) → now ≤ LAST → IsXmlBelow below → IsDraftable held (spoke key (next_number held) now below)
spoke_draftable held key now below moment xml =
    let first = next_number held in
    let d : Drawn = record { number = first; id = id_text key Message first } in
    let t = below_texts below xml in
    draftable held (spoke key first now below) refl (one_number hub_rules held d (omega arith)) (one_id d (id_has_number key Message first))
    (λ less. front_xml (id_text key Message first ∷ below.request ∷ below.peer ∷ []) [] (id_is_allowed key Message first, (t.request, (t.peer, tt))) refl) (one_moment now moment)

-- ---- a login that is passed on

module _ (held : Held) (key : List ℕ) (ids : LoginIds) (are : AreLoginIds key (next_number held) ids) where
  pub backed_draftable : (now : ℕ) (new : NewSession) (route : Route) → now ≤ LAST → AreRecords held.records → AreSessionTexts new
      → routed_row (rows_of held.records) new.request now held.header.horizon ≡ Some route
      → IsDraftable held (backed_with (next_number held) now ids route.below new)
  backed_draftable now new route moment records xml some =
      let first = next_number held in
      let P : Drawn → Type 0 = λ (d : Drawn). next_number held ≤ d.number in
      let one : Drawn = record { number = first; id = ids.assertion } in
      let two : Drawn = record { number = first + 1; id = ids.message } in
      let three : Drawn = record { number = first + 2; id = ids.index } in
      let has_one : HasItsNumber one = λ less. ap (has_number first) are.assertion ∙ id_has_number key Assertion first in
      let has_two : HasItsNumber two = λ less. ap (has_number (first + 1)) (are.message (omega (arith, less))) ∙ id_has_number key Message (first + 1) in
      let has_three : HasItsNumber three = λ less. ap (has_number (first + 2)) (are.index (omega (arith, less))) ∙ id_has_number key Index (first + 2) in
      let made = passed_with first now ids route.below new in
      let asked = asked_rows held.records in
      let below = below_rows held.records in
      let found = unspent (is_spent (opened_rows held.records) new.request) (find (is_it now new) (routes asked below)) route some in
      let passes = found_passes (is_it now new) (routes asked below) route found.1 in
      let t = below_texts route.below (found_all (is_it now new) is_xml_route (routes asked below) route found.1 (routes_after [] held.records records)) in
      let t1 = and_parts (is_xml_text new.request) _ xml in
      let t2 = and_parts (is_xml_text new.issuer) _ t1.1 in
      let t3 = and_parts (is_xml_text new.assertion) _ t2.1 in
      let t4 = and_parts (is_xml_text new.name) _ t3.1 in
      let attributes = behind_xml (option_to_list new.index) (flat_map of_attribute new.attributes) t4.1 in
      draftable held (backed_with first now ids route.below new)
      (both (is_routed asked below made) (not (is_spent (opened_rows held.records) new.request))
      (found_any (is_it now new) (λ (other : Route). bytes_eq other.asked.request new.request && goes_to made other.below) (routes asked below) route found.1
      (both (bytes_eq route.asked.request new.request) (goes_to made route.below)
      (and_parts (bytes_eq route.asked.request new.request) (visible route.asked.until now held.header.horizon) passes).0
      (goes_there route.below)))
      (ap not found.0))
      (All-cons P one (two ∷ three ∷ []) (omega arith) (All-cons P two (three ∷ []) (omega arith) (All-cons P three [] (omega arith) (All-nil P))))
      (All-cons HasItsNumber one (two ∷ three ∷ []) has_one (All-cons HasItsNumber two (three ∷ []) has_two (All-cons HasItsNumber three [] has_three (All-nil HasItsNumber))))
      (λ less.
      let less_two = All-head BelowEnd two (three ∷ []) (All-tail BelowEnd one (two ∷ three ∷ []) less) in
      let less_three = All-head BelowEnd three [] (All-tail BelowEnd two (three ∷ []) (All-tail BelowEnd one (two ∷ three ∷ []) less)) in
      front_xml (new.request ∷ new.issuer ∷ new.assertion ∷ ids.assertion ∷ ids.message ∷ ids.index ∷ new.name ∷ route.below.peer ∷ route.below.consumer ∷ route.below.request ∷ [])
      (flat_map of_attribute new.attributes) (
        t1.0,
        (
          t2.0,
          (
            t3.0,
            (
              ap is_xml_text are.assertion ∙ id_is_allowed key Assertion first,
              (
                ap is_xml_text (are.message (omega (arith, less_two))) ∙ id_is_allowed key Message (first + 1),
                (
                  ap is_xml_text (are.index (omega (arith, less_three))) ∙ id_is_allowed key Index (first + 2),
                  (t4.0, (t.peer, (t.consumer, (t.request, tt)))),
                ),
              ),
            ),
          ),
        ),
      ) attributes)
      (two_moments now (min LAST new.until) moment (omega arith))
    where
      is_it : ℕ → NewSession → Route → Bool
      is_it now new route = bytes_eq route.asked.request new.request && visible route.asked.until now held.header.horizon

      goes_there : (below : BelowRow) → (bytes_eq below.peer below.peer && bytes_eq below.consumer below.consumer && bytes_eq below.request below.request && same_option below.relay below.relay) ≡ true
      goes_there below =
          both (bytes_eq below.peer below.peer && bytes_eq below.consumer below.consumer && bytes_eq below.request below.request) (same_option below.relay below.relay)
          (both (bytes_eq below.peer below.peer && bytes_eq below.consumer below.consumer) (bytes_eq below.request below.request)
          (both (bytes_eq below.peer below.peer) (bytes_eq below.consumer below.consumer) (text_itself below.peer) (text_itself below.consumer)) (text_itself below.request))
          (same_itself below.relay)

-- ---- where the next number is the end or greater no record fits, whatever its IDs are

abbrev AreAlike : List Field → List Field → Type 0
AreAlike [] [] = Unit {0}
AreAlike [] (g ∷ gs) = ⊥
AreAlike (f ∷ fs) [] = ⊥
AreAlike (f ∷ fs) (g ∷ gs) = (length (field f) ≡ length (field g)) × AreAlike fs gs

fields_alike : (fs gs : List Field) → AreAlike fs gs → length (bytes_of fs) ≡ length (bytes_of gs)
fields_alike [] [] are = refl
fields_alike [] (g ∷ gs) are = absurd are
fields_alike (f ∷ fs) [] are = absurd are
fields_alike (f ∷ fs) (g ∷ gs) are =
    omega (arith, length-append (field f) (bytes_of fs), length-append (field g) (bytes_of gs), are.0, fields_alike fs gs are.1)

text_alike : (a b : List ℕ) → length a ≡ length b → length (field (Text a)) ≡ length (field (Text b))
text_alike a b same = omega (arith, length-append (count (length a)) a, length-append (count (length b)) b, same)

id_57 : (key : List ℕ) (kind : Kind) (n : ℕ) (id : List ℕ) → length id ≡ 57 → length id ≡ length (id_text key kind n)
id_57 key kind n id long = long ∙ sym (id_long key kind n)

refused_alike : (old new : OpenedLedger) (one other : HubRecord) → length (hub_bytes one) ≡ length (hub_bytes other) → (old_kind : Rattle.hub_ledger.specs.RowsOf.rows_of_kind (rows_of old.held.records) one ≡ Rattle.hub_ledger.specs.RowsOf.rows_of_kind (rows_of old.held.records) other)
    → (All BelowEnd (drawn one) → ⊥) → (All BelowEnd (drawn other) → ⊥)
    → (result : Result HubRecord DraftFault) → Drafts old new one result → Drafts old new other result
refused_alike old new one other long kind past past' (Ok drafted) is = absurd (past is.can.fits.numbers)
refused_alike old new one other long kind past past' (Err (LedgerFull kept)) is =
    (ap (λ (n : Option ℕ). option_map_or (nat_le MOST_ROWS) n false) (sym kind) ∙ is.0, sym kind ∙ is.1)
refused_alike old new one other long kind past past' (Err (JournalFull len room next)) is =
    (ap (λ (n : Option ℕ). option_map_or (nat_le MOST_ROWS) n false) (sym kind) ∙ is.0, λ fits. past' fits.numbers, is.2 ∙ ap capped long, is.3, is.4)
refused_alike old new one other long kind past past' (Err NoMemory) is = tt

pub routed_drafts : (old new : OpenedLedger) (key : List ℕ) (next now : ℕ) (ids : RequestIds) (below : BelowRow) (result : Result HubRecord DraftFault)
    → AreRequestIds key next ids → Drafts old new (routed_with next now ids below) result → Drafts old new (routed key next now below) result
routed_drafts old new key next now ids below result are is =
    let with : List ℕ → List ℕ → HubRecord = λ (a : List ℕ) (b : List ℕ). routed_with next now (record { request = a; relay = b }) below in
    elim (cases_lt (next + 1) NUMBER_END) [
      | inl less ↦
          let relay = are.relay (omega (arith, less)) in
          subst (λ r. Drafts old new r result) (λ i. with (are.request i) (relay i)) is
      | inr past ↦
          refused_alike old new (with ids.request ids.relay) (with (id_text key Request next) (id_text key Relay (next + 1)))
          (ap suc (fields_alike (hub_fields (with ids.request ids.relay)) (hub_fields (with (id_text key Request next) (id_text key Relay (next + 1)))) (
            refl,
            (
              refl,
              (
                refl,
                (
                  text_alike ids.request (id_text key Request next) (ap length are.request),
                  (text_alike ids.relay (id_text key Relay (next + 1)) (id_57 key Relay (next + 1) ids.relay are.relay_long), (refl, (refl, (refl, (refl, tt))))),
                ),
              ),
            ),
          )))
          refl (past_end ids.request ids.relay past) (past_end (id_text key Request next) (id_text key Relay (next + 1)) past) result is
    ]
  where
    past_end : (a b : List ℕ) → NUMBER_END ≤ next + 1 → All BelowEnd (record { number = next; id = a } ∷ record { number = next + 1; id = b } ∷ []) → ⊥
    past_end a b past all =
        let one : Drawn = record { number = next; id = a } in
        let two : Drawn = record { number = next + 1; id = b } in
        let less = All-head BelowEnd two [] (All-tail BelowEnd one (two ∷ []) all) in
        absurd (omega (arith, past, less))

pub backed_drafts : (old new : OpenedLedger) (key : List ℕ) (next now : ℕ) (ids : LoginIds) (below : BelowRow) (session : NewSession) (result : Result HubRecord DraftFault)
    → AreLoginIds key next ids → Drafts old new (backed_with next now ids below session) result → Drafts old new (backed key next now below session) result
backed_drafts old new key next now ids below session result are is =
    let with : List ℕ → List ℕ → List ℕ → HubRecord =
    λ (a : List ℕ) (b : List ℕ) (d : List ℕ). backed_with next now (record { assertion = a; message = b; index = d }) below session in
    let a = id_text key Assertion next in
    let b = id_text key Message (next + 1) in
    let d = id_text key Index (next + 2) in
    elim (cases_lt (next + 2) NUMBER_END) [
      | inl less ↦
          let message = are.message (omega (arith, less)) in
          let index = are.index (omega (arith, less)) in
          subst (λ r. Drafts old new r result) (λ i. with (are.assertion i) (message i) (index i)) is
      | inr past ↦
          refused_alike old new (with ids.assertion ids.message ids.index) (with a b d)
          (ap suc (fields_alike (hub_fields (with ids.assertion ids.message ids.index)) (hub_fields (with a b d)) (
            refl,
            (
              refl,
              (
                refl,
                (
                  refl,
                  (
                    refl,
                    (
                      refl,
                      (
                        refl,
                        (
                          text_alike ids.assertion a (ap length are.assertion),
                          (
                            text_alike ids.message b (id_57 key Message (next + 1) ids.message are.message_long),
                            (
                              text_alike ids.index d (id_57 key Index (next + 2) ids.index are.index_long),
                              (refl, (refl, (refl, (refl, (refl, (refl, (refl, tt))))))),
                            ),
                          ),
                        ),
                      ),
                    ),
                  ),
                ),
              ),
            ),
          )))
          refl (past_end ids.assertion ids.message ids.index past) (past_end a b d past) result is
    ]
  where
    past_end : (a b d : List ℕ) → NUMBER_END ≤ next + 2
        → All BelowEnd (record { number = next; id = a } ∷ record { number = next + 1; id = b } ∷ record { number = next + 2; id = d } ∷ []) → ⊥
    past_end a b d past all =
        let one : Drawn = record { number = next; id = a } in
        let two : Drawn = record { number = next + 1; id = b } in
        let three : Drawn = record { number = next + 2; id = d } in
        let less = All-head BelowEnd three [] (All-tail BelowEnd two (three ∷ []) (All-tail BelowEnd one (two ∷ three ∷ []) all)) in
        absurd (omega (arith, past, less))

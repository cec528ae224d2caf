-- The texts of a session that lives.
use Rattle.std.specs.Prelude.{Option, None, Some}
use Rattle.std.proofs.Common.{◌≡◌, ℕ, Bool, true, ◌&&◌, List, [], ◌∷◌, ◌++◌, sym, subst, refl, ap, ◌∙◌}
use Rattle.std.specs.List.{list_all}
use Rattle.std.specs.Option.{ForSome, option_to_list}
use Rattle.std.proofs.lemmas.Bool.{and_parts}
use Rattle.std.proofs.lemmas.List.Sums.{AllPass-from_list_all}
use Rattle.std.proofs.lemmas.Option.{get_or_from_slice_get, slice_get_within}
use Rattle.ledger_rules.proofs.Texts.{tested}
use Rattle.xml_spec.specs.Characters.{IsText}
use Rattle.ledger_records.specs.declared.sp_record.SpRecord.{SpRecord}
use Rattle.ledger_records.specs.declared.sp_record.SpRecord.TheVariants as kinds
use Rattle.ledger_rules.specs.Numbers.{is_xml_text}
use Rattle.request_rows.specs.declared.row.OpenedRow.{OpenedRow}
use Rattle.request_ledger.specs.RowsOf.{opened_rows}
use Rattle.request_ledger.specs.Record.{AreRecords, AreRecordsAfter}
use Rattle.request_ledger.specs.Ledger.{Held}
use Rattle.record_ledger.proofs.Draftable.{both}
use Rattle.request_ledger.proofs.LawWords.{parts}
use Rattle.http_wire.specs.Requests.{Request}
use Rattle.provider_node.proofs.Sessions.{found_itself}
use Rattle.sp_server.specs.Step.{session_for}
use Rattle.sp_server.proofs.StayingClosed.{opened_sessions}

-- what passes the test is a text
pub text_of : (s : List ℕ) → is_xml_text s ≡ true → IsText s
text_of s allowed = (tested s).0 allowed

-- ---- each row has texts of such characters

abbrev is_allowed : OpenedRow → Bool
is_allowed row = is_xml_text row.name && list_all is_xml_text (option_to_list row.index)

rest_of : (index more : List (List ℕ)) → list_all is_xml_text (index ++ more) ≡ true → list_all is_xml_text index ≡ true
rest_of [] more all = refl
rest_of (text ∷ index) more all =
    let two = and_parts (is_xml_text text) (list_all is_xml_text (index ++ more)) all in
    both (is_xml_text text) (list_all is_xml_text index) two.0 (rest_of index more two.1)

rows_after : (before later : List SpRecord) → AreRecordsAfter before later
    → list_all is_allowed (opened_rows later) ≡ true
rows_after before [] are = refl
rows_after before (kinds.Opened r ∷ later) are =
    let texts = (parts before (kinds.Opened r) are.0).texts in
    let second = (and_parts (is_xml_text r.request) _ texts).1 in
    let third = (and_parts (is_xml_text r.issuer) _ second).1 in
    let fourth = (and_parts (is_xml_text r.assertion) _ third).1 in
    let fifth = (and_parts (is_xml_text r.token) _ fourth).1 in
    let name = and_parts (is_xml_text r.name) _ fifth in
    both (is_xml_text r.name && list_all is_xml_text (option_to_list r.index)) (list_all is_allowed (opened_rows later))
    (both (is_xml_text r.name) (list_all is_xml_text (option_to_list r.index)) name.0 (rest_of (option_to_list r.index) _ name.1))
    (rows_after (before ++ kinds.Opened r ∷ []) later are.1)
rows_after before (other ∷ later) are = rows_after (before ++ other ∷ []) later are.1

-- ---- so has the one that is found

index_allowed : (index : Option (List ℕ)) → list_all is_xml_text (option_to_list index) ≡ true
    → ForSome index (λ i. is_xml_text i ≡ true)
index_allowed None all x is = cc
index_allowed (Some i) all x is = let same : i ≡ x =
    cc in subst (λ (t : List ℕ). is_xml_text t ≡ true) same (and_parts (is_xml_text i) true all).0

pub record HasTexts (row : OpenedRow) : Type 0 where
  pub name : is_xml_text row.name ≡ true
  pub index : ForSome row.index (λ i. is_xml_text i ≡ true)

pub session_texts : (held : Held) (request : Request) (now : ℕ) (row : OpenedRow) → AreRecords held.records
    → session_for held now request ≡ Some row → HasTexts row
session_texts held request now row are is =
    let rows = opened_rows held.records in
    let found = found_itself opened_sessions rows now held.header.horizon _ row is in
    let all = AllPass-from_list_all is_allowed rows (rows_after [] held.records are) in
    let passes = sym (ap is_allowed (get_or_from_slice_get rows found.place row row found.at))
    ∙ all found.place row (slice_get_within rows found.place row found.at) in
    let two = and_parts (is_xml_text row.name) (list_all is_xml_text (option_to_list row.index)) passes in
    record { name = two.0; index = index_allowed row.index two.1 }

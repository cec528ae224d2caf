-- The texts of rounds and of the parts of sessions are texts of records, and the counts of a round.
use Rattle.std.specs.Prelude.{slice_get}
use Rattle.std.proofs.Common.{◌≡◌, ◌≢◌, ℕ, zero, suc, ◌+◌, Bool, true, false, ◌&&◌, List, [], ◌∷◌, ◌++◌, take, Option, Some, refl, sym, ap, ◌∙◌, subst, arith}
use Rattle.std.specs.List.{list_all, flat_map}
use Rattle.std.proofs.lemmas.Bool.{and_parts}
use Rattle.std.proofs.lemmas.List.Folds.{list_all-append}
use Rattle.std.proofs.lemmas.Slice.Eq.{bytes_eq-Decides}
use Rattle.ledger_records.specs.declared.idp_record.Issued.{Issued}
use Rattle.ledger_records.specs.declared.idp_round.Round.{Round}
use Rattle.ledger_records.specs.declared.idp_record.IdpRecord.{IdpRecord}
use Rattle.ledger_records.specs.declared.idp_record.IdpRecord.TheVariants as kinds
use Rattle.ledger_rules.specs.Numbers.{has_number, is_xml_text, number_text}
use Rattle.round_rows.specs.declared.row.RoundRow.{RoundRow}
use Rattle.round_rows.specs.Rounds.{answered_if, waits_for}
use Rattle.record_ledger.proofs.Draftable.{both}
use Rattle.idp_rows.specs.declared.row.IssuedRow.{IssuedRow}
use Rattle.idp_rows.specs.RoundsOf.{round_behind, round_row, round_rows}
use Rattle.idp_rows.specs.RowsOf.{issued_row, issued_rows}
use Rattle.idp_ledger.specs.Record.{AreRecords, AreRecordsAfter, is_record, next_of}
use Rattle.idp_rows.specs.Record.{of_asker, of_attribute, of_turn}
use Rattle.idp_ledger.specs.Turns.{AreRoundTexts}
use Rattle.idp_ledger.proofs.LawWords.{parts}
use Rattle.idp_rows.proofs.StandingRows.{first_fresh}
use Rattle.std.specs.Option.{option_to_list}

-- ---- one record

numbered_id : (number : ℕ) (id : List ℕ) → has_number number id ≡ true → id ≢ []
unfolding has_number
numbered_id number id has none =
    let same : [] ≡ number_text number = sym (ap (take 17) none) ∙ (bytes_eq-Decides (take 17 id) (number_text number)).0 has in
    cc

begun_texts : (before : List IdpRecord) (r : Round) → is_record before (kinds.Round r) ≡ true → AreRoundTexts (round_row r)
begun_texts before r is =
    let p = parts before (kinds.Round r) is in
    let rest = flat_map of_turn r.turns ++ r.cookies in
    let one = and_parts (is_xml_text r.message) _ p.texts in
    let two = and_parts (is_xml_text r.request) (list_all is_xml_text (of_asker r.asker ++ rest)) one.1 in
    let three = and_parts (list_all is_xml_text (of_asker r.asker)) (list_all is_xml_text rest)
    (sym (list_all-append is_xml_text (of_asker r.asker) rest) ∙ two.1) in
    let four = and_parts (list_all is_xml_text (flat_map of_turn r.turns)) (list_all is_xml_text r.cookies)
    (sym (list_all-append is_xml_text (flat_map of_turn r.turns) r.cookies) ∙ three.1) in
    let fresh = first_fresh (next_of before) (record { number = r.first; id = r.message }) (record { number = r.first + 1; id = r.request } ∷ []) p.fresh in
    record { message = one.0; named = numbered_id r.first r.message fresh.has; asker = three.0; turns = four.0; counted = omega arith }

answered_texts : (now confirmed : Bool) (next : Option (List ℕ)) (row : RoundRow) → AreRoundTexts row → AreRoundTexts (answered_if now confirmed next row)
answered_texts true true next row t = record { message = t.message; named = t.named; asker = t.asker; turns = t.turns; counted = omega (arith, t.counted) }
answered_texts true false next row t = record { message = t.message; named = t.named; asker = t.asker; turns = t.turns; counted = omega (arith, t.counted) }
answered_texts false confirmed next row t = t

behind_texts : (row : RoundRow) (later : List IdpRecord) → AreRoundTexts row → AreRoundTexts (round_behind row later)
behind_texts row [] t = t
behind_texts row (kinds.Told r ∷ later) t =
    behind_texts (answered_if (waits_for r.request row) r.confirmed r.next row) later (answered_texts (waits_for r.request row) r.confirmed r.next row t)
behind_texts row (other ∷ later) t = behind_texts row later t

-- ---- each row

here_or_later : (P : RoundRow → Type 0) (rows : List RoundRow) (first row : RoundRow) (k : ℕ) → P first → ((k : ℕ) → slice_get rows k ≡ Some row → P row)
    → slice_get (first ∷ rows) k ≡ Some row → P row
here_or_later P rows first row zero here later there = let same : first ≡ row = cc in subst P same here
here_or_later P rows first row (suc k) here later there = later k there

rounds_after : (before later : List IdpRecord) → AreRecordsAfter before later → (k : ℕ) (row : RoundRow) → slice_get (round_rows later) k ≡ Some row → AreRoundTexts row
rounds_after before [] are k row there = absurd (cc)
rounds_after before (kinds.Pending r ∷ later) are k row there = rounds_after (before ++ kinds.Pending r ∷ []) later are.1 k row there
rounds_after before (kinds.Issued r ∷ later) are k row there = rounds_after (before ++ kinds.Issued r ∷ []) later are.1 k row there
rounds_after before (kinds.Ended r ∷ later) are k row there = rounds_after (before ++ kinds.Ended r ∷ []) later are.1 k row there
rounds_after before (kinds.Left r ∷ later) are k row there = rounds_after (before ++ kinds.Left r ∷ []) later are.1 k row there
rounds_after before (kinds.Confirmed r ∷ later) are k row there = rounds_after (before ++ kinds.Confirmed r ∷ []) later are.1 k row there
rounds_after before (kinds.Spoke r ∷ later) are k row there = rounds_after (before ++ kinds.Spoke r ∷ []) later are.1 k row there
rounds_after before (kinds.Round r ∷ later) are k row there =
    here_or_later AreRoundTexts (round_rows later) (round_behind (round_row r) later) row k (behind_texts (round_row r) later (begun_texts before r are.0))
    (λ k there. rounds_after (before ++ kinds.Round r ∷ []) later are.1 k row there) there
rounds_after before (kinds.Told r ∷ later) are k row there = rounds_after (before ++ kinds.Told r ∷ []) later are.1 k row there

pub round_texts : (records : List IdpRecord) → AreRecords records → (k : ℕ) (row : RoundRow) → slice_get (round_rows records) k ≡ Some row → AreRoundTexts row
round_texts records are k row there = rounds_after [] records are k row there

-- ---- what was issued

abbrev pub is_part_xml : IssuedRow → Bool
is_part_xml row = is_xml_text row.peer && is_xml_text row.user && is_xml_text row.index

issued_part : (before : List IdpRecord) (r : Issued) → is_record before (kinds.Issued r) ≡ true → is_part_xml (issued_row r) ≡ true
issued_part before r is =
    let p = parts before (kinds.Issued r) is in
    let one = and_parts (is_xml_text r.cookie) _ p.texts in
    let two = and_parts (is_xml_text r.index) _ one.1 in
    let three = and_parts (is_xml_text r.assertion) _ two.1 in
    let four = and_parts (is_xml_text r.message) _ three.1 in
    let five = and_parts (is_xml_text r.user) _ four.1 in
    let six = and_parts (is_xml_text r.peer) (list_all is_xml_text (r.consumer ∷ r.request ∷ option_to_list r.pending ++ flat_map of_attribute r.attributes)) five.1 in
    both (is_xml_text r.peer && is_xml_text r.user) (is_xml_text r.index) (both (is_xml_text r.peer) (is_xml_text r.user) six.0 five.0) two.0

parts_after : (before later : List IdpRecord) → AreRecordsAfter before later → list_all is_part_xml (issued_rows later) ≡ true
parts_after before [] are = refl
parts_after before (kinds.Pending r ∷ later) are = parts_after (before ++ kinds.Pending r ∷ []) later are.1
parts_after before (kinds.Issued r ∷ later) are =
    both (is_part_xml (issued_row r)) (list_all is_part_xml (issued_rows later)) (issued_part before r are.0) (parts_after (before ++ kinds.Issued r ∷ []) later are.1)
parts_after before (kinds.Ended r ∷ later) are = parts_after (before ++ kinds.Ended r ∷ []) later are.1
parts_after before (kinds.Left r ∷ later) are = parts_after (before ++ kinds.Left r ∷ []) later are.1
parts_after before (kinds.Confirmed r ∷ later) are = parts_after (before ++ kinds.Confirmed r ∷ []) later are.1
parts_after before (kinds.Spoke r ∷ later) are = parts_after (before ++ kinds.Spoke r ∷ []) later are.1
parts_after before (kinds.Round r ∷ later) are = parts_after (before ++ kinds.Round r ∷ []) later are.1
parts_after before (kinds.Told r ∷ later) are = parts_after (before ++ kinds.Told r ∷ []) later are.1

pub parts_allowed : (records : List IdpRecord) → AreRecords records → list_all is_part_xml (issued_rows records) ≡ true
parts_allowed records are = parts_after [] records are

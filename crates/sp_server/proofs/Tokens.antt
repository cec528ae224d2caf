-- That no two sessions of a ledger have one token: what is found by a token is the row of the record that drew it.
use Rattle.std.specs.Prelude.{Contains, Some, slice_get}
use Rattle.std.specs.List.{find, list_any}
use Rattle.std.proofs.Common.{◌≡◌, ℕ, zero, suc, ◌<◌, max, Bool, true, false, cond, ◌&&◌, not, List, [], ◌∷◌, ◌++◌}
use Rattle.std.proofs.Common.{bytes_eq, length, refl, sym, subst, ap, ◌∙◌, arith}
use Rattle.std.proofs.lemmas.Bool.{and_parts, false_from_ne_true, lt-ltb}
use Rattle.std.proofs.lemmas.Option.{slice_get_read}
use Rattle.ledger_records.specs.declared.sp_record.Opened.{Opened as OpenedRecord}
use Rattle.ledger_records.specs.declared.sp_record.SpRecord.{SpRecord}
use Rattle.ledger_records.specs.declared.sp_record.SpRecord.TheVariants as kinds
use Rattle.ledger_rules.specs.Numbers.{has_number}
use Rattle.record_ledger.proofs.Numbers.{IsNumbered, all_fresh, numbered_above, one_number}
use Rattle.record_ledger.proofs.Words.{same_text, text_itself}
use Rattle.request_ledger.specs.Record.{AreRecords, AreRecordsAfter, drawn, next_of}
use Rattle.request_ledger.specs.RowsOf.{closes, opened_row, opened_rows}
use Rattle.request_ledger.proofs.LawNumbers.{next_push}
use Rattle.request_ledger.proofs.LawWords.{parts}
use Rattle.request_rows.specs.declared.row.OpenedRow.{OpenedRow}
use Rattle.request_rows.specs.Rows.{session_row, visible}

-- ---- numbers

-- what was drawn behind one record more was drawn behind those before it
behind_more : (before : List SpRecord) (r : SpRecord) (text : List ℕ) → IsNumbered (next_of (before ++ r ∷ [])) text
    → IsNumbered (next_of before) text
behind_more before r text =
    numbered_above (next_of (before ++ r ∷ [])) (next_of before) text (omega (arith, next_push before r))

own_number : (before : List SpRecord) (x : OpenedRecord) (later : List SpRecord)
    → AreRecordsAfter before (kinds.Opened x ∷ later) → IsNumbered (next_of before) x.token
own_number before x later are =
    let fresh = (all_fresh (next_of before) (drawn (kinds.Opened x)) (parts before (kinds.Opened x) are.0).fresh).0 in
    record { number = x.first; greater = fresh.greater; small = fresh.small; begins = fresh.begins }

-- the token of each row was drawn behind the records before it
row_number : (before later : List SpRecord) → AreRecordsAfter before later → (place : ℕ) (row : OpenedRow)
    → slice_get (opened_rows later) place ≡ Some row → IsNumbered (next_of before) row.token
row_number before [] are place row is = absurd (cc)
row_number before (kinds.Opened x ∷ later) are zero row is =
    let its : opened_row (list_any (closes x.token) later) x ≡ row = cc in
    subst (λ (o : OpenedRow). IsNumbered (next_of before) o.token) its (own_number before x later are)
row_number before (kinds.Opened x ∷ later) are (suc place) row is =
    behind_more before (kinds.Opened x) row.token
    (row_number (before ++ kinds.Opened x ∷ []) later are.1 place row is)
row_number before (other ∷ later) are place row is =
    behind_more before other row.token (row_number (before ++ other ∷ []) later are.1 place row is)

-- the token of a record is that of no row behind it
other_token : (before : List SpRecord) (x : OpenedRecord) (later : List SpRecord) (token : List ℕ)
    → AreRecordsAfter before (kinds.Opened x ∷ later) → IsNumbered (next_of (before ++ kinds.Opened x ∷ [])) token
    → x.token ≡ token → ⊥
other_token before x later token are has same =
    let fresh = (all_fresh (next_of before) (drawn (kinds.Opened x)) (parts before (kinds.Opened x) are.0).fresh).0 in
    let begins = subst (λ (text : List ℕ). has_number x.first text ≡ true) same fresh.begins in
    let one = one_number x.first has.number token fresh.small has.small begins has.begins in
    let grown = next_push before (kinds.Opened x) in
    omega (arith, one, grown, has.greater)

-- ---- what is found

module _ (test : OpenedRow → Bool) (row : OpenedRow) (passes : test row ≡ true)
    (only : (other : OpenedRow) → test other ≡ true → other.token ≡ row.token) where
  found_own : (before later : List SpRecord) → AreRecordsAfter before later → (place : ℕ)
      → slice_get (opened_rows later) place ≡ Some row → find test (opened_rows later) ≡ Some row
  found_own before [] are place is = absurd (cc)
  found_own before (kinds.Opened x ∷ later) are zero is =
      let head = opened_row (list_any (closes x.token) later) x in
      let its : row ≡ head = cc in
      let passes_it : test head ≡ true = subst (λ (o : OpenedRow). test o ≡ true) its passes in
      ap (λ (b : Bool). cond b (Some head) (find test (opened_rows later))) passes_it ∙ is
  found_own before (kinds.Opened x ∷ later) are (suc place) is =
      let head = opened_row (list_any (closes x.token) later) x in
      let has = row_number (before ++ kinds.Opened x ∷ []) later are.1 place row is in
      let fails : test head ≡ false =
      false_from_ne_true (test head) (λ yes. other_token before x later row.token are has (only head yes)) in
      ap (λ (b : Bool). cond b (Some head) (find test (opened_rows later))) fails
      ∙ found_own (before ++ kinds.Opened x ∷ []) later are.1 place is
  found_own before (other ∷ later) are place is = found_own (before ++ other ∷ []) later are.1 place is

-- a session that is not closed and has not ended is the one that is found by its token
pub found_by_token : (records : List SpRecord) (r : OpenedRecord) (now horizon : ℕ) → AreRecords records
    → Contains (opened_rows records) (opened_row false r) → now < r.until → horizon < r.until
    → session_row (opened_rows records) r.token now horizon ≡ Some (opened_row false r)
found_by_token records r now horizon are there less also =
    let rows = opened_rows records in
    let own = opened_row false r in
    let at = slice_get_read rows (length rows) there.0 own refl there.1 (sym there.2) in
    let seen = lt-ltb (max now horizon) r.until (omega (arith, less, also)) in
    found_own (λ row. bytes_eq row.token r.token && not row.closed && visible row.until now horizon) own
    (λ i. text_itself r.token i && true && seen i)
    (λ other yes.
    let first = and_parts (bytes_eq other.token r.token && not other.closed) _ yes in
    let second = and_parts (bytes_eq other.token r.token) (not other.closed) first.0 in
    same_text other.token r.token second.0)
    [] records are there.0 at

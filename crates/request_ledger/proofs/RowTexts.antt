-- The texts of rows, and the rows that records name.
use Rattle.std.specs.Prelude.{IsSome}
use Rattle.std.proofs.Common.{◌≡◌, ℕ, ◌+◌, Bool, true, false, cond, not, ◌&&◌, ◌||◌, List, [], ◌∷◌, ◌++◌, map, Some, refl, sym, ◌∙◌, subst}
use Rattle.std.specs.List.{list_all, list_any, filter}
use Rattle.std.specs.Str.{bytes_eq}
use Rattle.std.proofs.lemmas.Bool.{and_parts, or_left, or_right}
use Rattle.std.proofs.lemmas.List.{append_assoc}
use Rattle.std.proofs.lemmas.List.Folds.{list_any-append}
use Rattle.std.proofs.lemmas.Slice.Eq.{bytes_eq-Decides}
use Rattle.ledger_records.specs.declared.sp_record.SpRecord.{SpRecord}
use Rattle.ledger_records.specs.declared.sp_record.SpRecord.TheVariants as kinds
use Rattle.ledger_rules.specs.Numbers.{are_fresh, is_xml_text}
use Rattle.ledger_rules.proofs.Passing.{found, any_more, any_all}
use Rattle.request_rows.specs.declared.row.AskedRow.{AskedRow}
use Rattle.request_rows.specs.declared.row.OpenedRow.{OpenedRow}
use Rattle.request_rows.specs.declared.row.LeftRow.{LeftRow}
use Rattle.request_rows.specs.Rows.{visible, asked_row, session_row}
use Rattle.request_ledger.specs.RowsOf.{opened_rows, left_rows, rows_of, is_among}
use Rattle.request_ledger.specs.Record.{drawn, texts, moment_of, LAST, is_asked, is_open, is_waiting, is_free, next_of, is_record, AreRecords, AreRecordsAfter}
use Rattle.request_ledger.specs.Drafts.{is_empty, is_listed, is_ending, ending, is_waiting_now}
use Rattle.request_ledger.proofs.RowLaws.{is_record-is}
use Rattle.record_ledger.proofs.Draftable.{both}

-- ---- the texts of rows are those of records

texts_of_next : (before : List SpRecord) (r : SpRecord) → is_record before r ≡ true → list_all is_xml_text (texts r) ≡ true
texts_of_next before r is =
    let next = sym (is_record-is before r) ∙ is in
    let front = and_parts (is_free (rows_of before) r && are_fresh (next_of before) (drawn r) && list_all is_xml_text (texts r)) (Rattle.std.proofs.Common.nat_le (moment_of r) LAST) next in
    (and_parts (is_free (rows_of before) r && are_fresh (next_of before) (drawn r)) (list_all is_xml_text (texts r)) front.0).1

abbrev pub has_token : OpenedRow → Bool
has_token row = is_xml_text row.token

abbrev pub has_request : LeftRow → Bool
has_request row = is_xml_text row.request

tokens_after : (before later : List SpRecord) → AreRecordsAfter before later → list_all has_token (opened_rows later) ≡ true
tokens_after before [] are = refl
tokens_after before (kinds.Asked r ∷ later) are = tokens_after (before ++ kinds.Asked r ∷ []) later are.1
tokens_after before (kinds.Opened r ∷ later) are =
    let allowed = texts_of_next before (kinds.Opened r) are.0 in
    let second = (and_parts (is_xml_text r.request) _ allowed).1 in
    let third = (and_parts (is_xml_text r.issuer) _ second).1 in
    let fourth = (and_parts (is_xml_text r.assertion) _ third).1 in
    let token = (and_parts (is_xml_text r.token) _ fourth).0 in
    both (is_xml_text r.token) (list_all has_token (opened_rows later)) token (tokens_after (before ++ kinds.Opened r ∷ []) later are.1)
tokens_after before (kinds.Left r ∷ later) are = tokens_after (before ++ kinds.Left r ∷ []) later are.1
tokens_after before (kinds.Ended r ∷ later) are = tokens_after (before ++ kinds.Ended r ∷ []) later are.1
tokens_after before (kinds.Confirmed r ∷ later) are = tokens_after (before ++ kinds.Confirmed r ∷ []) later are.1

pub tokens_allowed : (records : List SpRecord) → AreRecords records → list_all has_token (opened_rows records) ≡ true
tokens_allowed records are = tokens_after [] records are

requests_after : (before later : List SpRecord) → AreRecordsAfter before later → list_all has_request (left_rows later) ≡ true
requests_after before [] are = refl
requests_after before (kinds.Asked r ∷ later) are = requests_after (before ++ kinds.Asked r ∷ []) later are.1
requests_after before (kinds.Opened r ∷ later) are = requests_after (before ++ kinds.Opened r ∷ []) later are.1
requests_after before (kinds.Left r ∷ later) are =
    let allowed = texts_of_next before (kinds.Left r) are.0 in
    let second = (and_parts (is_xml_text r.token) _ allowed).1 in
    let request = (and_parts (is_xml_text r.request) _ second).0 in
    both (is_xml_text r.request) (list_all has_request (left_rows later)) request (requests_after (before ++ kinds.Left r ∷ []) later are.1)
requests_after before (kinds.Ended r ∷ later) are = requests_after (before ++ kinds.Ended r ∷ []) later are.1
requests_after before (kinds.Confirmed r ∷ later) are = requests_after (before ++ kinds.Confirmed r ∷ []) later are.1

pub requests_allowed : (records : List SpRecord) → AreRecords records → list_all has_request (left_rows records) ≡ true
requests_allowed records are = requests_after [] records are

-- ---- a request that was asked

pub is_asked_now : (asked : List AskedRow) (request : List ℕ) (now horizon : ℕ) → IsSome (asked_row asked request now horizon) → is_asked asked request ≡ true
is_asked_now asked request now horizon some =
    any_more (λ (row : AskedRow). bytes_eq row.request request && visible row.until now horizon) (λ (row : AskedRow). bytes_eq row.request request) asked
    (λ row passes. (and_parts (bytes_eq row.request request) (visible row.until now horizon) passes).0)
    (found (λ (row : AskedRow). bytes_eq row.request request && visible row.until now horizon) asked some)

-- ---- a session that is live

abbrev is_live : List ℕ → ℕ → ℕ → OpenedRow → Bool
is_live token now horizon row = bytes_eq row.token token && not row.closed && visible row.until now horizon

pub live_is_open : (opened : List OpenedRow) (token : List ℕ) (now horizon : ℕ) → IsSome (session_row opened token now horizon) → is_open opened token ≡ true
live_is_open opened token now horizon some =
    any_more (is_live token now horizon) (λ (row : OpenedRow). bytes_eq row.token token && not row.closed) opened
    (λ row passes. (and_parts (bytes_eq row.token token && not row.closed) (visible row.until now horizon) passes).0)
    (found (is_live token now horizon) opened some)

pub live_is_allowed : (opened : List OpenedRow) (token : List ℕ) (now horizon : ℕ) → list_all has_token opened ≡ true → IsSome (session_row opened token now horizon) → is_xml_text token ≡ true
live_is_allowed opened token now horizon all some =
    let row = any_all (is_live token now horizon) has_token opened all (found (is_live token now horizon) opened some) in
    let same = (bytes_eq-Decides row.0.token token).0 (and_parts (bytes_eq row.0.token token) (not row.0.closed) (and_parts (bytes_eq row.0.token token && not row.0.closed) (visible row.0.until now horizon) row.1).0).0 in
    subst (λ (t : List ℕ). is_xml_text t ≡ true) same row.2

-- ---- a logout that waits

abbrev waits : List ℕ → ℕ → ℕ → LeftRow → Bool
waits request now horizon row = bytes_eq row.request request && not row.confirmed && visible row.until now horizon

pub waiting_is : (left : List LeftRow) (request : List ℕ) (now horizon : ℕ) → is_waiting_now left request now horizon ≡ true → is_waiting left request ≡ true
waiting_is left request now horizon is =
    any_more (waits request now horizon) (λ (row : LeftRow). bytes_eq row.request request && not row.confirmed) left
    (λ row passes. (and_parts (bytes_eq row.request request && not row.confirmed) (visible row.until now horizon) passes).0) is

pub waiting_is_allowed : (left : List LeftRow) (request : List ℕ) (now horizon : ℕ) → list_all has_request left ≡ true → is_waiting_now left request now horizon ≡ true → is_xml_text request ≡ true
waiting_is_allowed left request now horizon all is =
    let row = any_all (waits request now horizon) has_request left all is in
    let same = (bytes_eq-Decides row.0.request request).0 (and_parts (bytes_eq row.0.request request) (not row.0.confirmed) (and_parts (bytes_eq row.0.request request && not row.0.confirmed) (visible row.0.until now horizon) row.1).0).0 in
    subst (λ (t : List ℕ). is_xml_text t ≡ true) same row.2

-- ---- sessions that are ended

module _ (now horizon : ℕ) (issuer name : List ℕ) (indexes : List (List ℕ)) where
  abbrev ends : OpenedRow → Bool
  ends = is_ending now horizon issuer name indexes

  ends_unclosed : (row : OpenedRow) → ends row ≡ true → not row.closed ≡ true
  ends_unclosed row is =
      let first = and_parts (not row.closed && visible row.until now horizon && bytes_eq row.issuer issuer && bytes_eq row.name name) (is_listed indexes row.index) is in
      let second = and_parts (not row.closed && visible row.until now horizon && bytes_eq row.issuer issuer) (bytes_eq row.name name) first.0 in
      let third = and_parts (not row.closed && visible row.until now horizon) (bytes_eq row.issuer issuer) second.0 in
      (and_parts (not row.closed) (visible row.until now horizon) third.0).0

  open_there : (before rest : List OpenedRow) (row : OpenedRow) → not row.closed ≡ true → is_open (before ++ row ∷ rest) row.token ≡ true
  open_there before rest row unclosed =
      let test : OpenedRow → Bool = λ (r : OpenedRow). bytes_eq r.token row.token && not r.closed in
      let here : test row ≡ true = both (bytes_eq row.token row.token) (not row.closed) ((bytes_eq-Decides row.token row.token).1 refl) unclosed in
      list_any-append test before (row ∷ rest) ∙ or_right (list_any test before) (test row || list_any test rest) (or_left (test row) (list_any test rest) here)

  ends_open : (before rows : List OpenedRow) → list_all (is_open (before ++ rows)) (ending now horizon issuer name indexes rows) ≡ true
  ends_open before [] = refl
  ends_open before (row ∷ rest) =
      let later : list_all (is_open (before ++ row ∷ rest)) (ending now horizon issuer name indexes rest) ≡ true =
      subst (λ (all : List OpenedRow). list_all (is_open all) (ending now horizon issuer name indexes rest) ≡ true) (append_assoc before (row ∷ []) rest) (ends_open (before ++ row ∷ []) rest) in
      by_test (ends row) refl later
    where
      by_test : (b : Bool) → ends row ≡ b → list_all (is_open (before ++ row ∷ rest)) (ending now horizon issuer name indexes rest) ≡ true
          → list_all (is_open (before ++ row ∷ rest)) (map (λ (r : OpenedRow). r.token) (cond b (row ∷ filter ends rest) (filter ends rest))) ≡ true
      by_test true is later = both (is_open (before ++ row ∷ rest) row.token) _ (open_there before rest row (ends_unclosed row is)) later
      by_test false is later = later

  pub ending_open : (opened : List OpenedRow) → list_all (is_open opened) (ending now horizon issuer name indexes opened) ≡ true
  ending_open opened = ends_open [] opened

  pub ending_allowed : (rows : List OpenedRow) → list_all has_token rows ≡ true → list_all is_xml_text (ending now horizon issuer name indexes rows) ≡ true
  ending_allowed [] all = refl
  ending_allowed (row ∷ rest) all =
      let parts = and_parts (has_token row) (list_all has_token rest) all in
      by_test (ends row) parts.0 (ending_allowed rest parts.1)
    where
      by_test : (b : Bool) → has_token row ≡ true → list_all is_xml_text (ending now horizon issuer name indexes rest) ≡ true
          → list_all is_xml_text (map (λ (r : OpenedRow). r.token) (cond b (row ∷ filter ends rest) (filter ends rest))) ≡ true
      by_test true here later = both (is_xml_text row.token) _ here later
      by_test false here later = later

-- an index is listed where it is among those
pub listed_some : (indexes : List (List ℕ)) (index : List ℕ) → (indexes ≡ [] → ⊥) → is_listed indexes (Some index) ≡ is_among index indexes
listed_some [] index some = absurd (some refl)
listed_some (first ∷ others) index some = refl

pub some_texts : (texts : List (List ℕ)) → (texts ≡ [] → ⊥) → is_empty texts ≡ false
some_texts [] some = absurd (some refl)
some_texts (first ∷ others) some = refl

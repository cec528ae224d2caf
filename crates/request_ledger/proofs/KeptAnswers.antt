-- A compaction changes no answer.
use Rattle.std.proofs.Common.{◌≡◌, ℕ, ◌<◌, ◌≤◌, max, nat_lt, Bool, true, ◌&&◌, not, List, [], ◌∷◌, Some, IsSome, is_some, filter, find, map, bytes_eq, sym, ap, ◌∙◌, inl, inr, arith}
use Rattle.std.specs.List.{list_any}
use Rattle.std.proofs.lemmas.Bool.{cases_Bool, false≢true, and_parts, or_cases, or_left, or_right, ltb-true, lt-ltb, cond-false}
use Rattle.ledger_records.specs.declared.sp_record.SpRecord.{SpRecord}
use Rattle.ledger_records.specs.declared.sp_record.SpRecord.TheVariants as kinds
use Rattle.request_rows.specs.declared.row.AskedRow.{AskedRow}
use Rattle.request_rows.specs.declared.row.OpenedRow.{OpenedRow}
use Rattle.request_rows.specs.declared.row.LeftRow.{LeftRow}
use Rattle.request_rows.specs.Rows.{visible, asked_row, is_spent, is_seen, session_row}
use Rattle.request_ledger.specs.Naming.{has_visible}
use Rattle.record_ledger.proofs.Words.{each_weaker}
use Rattle.ledger_rules.proofs.Counted.{find_same, any_same_seen, filter_same}
use Rattle.record_ledger.proofs.KeptFlags.{are_marked}
use Rattle.request_ledger.specs.RowsOf.{asked_rows, opened_rows, left_rows}
use Rattle.request_ledger.specs.Record.{AreRecords, request_rules}
use Rattle.request_ledger.specs.Ledger.{Held}
use Rattle.request_ledger.specs.Drafts.{is_listed, is_ending, ending, is_waiting_now}
use Rattle.request_ledger.specs.Compacting.{AreKept, IsCompacted}
use Rattle.request_ledger.specs.Laws.{CompactionsChangeNoAnswer}
use Rattle.request_ledger.proofs.LawWords.{asked_any, spent_any}
use Rattle.request_ledger.proofs.KeptMarks.{Marked}
use Rattle.request_ledger.proofs.KeptSpent.{spent_alike}
use Rattle.request_ledger.proofs.KeptRows.{asked_seen, opened_seen, left_seen, asked_alike, opened_alike, left_alike}

-- what is visible at a moment was visible before
visible_before : (until now later horizon : ℕ) → now ≤ later → visible until later horizon ≡ true → visible until now horizon ≡ true
visible_before until now later horizon first seen =
    let above : max later horizon < until = ltb-true (max later horizon) until seen in
    lt-ltb (max now horizon) until (omega arith)

had_visible : (now later horizon : ℕ) (r : SpRecord) → now ≤ later → has_visible later horizon r ≡ true → has_visible now horizon r ≡ true
had_visible now later horizon (kinds.Asked r) first seen = visible_before r.until now later horizon first seen
had_visible now later horizon (kinds.Opened r) first seen =
    elim (or_cases (visible r.until later horizon) (visible r.assertion_until later horizon) seen) [
      | inl session ↦ or_left (visible r.until now horizon) (visible r.assertion_until now horizon) (visible_before r.until now later horizon first session)
      | inr assertion ↦
          or_right (visible r.until now horizon) (visible r.assertion_until now horizon)
          (visible_before r.assertion_until now later horizon first assertion)
    ]
had_visible now later horizon (kinds.Left r) first seen = visible_before r.until now later horizon first seen
had_visible now later horizon other first seen = seen

-- the rows that count are alike
record SameSeen (later horizon : ℕ) (records some : List SpRecord) : Type 0 where
  asked : filter (asked_seen later horizon) (asked_rows some) ≡ filter (asked_seen later horizon) (asked_rows records)
  opened : filter (opened_seen later horizon) (opened_rows some) ≡ filter (opened_seen later horizon) (opened_rows records)
  left : filter (left_seen later horizon) (left_rows some) ≡ filter (left_seen later horizon) (left_rows records)

same_seen : (now later horizon : ℕ) (records some : List SpRecord) → now ≤ later → AreKept now horizon records some → SameSeen later horizon records some
same_seen now later horizon records some first are_kept =
    let m = are_marked request_rules now horizon records some are_kept in
    let keeps = each_weaker (λ (k : Marked). has_visible now horizon k.1 ≡ true → k.0 ≡ true) (λ (k : Marked). has_visible later horizon k.1 ≡ true → k.0 ≡ true)
    (λ k here seen. here (had_visible now later horizon k.1 first seen)) m.marks m.visible in
    record {
      asked = ap (λ l. filter (asked_seen later horizon) (asked_rows l)) (sym m.are_kept) ∙ asked_alike later horizon m.marks keeps
          ∙ ap (λ l. filter (asked_seen later horizon) (asked_rows l)) m.are_all;
      opened = ap (λ l. filter (opened_seen later horizon) (opened_rows l)) (sym m.are_kept) ∙ opened_alike later horizon m.marks keeps m.closed
          ∙ ap (λ l. filter (opened_seen later horizon) (opened_rows l)) m.are_all;
      left = ap (λ l. filter (left_seen later horizon) (left_rows l)) (sym m.are_kept) ∙ left_alike later horizon m.marks keeps m.closed
          ∙ ap (λ l. filter (left_seen later horizon) (left_rows l)) m.are_all;
    }

found_asked : (rows : List AskedRow) (request : List ℕ) (now horizon : ℕ) → IsSome (asked_row rows request now horizon)
    → list_any (λ row. bytes_eq row.request request) rows ≡ true
found_asked [] request now horizon found = absurd (false≢true found)
found_asked (r ∷ rows) request now horizon found =
    let same = bytes_eq r.request request in
    let rest = list_any (λ (row : AskedRow). bytes_eq row.request request) rows in
    elim (cases_Bool (same && visible r.until now horizon)) [
      | inl here ↦ or_left same rest (and_parts same (visible r.until now horizon) here).0
      | inr none ↦
          or_right same rest
          (found_asked rows request now horizon
          (sym (ap (is_some {T = AskedRow}) (cond-false (same && visible r.until now horizon) (Some r) (asked_row rows request now horizon) none)) ∙ found))
    ]

second_of : (a b c d e : Bool) → (a && b && c && d && e) ≡ true → b ≡ true
second_of a b c d e is =
    (and_parts a b (and_parts (a && b) c (and_parts (a && b && c) d (and_parts (a && b && c && d) e is).0).0).0).1

module _ (now later : ℕ) (old new : Held) (are : AreRecords old.records) (made : IsCompacted now old new) (first : now ≤ later) where
  same : SameSeen later old.header.horizon old.records new.records
  same = same_seen now later old.header.horizon old.records new.records first made.records

  latest : max later new.header.horizon ≡ max later old.header.horizon
  latest = omega (arith, made.horizon)

  asked_same : (request : List ℕ) → asked_row (asked_rows new.records) request later new.header.horizon ≡ asked_row (asked_rows old.records) request later old.header.horizon
  asked_same request =
      ap (λ m. find (λ (row : AskedRow). bytes_eq row.request request && nat_lt m row.until) (asked_rows new.records)) latest
      ∙ find_same (λ (row : AskedRow). bytes_eq row.request request && visible row.until later old.header.horizon)
      (asked_seen later old.header.horizon)
      (λ row is. (and_parts (bytes_eq row.request request) (visible row.until later old.header.horizon) is).1)
      (asked_rows new.records) (asked_rows old.records) same.asked

  spent_same : (request : List ℕ) → IsSome (asked_row (asked_rows new.records) request later new.header.horizon)
      → is_spent (opened_rows new.records) request ≡ is_spent (opened_rows old.records) request
  spent_same request found =
      let there = sym (asked_any new.records request) ∙ found_asked (asked_rows new.records) request later new.header.horizon found in
      spent_any new.records request
      ∙ spent_alike now old.header.horizon old.records new.records are made.records request there
      ∙ sym (spent_any old.records request)

  seen_same : (issuer assertion : List ℕ) → is_seen (opened_rows new.records) issuer assertion later new.header.horizon ≡ is_seen (opened_rows old.records) issuer assertion later old.header.horizon
  seen_same issuer assertion =
      ap (λ m. list_any (λ (row : OpenedRow). bytes_eq row.issuer issuer && bytes_eq row.assertion assertion && nat_lt m row.assertion_until) (opened_rows new.records)) latest
      ∙ any_same_seen (λ (row : OpenedRow). bytes_eq row.issuer issuer && bytes_eq row.assertion assertion && visible row.assertion_until later old.header.horizon)
      (opened_seen later old.header.horizon)
      (λ row is.
      or_right (visible row.until later old.header.horizon) (visible row.assertion_until later old.header.horizon)
      (and_parts (bytes_eq row.issuer issuer && bytes_eq row.assertion assertion) (visible row.assertion_until later old.header.horizon) is).1)
      (opened_rows new.records) (opened_rows old.records) same.opened

  session_same : (token : List ℕ) → session_row (opened_rows new.records) token later new.header.horizon ≡ session_row (opened_rows old.records) token later old.header.horizon
  session_same token =
      ap (λ m. find (λ (row : OpenedRow). bytes_eq row.token token && not row.closed && nat_lt m row.until) (opened_rows new.records)) latest
      ∙ find_same (λ (row : OpenedRow). bytes_eq row.token token && not row.closed && visible row.until later old.header.horizon)
      (opened_seen later old.header.horizon)
      (λ row is.
      or_left (visible row.until later old.header.horizon) (visible row.assertion_until later old.header.horizon)
      (and_parts (bytes_eq row.token token && not row.closed) (visible row.until later old.header.horizon) is).1)
      (opened_rows new.records) (opened_rows old.records) same.opened

  ending_same : (issuer name : List ℕ) (indexes : List (List ℕ))
      → ending later new.header.horizon issuer name indexes (opened_rows new.records) ≡ ending later old.header.horizon issuer name indexes (opened_rows old.records)
  ending_same issuer name indexes =
      ap (λ m. map (λ (row : OpenedRow). row.token) (filter (λ (row : OpenedRow). not row.closed && nat_lt m row.until && bytes_eq row.issuer issuer && bytes_eq row.name name && is_listed indexes row.index) (opened_rows new.records))) latest
      ∙ ap (map (λ (row : OpenedRow). row.token))
      (filter_same (is_ending later old.header.horizon issuer name indexes)
      (opened_seen later old.header.horizon)
      (λ row is.
      or_left (visible row.until later old.header.horizon) (visible row.assertion_until later old.header.horizon)
      (second_of (not row.closed) (visible row.until later old.header.horizon) (bytes_eq row.issuer issuer) (bytes_eq row.name name) (is_listed indexes row.index) is))
      (opened_rows new.records) (opened_rows old.records) same.opened)

  waiting_same : (request : List ℕ) → is_waiting_now (left_rows new.records) request later new.header.horizon ≡ is_waiting_now (left_rows old.records) request later old.header.horizon
  waiting_same request =
      ap (λ m. list_any (λ (row : LeftRow). bytes_eq row.request request && not row.confirmed && nat_lt m row.until) (left_rows new.records)) latest
      ∙ any_same_seen (λ (row : LeftRow). bytes_eq row.request request && not row.confirmed && visible row.until later old.header.horizon)
      (left_seen later old.header.horizon)
      (λ row is. (and_parts (bytes_eq row.request request && not row.confirmed) (visible row.until later old.header.horizon) is).1)
      (left_rows new.records) (left_rows old.records) same.left

pub compactions_change_no_answer : CompactionsChangeNoAnswer
compactions_change_no_answer now later old new are made first = record {
  asked = asked_same now later old new are made first;
  spent = spent_same now later old new are made first;
  seen = seen_same now later old new are made first;
  session = session_same now later old new are made first;
  ending = ending_same now later old new are made first;
  waiting = waiting_same now later old new are made first;
}

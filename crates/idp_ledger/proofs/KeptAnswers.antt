-- A compaction changes no answer.
use Rattle.std.proofs.Common.{◌≡◌, ℕ, ◌<◌, ◌≤◌, max, nat_lt, Bool, true, false, ◌&&◌, ◌||◌, not, cond, List, [], ◌∷◌, Option, None, Some, filter, find, map, bytes_eq, sym, ap, ◌∙◌, subst, inl, inr, refl, arith}
use Rattle.std.specs.List.{list_any}
use Rattle.std.proofs.lemmas.Bool.{cases_Bool, false≢true, and_parts, or_cases, or_left, or_right, ltb-true, lt-ltb}
use Rattle.std.specs.Option.{IsSome}
use Rattle.std.proofs.lemmas.Option.{same_Some}
use Rattle.ledger_records.specs.declared.idp_record.IdpRecord.{IdpRecord}
use Rattle.ledger_records.specs.declared.idp_record.IdpRecord.TheVariants as kinds
use Rattle.idp_ledger.specs.Naming.{has_visible, has_session_visible}
use Rattle.record_ledger.proofs.Words.{each_weaker, same_text}
use Rattle.record_ledger.specs.Marks.{all, kept}
use Rattle.ledger_rules.proofs.Counted.{find_same, any_same_seen, filter_same}
use Rattle.record_ledger.proofs.KeptFlags.{are_marked}
use Rattle.idp_rows.specs.declared.row.PendingRow.{PendingRow}
use Rattle.idp_rows.specs.declared.row.IssuedRow.{IssuedRow}
use Rattle.idp_rows.specs.declared.row.SessionRow.{SessionRow}
use Rattle.idp_rows.specs.declared.row.LeftRow.{LeftRow}
use Rattle.round_rows.specs.declared.row.RoundRow.{RoundRow}
use Rattle.round_rows.specs.Rounds.{waits_for, is_turn_of, round_found, turn_found}
use Rattle.idp_rows.specs.RoundsOf.{round_rows}
use Rattle.idp_rows.specs.Finding.{visible, pending_found, session_found, is_waiting_now, is_listed, is_ending, ending, is_partial, has_issued, last_peer}
use Rattle.idp_rows.specs.RowsOf.{pending_rows, issued_rows, session_rows, left_rows, rows_of}
use Rattle.idp_ledger.specs.Record.{AreRecords, idp_rules}
use Rattle.idp_ledger.specs.Ledger.{Held}
use Rattle.record_ledger.specs.Compacting.{AreKept, IsCompacted}
use Rattle.idp_ledger.specs.Laws.{CompactionsChangeNoAnswer}
use Rattle.idp_ledger.proofs.LawWords.{Each}
use Rattle.idp_ledger.proofs.KeptMarks.{Marked, AreClosed}
use Rattle.idp_ledger.proofs.KeptIssues.{issues_alike, peers_alike}
use Rattle.idp_ledger.proofs.KeptParts.{parts_alike}
use Rattle.idp_ledger.proofs.KeptRounds.{round_seen, rounds_alike}
use Rattle.idp_ledger.proofs.KeptRows.{pending_seen, session_seen, left_seen, pendings_alike, sessions_alike, lefts_alike}

-- what is visible at a moment was visible before
visible_before : (until now later horizon : ℕ) → now ≤ later → visible until later horizon ≡ true → visible until now horizon ≡ true
visible_before until now later horizon first seen =
    let above : max later horizon < until = ltb-true (max later horizon) until seen in
    lt-ltb (max now horizon) until (omega arith)

session_before : (p : Option (List ℕ)) (until now later horizon : ℕ) → now ≤ later → has_session_visible later horizon p until ≡ true → has_session_visible now horizon p until ≡ true
session_before None until now later horizon first seen = seen
session_before (Some pending) until now later horizon first seen = visible_before until now later horizon first seen

had_visible : (now later horizon : ℕ) (r : IdpRecord) → now ≤ later → has_visible later horizon r ≡ true → has_visible now horizon r ≡ true
had_visible now later horizon (kinds.Pending r) first seen = visible_before r.until now later horizon first seen
had_visible now later horizon (kinds.Issued r) first seen =
    elim (or_cases (visible r.until later horizon) (has_session_visible later horizon r.pending r.session_end) seen) [
      | inl issue ↦ or_left (visible r.until now horizon) (has_session_visible now horizon r.pending r.session_end) (visible_before r.until now later horizon first issue)
      | inr session ↦
          or_right (visible r.until now horizon) (has_session_visible now horizon r.pending r.session_end)
          (session_before r.pending r.session_end now later horizon first session)
    ]
had_visible now later horizon (kinds.Left r) first seen = visible_before r.until now later horizon first seen
had_visible now later horizon (kinds.Round r) first seen = visible_before r.until now later horizon first seen
had_visible now later horizon other first seen = seen

-- the rows that count are alike
record SameSeen (later horizon : ℕ) (records some : List IdpRecord) : Type 0 where
  pendings : filter (pending_seen later horizon) (pending_rows some) ≡ filter (pending_seen later horizon) (pending_rows records)
  sessions : filter (session_seen later horizon) (session_rows some) ≡ filter (session_seen later horizon) (session_rows records)
  lefts : filter (left_seen later horizon) (left_rows some) ≡ filter (left_seen later horizon) (left_rows records)
  rounds : filter (round_seen later horizon) (round_rows some) ≡ filter (round_seen later horizon) (round_rows records)

same_seen : (now later horizon : ℕ) (records some : List IdpRecord) → now ≤ later → AreKept idp_rules now horizon records some → SameSeen later horizon records some
same_seen now later horizon records some first are_kept =
    let m = are_marked idp_rules now horizon records some are_kept in
    let keeps = each_weaker (λ (k : Marked). has_visible now horizon k.1 ≡ true → k.0 ≡ true) (λ (k : Marked). has_visible later horizon k.1 ≡ true → k.0 ≡ true)
    (λ k here seen. here (had_visible now later horizon k.1 first seen)) m.marks m.visible in
    record {
      pendings = ap (λ l. filter (pending_seen later horizon) (pending_rows l)) (sym m.are_kept) ∙ pendings_alike later horizon m.marks keeps m.closed
          ∙ ap (λ l. filter (pending_seen later horizon) (pending_rows l)) m.are_all;
      sessions = ap (λ l. filter (session_seen later horizon) (session_rows l)) (sym m.are_kept) ∙ sessions_alike later horizon m.marks keeps m.closed
          ∙ ap (λ l. filter (session_seen later horizon) (session_rows l)) m.are_all;
      lefts = ap (λ l. filter (left_seen later horizon) (left_rows l)) (sym m.are_kept) ∙ lefts_alike later horizon m.marks keeps m.closed
          ∙ ap (λ l. filter (left_seen later horizon) (left_rows l)) m.are_all;
      rounds = ap (λ l. filter (round_seen later horizon) (round_rows l)) (sym m.are_kept) ∙ rounds_alike later horizon m.marks keeps m.closed
          ∙ ap (λ l. filter (round_seen later horizon) (round_rows l)) m.are_all;
    }

filter_each : {X : Type 0} (test other : X → Bool) (xs : List X) → Each (λ x. test x ≡ other x) xs → filter test xs ≡ filter other xs
filter_each test other [] each = refl
filter_each test other (x ∷ xs) each = λ i. cond (each.0 i) (x ∷ filter_each test other xs each.1 i) (filter_each test other xs each.1 i)

second_of : (a b c d e : Bool) → (a && b && c && d && e) ≡ true → b ≡ true
second_of a b c d e is =
    (and_parts a b (and_parts (a && b) c (and_parts (a && b && c) d (and_parts (a && b && c && d) e is).0).0).0).1

any_each : {X : Type 0} (test other : X → Bool) (xs : List X) → Each (λ x. test x ≡ other x) xs → list_any test xs ≡ list_any other xs
any_each test other [] each = refl
any_each test other (x ∷ xs) each = λ i. each.0 i || any_each test other xs each.1 i

-- what is found of a list passes the test, and has what each has
found_has : {X : Type 0} (P : X → Type 0) (test : X → Bool) (xs : List X) (x : X) → Each P xs → find test xs ≡ Some x → (test x ≡ true) × P x
found_has P test [] x each found = absurd (cc)
found_has P test (y ∷ xs) x each found = elim (cases_Bool (test y)) [
  | inl here ↦
      let same : y ≡ x = same_Some y x (sym (ap (λ b. cond b (Some y) (find test xs)) here) ∙ found) in
      subst (λ z. (test z ≡ true) × P z) same (here, each.0)
  | inr later ↦ found_has P test xs x each.1 (sym (ap (λ b. cond b (Some y) (find test xs)) later) ∙ found)
]

-- what holds of what was issued in the sessions that are kept, among all and among what is kept
same_where : (now horizon : ℕ) (records some : List IdpRecord) (P : List IssuedRow → List IssuedRow → List ℕ → Type 0) → AreRecords records → AreKept idp_rules now horizon records some
    → ((marks : List Marked) → AreRecords (all marks) → AreClosed marks → Each (λ (row : SessionRow). P (issued_rows (kept marks)) (issued_rows (all marks)) row.cookie) (session_rows (kept marks)))
    → Each (λ (row : SessionRow). P (issued_rows some) (issued_rows records) row.cookie) (session_rows some)
same_where now horizon records some P are are_kept alike =
    let m = are_marked idp_rules now horizon records some are_kept in
    let one = subst (λ rs. Each (λ (row : SessionRow). P (issued_rows rs) (issued_rows (all m.marks)) row.cookie) (session_rows rs)) m.are_kept
    (alike m.marks (subst AreRecords (sym m.are_all) are) m.closed) in
    subst (λ rs. Each (λ (row : SessionRow). P (issued_rows some) (issued_rows rs) row.cookie) (session_rows some)) m.are_all one

-- what was issued in the sessions that are kept
same_issues : (beside : Bool) (now horizon : ℕ) (records some : List IdpRecord) (peer : List ℕ) → AreRecords records → AreKept idp_rules now horizon records some
    → Each (λ (row : SessionRow). has_issued beside (issued_rows some) row.cookie peer ≡ has_issued beside (issued_rows records) row.cookie peer) (session_rows some)
same_issues beside now horizon records some peer are are_kept =
    same_where now horizon records some (λ few many cookie. has_issued beside few cookie peer ≡ has_issued beside many cookie peer) are are_kept
    (λ marks are linked. issues_alike beside peer marks are linked)

-- and to whom the last assertion went
same_peers : (now horizon : ℕ) (records some : List IdpRecord) → AreRecords records → AreKept idp_rules now horizon records some
    → Each (λ (row : SessionRow). last_peer (issued_rows some) row.cookie ≡ last_peer (issued_rows records) row.cookie) (session_rows some)
same_peers now horizon records some are are_kept =
    same_where now horizon records some (λ few many cookie. last_peer few cookie ≡ last_peer many cookie) are are_kept
    (λ marks are linked. peers_alike marks are linked)

-- the two facts of a row on which an answered logout rests
each_both : {X : Type 0} (P Q : X → Type 0) (xs : List X) → Each P xs → Each Q xs → Each (λ x. P x × Q x) xs
each_both P Q [] one other = tt
each_both P Q (x ∷ xs) one other = ((one.0, other.0), each_both P Q xs one.1 other.1)

module _ (now later : ℕ) (old new : Held) (are : AreRecords old.records) (made : IsCompacted idp_rules now old new) (first : now ≤ later) where
  same : SameSeen later old.header.horizon old.records new.records
  same = same_seen now later old.header.horizon old.records new.records first made.records

  latest : max later new.header.horizon ≡ max later old.header.horizon
  latest = omega (arith, made.horizon)

  pending_same : (pending : List ℕ) → pending_found (pending_rows new.records) pending later new.header.horizon ≡ pending_found (pending_rows old.records) pending later old.header.horizon
  pending_same pending =
      ap (λ m. find (λ (row : PendingRow). bytes_eq row.pending pending && not row.used && nat_lt m row.until) (pending_rows new.records)) latest
      ∙ find_same (λ (row : PendingRow). bytes_eq row.pending pending && not row.used && visible row.until later old.header.horizon)
      (pending_seen later old.header.horizon)
      (λ row is. (and_parts (bytes_eq row.pending pending && not row.used) (visible row.until later old.header.horizon) is).1)
      (pending_rows new.records) (pending_rows old.records) same.pendings

  session_same : (cookie : List ℕ) → session_found (session_rows new.records) cookie later new.header.horizon ≡ session_found (session_rows old.records) cookie later old.header.horizon
  session_same cookie =
      ap (λ m. find (λ (row : SessionRow). bytes_eq row.cookie cookie && not row.ended && nat_lt m row.until) (session_rows new.records)) latest
      ∙ find_same (λ (row : SessionRow). bytes_eq row.cookie cookie && not row.ended && visible row.until later old.header.horizon)
      (session_seen later old.header.horizon)
      (λ row is. (and_parts (bytes_eq row.cookie cookie && not row.ended) (visible row.until later old.header.horizon) is).1)
      (session_rows new.records) (session_rows old.records) same.sessions

  ending_same : (peer name : List ℕ) (indexes : List (List ℕ))
      → ending later new.header.horizon peer name indexes (rows_of new.records) ≡ ending later old.header.horizon peer name indexes (rows_of old.records)
  ending_same peer name indexes =
      let test : List IssuedRow → SessionRow → Bool = λ issues. is_ending later old.header.horizon peer name indexes issues in
      let each = each_weaker (λ (row : SessionRow). has_issued false (issued_rows new.records) row.cookie peer ≡ has_issued false (issued_rows old.records) row.cookie peer)
      (λ (row : SessionRow). test (issued_rows new.records) row ≡ test (issued_rows old.records) row)
      (λ row alike. ap (λ b. not row.ended && visible row.until later old.header.horizon && bytes_eq row.user name && is_listed indexes row.index && b) alike)
      (session_rows new.records) (same_issues false now old.header.horizon old.records new.records peer are made.records) in
      ap (λ m. map (λ (row : SessionRow). row.cookie) (filter (λ (row : SessionRow). not row.ended && nat_lt m row.until && bytes_eq row.user name && is_listed indexes row.index && has_issued false (issued_rows new.records) row.cookie peer) (session_rows new.records))) latest
      ∙ ap (map (λ (row : SessionRow). row.cookie))
      (filter_each (test (issued_rows new.records)) (test (issued_rows old.records)) (session_rows new.records) each
      ∙ filter_same (test (issued_rows old.records))
      (session_seen later old.header.horizon)
      (λ row is. second_of (not row.ended) (visible row.until later old.header.horizon) (bytes_eq row.user name) (is_listed indexes row.index) (has_issued false (issued_rows old.records) row.cookie peer) is)
      (session_rows new.records) (session_rows old.records) same.sessions)

  partial_same : (peer name : List ℕ) (indexes : List (List ℕ))
      → is_partial later new.header.horizon peer name indexes (rows_of new.records) ≡ is_partial later old.header.horizon peer name indexes (rows_of old.records)
  partial_same peer name indexes =
      let test : List IssuedRow → SessionRow → Bool = λ issues row. is_ending later old.header.horizon peer name indexes issues row && has_issued true issues row.cookie peer in
      let One : SessionRow → Type 0 = λ row. has_issued false (issued_rows new.records) row.cookie peer ≡ has_issued false (issued_rows old.records) row.cookie peer in
      let Other : SessionRow → Type 0 = λ row. has_issued true (issued_rows new.records) row.cookie peer ≡ has_issued true (issued_rows old.records) row.cookie peer in
      let each = each_weaker (λ row. One row × Other row) (λ (row : SessionRow). test (issued_rows new.records) row ≡ test (issued_rows old.records) row)
      (λ row alike. ap (λ b. not row.ended && visible row.until later old.header.horizon && bytes_eq row.user name && is_listed indexes row.index && b && has_issued true (issued_rows new.records) row.cookie peer) alike.0
      ∙ ap (λ b. is_ending later old.header.horizon peer name indexes (issued_rows old.records) row && b) alike.1)
      (session_rows new.records)
      (each_both One Other (session_rows new.records) (same_issues false now old.header.horizon old.records new.records peer are made.records)
      (same_issues true now old.header.horizon old.records new.records peer are made.records)) in
      ap (λ m. list_any (λ (row : SessionRow). not row.ended && nat_lt m row.until && bytes_eq row.user name && is_listed indexes row.index && has_issued false (issued_rows new.records) row.cookie peer && has_issued true (issued_rows new.records) row.cookie peer) (session_rows new.records)) latest
      ∙ any_each (test (issued_rows new.records)) (test (issued_rows old.records)) (session_rows new.records) each
      ∙ any_same_seen (test (issued_rows old.records))
      (session_seen later old.header.horizon)
      (λ row is. second_of (not row.ended) (visible row.until later old.header.horizon) (bytes_eq row.user name) (is_listed indexes row.index) (has_issued false (issued_rows old.records) row.cookie peer)
      (and_parts (is_ending later old.header.horizon peer name indexes (issued_rows old.records) row) (has_issued true (issued_rows old.records) row.cookie peer) is).0)
      (session_rows new.records) (session_rows old.records) same.sessions

  peer_same : (cookie : List ℕ) → IsSome (session_found (session_rows new.records) cookie later new.header.horizon) → last_peer (issued_rows new.records) cookie ≡ last_peer (issued_rows old.records) cookie
  peer_same cookie = found_peer (session_found (session_rows new.records) cookie later new.header.horizon) refl
    where
      found_peer : (o : Option SessionRow) → session_found (session_rows new.records) cookie later new.header.horizon ≡ o → IsSome o
          → last_peer (issued_rows new.records) cookie ≡ last_peer (issued_rows old.records) cookie
      found_peer None found some = absurd (false≢true some)
      found_peer (Some row) found some =
          let test : SessionRow → Bool = λ row. bytes_eq row.cookie cookie && not row.ended && visible row.until later new.header.horizon in
          let has = found_has (λ (row : SessionRow). last_peer (issued_rows new.records) row.cookie ≡ last_peer (issued_rows old.records) row.cookie) test (session_rows new.records) row
          (same_peers now old.header.horizon old.records new.records are made.records) found in
          let here = (and_parts (bytes_eq row.cookie cookie) (not row.ended) (and_parts (bytes_eq row.cookie cookie && not row.ended) (visible row.until later new.header.horizon) has.0).0).0 in
          subst (λ c. last_peer (issued_rows new.records) c ≡ last_peer (issued_rows old.records) c) (same_text row.cookie cookie here) has.1

  waiting_same : (request : List ℕ) → is_waiting_now (left_rows new.records) request later new.header.horizon ≡ is_waiting_now (left_rows old.records) request later old.header.horizon
  waiting_same request =
      ap (λ m. list_any (λ (row : LeftRow). bytes_eq row.request request && not row.confirmed && nat_lt m row.until) (left_rows new.records)) latest
      ∙ any_same_seen (λ (row : LeftRow). bytes_eq row.request request && not row.confirmed && visible row.until later old.header.horizon)
      (left_seen later old.header.horizon)
      (λ row is. (and_parts (bytes_eq row.request request && not row.confirmed) (visible row.until later old.header.horizon) is).1)
      (left_rows new.records) (left_rows old.records) same.lefts

  round_same : (request : List ℕ) → round_found (round_rows new.records) request later new.header.horizon ≡ round_found (round_rows old.records) request later old.header.horizon
  round_same request =
      ap (λ m. find (λ (row : RoundRow). waits_for request row && nat_lt m row.until) (round_rows new.records)) latest
      ∙ find_same (λ (row : RoundRow). waits_for request row && visible row.until later old.header.horizon)
      (round_seen later old.header.horizon)
      (λ row is. (and_parts (waits_for request row) (visible row.until later old.header.horizon) is).1)
      (round_rows new.records) (round_rows old.records) same.rounds

  turn_same : (request peer : List ℕ) → turn_found (round_rows new.records) request peer later new.header.horizon ≡ turn_found (round_rows old.records) request peer later old.header.horizon
  turn_same request peer =
      ap (λ m. find (λ (row : RoundRow). waits_for request row && (nat_lt m row.until && is_turn_of peer row)) (round_rows new.records)) latest
      ∙ find_same (λ (row : RoundRow). waits_for request row && (visible row.until later old.header.horizon && is_turn_of peer row))
      (round_seen later old.header.horizon)
      (λ row is. (and_parts (visible row.until later old.header.horizon) (is_turn_of peer row) (and_parts (waits_for request row) (visible row.until later old.header.horizon && is_turn_of peer row) is).1).0)
      (round_rows new.records) (round_rows old.records) same.rounds

pub compactions_change_no_answer : CompactionsChangeNoAnswer
compactions_change_no_answer now later old new are made first = record {
  pending = pending_same now later old new are made first;
  session = session_same now later old new are made first;
  ending = ending_same now later old new are made first;
  partial = partial_same now later old new are made first;
  last_peer = peer_same now later old new are made first;
  parts = λ cookies live. parts_alike now old.header.horizon later new.header.horizon old.records new.records cookies are made.records live;
  waiting = waiting_same now later old new are made first;
  round = round_same now later old new are made first;
  turn = turn_same now later old new are made first;
}

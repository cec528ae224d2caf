-- The texts of rows, and the rows that records name.
use Rattle.std.specs.Prelude.{IsSome}
use Rattle.std.proofs.Common.{◌≡◌, ℕ, ◌+◌, ◌<◌, ◌≤◌, Bool, true, false, cond, not, ◌&&◌, ◌||◌, nat_le, List, [], ◌∷◌, ◌++◌, map, take, length, get_or, slice_get, zero, suc, unwrap_or, reverse, Option, None, Some, arith, refl, sym, ap, ◌∙◌, subst}
use Rattle.std.specs.List.{list_all, list_any, find, filter, flat_map}
use Rattle.std.specs.Str.{bytes_eq, chars}
use Rattle.std.proofs.lemmas.Bool.{and_parts, or_left, or_right, leb-true}
use Rattle.std.proofs.lemmas.List.{append_assoc, reverse-append, take_more}
use Rattle.std.proofs.lemmas.Option.{get_or_from_slice_get, none-some}
use Rattle.std.proofs.lemmas.List.Folds.{list_any-append, list_all-append}
use Rattle.std.proofs.lemmas.Slice.Eq.{bytes_eq-Decides}
use Rattle.ledger_records.specs.declared.idp_record.Issued.{Issued}
use Rattle.ledger_records.specs.declared.idp_record.IdpRecord.{IdpRecord}
use Rattle.ledger_records.specs.declared.idp_record.IdpRecord.TheVariants as kinds
use Rattle.ledger_rules.specs.Numbers.{is_xml_text}
use Rattle.ledger_rules.proofs.Passing.{any_more, any_all}
use Rattle.idp_rows.specs.declared.row.PendingRow.{PendingRow}
use Rattle.idp_rows.specs.declared.row.IssuedRow.{IssuedRow}
use Rattle.idp_rows.specs.declared.row.SessionRow.{SessionRow}
use Rattle.idp_rows.specs.declared.row.LeftRow.{LeftRow}
use Rattle.idp_rows.specs.RowsOf.{ends, if_pending, session_row, pending_rows, issued_rows, session_rows, left_rows, rows_of}
use Rattle.idp_rows.specs.Finding.{visible, pending_found, session_found, is_waiting_now, is_empty, is_listed, is_ending, has_issued, last_issue, last_peer, peer_of}
use Rattle.idp_ledger.specs.Record.{next_of, is_record, AreRecords, AreRecordsAfter}
use Rattle.idp_rows.specs.Record.{LAST, of_attribute, is_unused, is_unended, is_waiting}
use Rattle.idp_ledger.proofs.RowLaws.{is_record-is}
use Rattle.idp_rows.proofs.StandingRows.{NextParts, next_parts}
use Rattle.record_ledger.proofs.Draftable.{both}
use Rattle.std.specs.Option.{option_to_list}

pub row_there : {X : Type 0} (xs : List X) (i : ℕ) → i < length xs → (x : X) × (slice_get xs i ≡ Some x)
row_there [] i inside = absurd (omega arith)
row_there (x ∷ xs) zero inside = (x, refl)
row_there (x ∷ xs) (suc i) inside = row_there xs i (omega arith)

pub any_there : {X : Type 0} (test : X → Bool) (xs : List X) (i : ℕ) (x : X) → slice_get xs i ≡ Some x → test x ≡ true → list_any test xs ≡ true
any_there {X = X} test [] i x here passes = absurd (none-some x here)
any_there {X = X} test (y ∷ xs) zero x here passes = or_left (test y) (list_any test xs) (ap test (ap (λ (o : Option X). unwrap_or o x) here) ∙ passes)
any_there {X = X} test (y ∷ xs) (suc i) x here passes = or_right (test y) (list_any test xs) (any_there test xs i x here passes)

pub none_more : {X : Type 0} (test : X → Bool) (xs : List X) (i : ℕ) (x : X) → i < length xs → slice_get xs i ≡ Some x → test x ≡ false → list_any test (take i xs) ≡ false
    → list_any test (take (i + 1) xs) ≡ false
none_more test xs i x inside here fails before =
    ap (list_any test) (take_more xs i x inside ∙ ap (λ y. take i xs ++ y ∷ []) (get_or_from_slice_get xs i x x here)) ∙ list_any-append test (take i xs) (x ∷ [])
    ∙ (λ k. before k || (fails k || false))

-- ---- the texts of rows are those of records

parts_of : (before : List IdpRecord) (r : IdpRecord) → is_record before r ≡ true → NextParts (rows_of before) (next_of before) r
parts_of before r is = next_parts (rows_of before) (next_of before) r (sym (is_record-is before r) ∙ is)

abbrev pub is_pending_xml : PendingRow → Bool
is_pending_xml row = list_all is_xml_text (row.pending ∷ row.request ∷ row.peer ∷ row.consumer ∷ [])

abbrev pub is_peer_xml : IssuedRow → Bool
is_peer_xml row = is_xml_text row.peer

abbrev pub is_session_xml : SessionRow → Bool
is_session_xml row =
    is_xml_text row.cookie && is_xml_text row.index && is_xml_text row.user && list_all is_xml_text (flat_map of_attribute row.attributes) && nat_le row.until LAST

abbrev pub is_request_xml : LeftRow → Bool
is_request_xml row = is_xml_text row.request

-- the parts of an Issued
pub record IssuedTexts (r : Issued) : Type 0 where
  pub cookie : is_xml_text r.cookie ≡ true
  pub index : is_xml_text r.index ≡ true
  pub user : is_xml_text r.user ≡ true
  pub peer : is_xml_text r.peer ≡ true
  pub attributes : list_all is_xml_text (flat_map of_attribute r.attributes) ≡ true
  pub session_end : nat_le r.session_end LAST ≡ true

issued_texts : (before : List IdpRecord) (r : Issued) → is_record before (kinds.Issued r) ≡ true → IssuedTexts r
issued_texts before r is =
    let parts = parts_of before (kinds.Issued r) is in
    let rest = option_to_list r.pending ++ flat_map of_attribute r.attributes in
    let one = and_parts (is_xml_text r.cookie) _ parts.texts_are in
    let two = and_parts (is_xml_text r.index) _ one.1 in
    let three = and_parts (is_xml_text r.assertion) _ two.1 in
    let four = and_parts (is_xml_text r.message) _ three.1 in
    let five = and_parts (is_xml_text r.user) _ four.1 in
    let six = and_parts (is_xml_text r.peer) _ five.1 in
    let seven = and_parts (is_xml_text r.consumer) _ six.1 in
    let eight = and_parts (is_xml_text r.request) (list_all is_xml_text rest) seven.1 in
    let last = and_parts (list_all is_xml_text (option_to_list r.pending)) (list_all is_xml_text (flat_map of_attribute r.attributes))
    (sym (list_all-append is_xml_text (option_to_list r.pending) (flat_map of_attribute r.attributes)) ∙ eight.1) in
    let dated = and_parts (nat_le r.moment LAST) (nat_le r.session_end LAST && true) parts.dated in
    record {
      cookie = one.0;
      index = two.0;
      user = five.0;
      peer = six.0;
      attributes = last.1;
      session_end = (and_parts (nat_le r.session_end LAST) true dated.1).0;
    }

session_xml : (ended : Bool) (r : Issued) → IssuedTexts r → is_session_xml (session_row ended r) ≡ true
session_xml ended r t =
    both (is_xml_text r.cookie && is_xml_text r.index && is_xml_text r.user && list_all is_xml_text (flat_map of_attribute r.attributes)) (nat_le r.session_end LAST)
    (both (is_xml_text r.cookie && is_xml_text r.index && is_xml_text r.user) (list_all is_xml_text (flat_map of_attribute r.attributes))
    (both (is_xml_text r.cookie && is_xml_text r.index) (is_xml_text r.user) (both (is_xml_text r.cookie) (is_xml_text r.index) t.cookie t.index) t.user) t.attributes) t.session_end

begun_xml : (pending : Option (List ℕ)) (row : SessionRow) (rows : List SessionRow) → is_session_xml row ≡ true → list_all is_session_xml rows ≡ true
    → list_all is_session_xml (if_pending pending (row ∷ []) ++ rows) ≡ true
begun_xml None row rows here later = later
begun_xml (Some pending) row rows here later = both (is_session_xml row) (list_all is_session_xml rows) here later

pendings_after : (before later : List IdpRecord) → AreRecordsAfter before later → list_all is_pending_xml (pending_rows later) ≡ true
pendings_after before [] are = refl
pendings_after before (kinds.Pending r ∷ later) are =
    both (list_all is_xml_text (r.pending ∷ r.request ∷ r.peer ∷ r.consumer ∷ [])) (list_all is_pending_xml (pending_rows later)) (parts_of before (kinds.Pending r) are.0).texts_are
    (pendings_after (before ++ kinds.Pending r ∷ []) later are.1)
pendings_after before (kinds.Issued r ∷ later) are = pendings_after (before ++ kinds.Issued r ∷ []) later are.1
pendings_after before (kinds.Ended r ∷ later) are = pendings_after (before ++ kinds.Ended r ∷ []) later are.1
pendings_after before (kinds.Left r ∷ later) are = pendings_after (before ++ kinds.Left r ∷ []) later are.1
pendings_after before (kinds.Confirmed r ∷ later) are = pendings_after (before ++ kinds.Confirmed r ∷ []) later are.1
pendings_after before (kinds.Spoke r ∷ later) are = pendings_after (before ++ kinds.Spoke r ∷ []) later are.1
pendings_after before (kinds.Round r ∷ later) are = pendings_after (before ++ kinds.Round r ∷ []) later are.1
pendings_after before (kinds.Told r ∷ later) are = pendings_after (before ++ kinds.Told r ∷ []) later are.1

pub pendings_allowed : (records : List IdpRecord) → AreRecords records → list_all is_pending_xml (pending_rows records) ≡ true
pendings_allowed records are = pendings_after [] records are

peers_after : (before later : List IdpRecord) → AreRecordsAfter before later → list_all is_peer_xml (issued_rows later) ≡ true
peers_after before [] are = refl
peers_after before (kinds.Pending r ∷ later) are = peers_after (before ++ kinds.Pending r ∷ []) later are.1
peers_after before (kinds.Issued r ∷ later) are =
    both (is_xml_text r.peer) (list_all is_peer_xml (issued_rows later)) (issued_texts before r are.0).peer (peers_after (before ++ kinds.Issued r ∷ []) later are.1)
peers_after before (kinds.Ended r ∷ later) are = peers_after (before ++ kinds.Ended r ∷ []) later are.1
peers_after before (kinds.Left r ∷ later) are = peers_after (before ++ kinds.Left r ∷ []) later are.1
peers_after before (kinds.Confirmed r ∷ later) are = peers_after (before ++ kinds.Confirmed r ∷ []) later are.1
peers_after before (kinds.Spoke r ∷ later) are = peers_after (before ++ kinds.Spoke r ∷ []) later are.1
peers_after before (kinds.Round r ∷ later) are = peers_after (before ++ kinds.Round r ∷ []) later are.1
peers_after before (kinds.Told r ∷ later) are = peers_after (before ++ kinds.Told r ∷ []) later are.1

pub peers_allowed : (records : List IdpRecord) → AreRecords records → list_all is_peer_xml (issued_rows records) ≡ true
peers_allowed records are = peers_after [] records are

sessions_after : (before later : List IdpRecord) → AreRecordsAfter before later → list_all is_session_xml (session_rows later) ≡ true
sessions_after before [] are = refl
sessions_after before (kinds.Pending r ∷ later) are = sessions_after (before ++ kinds.Pending r ∷ []) later are.1
sessions_after before (kinds.Issued r ∷ later) are =
    begun_xml r.pending (session_row (list_any (ends r.cookie) later) r) (session_rows later) (session_xml (list_any (ends r.cookie) later) r (issued_texts before r are.0))
    (sessions_after (before ++ kinds.Issued r ∷ []) later are.1)
sessions_after before (kinds.Ended r ∷ later) are = sessions_after (before ++ kinds.Ended r ∷ []) later are.1
sessions_after before (kinds.Left r ∷ later) are = sessions_after (before ++ kinds.Left r ∷ []) later are.1
sessions_after before (kinds.Confirmed r ∷ later) are = sessions_after (before ++ kinds.Confirmed r ∷ []) later are.1
sessions_after before (kinds.Spoke r ∷ later) are = sessions_after (before ++ kinds.Spoke r ∷ []) later are.1
sessions_after before (kinds.Round r ∷ later) are = sessions_after (before ++ kinds.Round r ∷ []) later are.1
sessions_after before (kinds.Told r ∷ later) are = sessions_after (before ++ kinds.Told r ∷ []) later are.1

pub sessions_allowed : (records : List IdpRecord) → AreRecords records → list_all is_session_xml (session_rows records) ≡ true
sessions_allowed records are = sessions_after [] records are

requests_after : (before later : List IdpRecord) → AreRecordsAfter before later → list_all is_request_xml (left_rows later) ≡ true
requests_after before [] are = refl
requests_after before (kinds.Pending r ∷ later) are = requests_after (before ++ kinds.Pending r ∷ []) later are.1
requests_after before (kinds.Issued r ∷ later) are = requests_after (before ++ kinds.Issued r ∷ []) later are.1
requests_after before (kinds.Ended r ∷ later) are = requests_after (before ++ kinds.Ended r ∷ []) later are.1
requests_after before (kinds.Left r ∷ later) are =
    let two = and_parts (is_xml_text r.cookie) _ (parts_of before (kinds.Left r) are.0).texts_are in
    let request = (and_parts (is_xml_text r.request) _ two.1).0 in
    both (is_xml_text r.request) (list_all is_request_xml (left_rows later)) request (requests_after (before ++ kinds.Left r ∷ []) later are.1)
requests_after before (kinds.Confirmed r ∷ later) are = requests_after (before ++ kinds.Confirmed r ∷ []) later are.1
requests_after before (kinds.Spoke r ∷ later) are = requests_after (before ++ kinds.Spoke r ∷ []) later are.1
requests_after before (kinds.Round r ∷ later) are = requests_after (before ++ kinds.Round r ∷ []) later are.1
requests_after before (kinds.Told r ∷ later) are = requests_after (before ++ kinds.Told r ∷ []) later are.1

pub requests_allowed : (records : List IdpRecord) → AreRecords records → list_all is_request_xml (left_rows records) ≡ true
requests_allowed records are = requests_after [] records are

-- ---- what is found

pub found_row : {X : Type 0} (test other : X → Bool) (xs : List X) (x : X) → find test xs ≡ Some x → list_all other xs ≡ true → (test x ≡ true) × (other x ≡ true) × (list_any test xs ≡ true)
found_row test other [] x is all = absurd (cc)
found_row test other (y ∷ ys) x is all =
    let parts = and_parts (other y) (list_all other ys) all in
    by_test (test y) refl is parts.0 (λ later. found_row test other ys x later parts.1)
  where
    by_test : (b : Bool) → test y ≡ b → cond b (Some y) (find test ys) ≡ Some x → other y ≡ true
        → (find test ys ≡ Some x → (test x ≡ true) × (other x ≡ true) × (list_any test ys ≡ true)) → (test x ≡ true) × (other x ≡ true) × (list_any test (y ∷ ys) ≡ true)
    by_test true here some passes later =
        let same : y ≡ x = cc in (ap test (sym same) ∙ here, ap other (sym same) ∙ passes, ap (λ b. b || list_any test ys) here)
    by_test false here none passes later =
        let rest = later none in (rest.0, rest.1, or_right (test y) (list_any test ys) rest.2)

-- a pending login that is found
pub record FoundPending (pendings : List PendingRow) (pending : List ℕ) (row : PendingRow) : Type 0 where
  pub is : row.pending ≡ pending
  pub unused : is_unused pendings row.pending ≡ true
  pub texts_are : is_pending_xml row ≡ true

pub found_pending : (pendings : List PendingRow) (pending : List ℕ) (now horizon : ℕ) (row : PendingRow) → pending_found pendings pending now horizon ≡ Some row → list_all is_pending_xml pendings ≡ true
    → FoundPending pendings pending row
found_pending pendings pending now horizon row found all =
    let test : PendingRow → Bool = λ r. bytes_eq r.pending pending && not r.used && visible r.until now horizon in
    let is = found_row test is_pending_xml pendings row found all in
    let same = (bytes_eq-Decides row.pending pending).0 (and_parts (bytes_eq row.pending pending) (not row.used) (and_parts (bytes_eq row.pending pending && not row.used) (visible row.until now horizon) is.0).0).0 in
    record {
      is = same;
      unused = ap (is_unused pendings) same
          ∙ any_more test (λ (r : PendingRow). bytes_eq r.pending pending && not r.used) pendings (λ r passes. (and_parts (bytes_eq r.pending pending && not r.used) (visible r.until now horizon) passes).0) is.2;
      texts_are = is.1;
    }

-- a session that is found
pub record FoundSession (sessions : List SessionRow) (cookie : List ℕ) (row : SessionRow) : Type 0 where
  pub is : row.cookie ≡ cookie
  pub unended : is_unended sessions cookie ≡ true
  pub there : list_any (λ (r : SessionRow). bytes_eq r.cookie cookie) sessions ≡ true
  pub texts_are : is_session_xml row ≡ true

pub found_session : (sessions : List SessionRow) (cookie : List ℕ) (now horizon : ℕ) (row : SessionRow) → session_found sessions cookie now horizon ≡ Some row → list_all is_session_xml sessions ≡ true
    → FoundSession sessions cookie row
found_session sessions cookie now horizon row found all =
    let test : SessionRow → Bool = λ r. bytes_eq r.cookie cookie && not r.ended && visible r.until now horizon in
    let is = found_row test is_session_xml sessions row found all in
    let same = (bytes_eq-Decides row.cookie cookie).0 (and_parts (bytes_eq row.cookie cookie) (not row.ended) (and_parts (bytes_eq row.cookie cookie && not row.ended) (visible row.until now horizon) is.0).0).0 in
    record {
      is = same;
      unended = any_more test (λ (r : SessionRow). bytes_eq r.cookie cookie && not r.ended) sessions (λ r passes. (and_parts (bytes_eq r.cookie cookie && not r.ended) (visible r.until now horizon) passes).0) is.2;
      there = any_more test (λ (r : SessionRow). bytes_eq r.cookie cookie) sessions
          (λ r passes. (and_parts (bytes_eq r.cookie cookie) (not r.ended) (and_parts (bytes_eq r.cookie cookie && not r.ended) (visible r.until now horizon) passes).0).0) is.2;
      texts_are = is.1;
    }

pub some_found : {X : Type 0} (found : Option X) → IsSome found → (x : X) × (found ≡ Some x)
some_found None is = absurd (cc)
some_found (Some x) is = (x, refl)

-- ---- a logout that waits

abbrev waits : List ℕ → ℕ → ℕ → LeftRow → Bool
waits request now horizon row = bytes_eq row.request request && not row.confirmed && visible row.until now horizon

pub waiting_is : (lefts : List LeftRow) (request : List ℕ) (now horizon : ℕ) → is_waiting_now lefts request now horizon ≡ true → is_waiting lefts request ≡ true
waiting_is lefts request now horizon is =
    any_more (waits request now horizon) (λ (row : LeftRow). bytes_eq row.request request && not row.confirmed) lefts
    (λ row passes. (and_parts (bytes_eq row.request request && not row.confirmed) (visible row.until now horizon) passes).0) is

pub waiting_is_allowed : (lefts : List LeftRow) (request : List ℕ) (now horizon : ℕ) → list_all is_request_xml lefts ≡ true → is_waiting_now lefts request now horizon ≡ true → is_xml_text request ≡ true
waiting_is_allowed lefts request now horizon all is =
    let row = any_all (waits request now horizon) is_request_xml lefts all is in
    let same = (bytes_eq-Decides row.0.request request).0 (and_parts (bytes_eq row.0.request request) (not row.0.confirmed) (and_parts (bytes_eq row.0.request request && not row.0.confirmed) (visible row.0.until now horizon) row.1).0).0 in
    subst (λ (t : List ℕ). is_xml_text t ≡ true) same row.2

-- ---- the peer of a session's last assertion

all_reverse : {X : Type 0} (test : X → Bool) (xs : List X) → list_all test xs ≡ true → list_all test (reverse xs) ≡ true
all_reverse test [] all = refl
all_reverse test (x ∷ xs) all =
    let parts = and_parts (test x) (list_all test xs) all in
    ap (list_all test) (reverse-append (x ∷ []) xs) ∙ list_all-append test (reverse xs) (x ∷ [])
    ∙ both (list_all test (reverse xs)) (test x && true) (all_reverse test xs parts.1) (both (test x) true parts.0 refl)

empty_xml : is_xml_text [] ≡ true
unfolding is_xml_text chars lib.Utf8.encode
empty_xml = refl

pub last_peer_xml : (issues : List IssuedRow) (cookie : List ℕ) → list_all is_peer_xml issues ≡ true → is_xml_text (last_peer issues cookie) ≡ true
last_peer_xml issues cookie all = by_found (last_issue issues cookie) refl
  where
    by_found : (o : Option IssuedRow) → last_issue issues cookie ≡ o → is_xml_text (peer_of o) ≡ true
    by_found None none = empty_xml
    by_found (Some row) some = (found_row (λ (r : IssuedRow). bytes_eq r.cookie cookie) is_peer_xml (reverse issues) row some (all_reverse is_peer_xml issues all)).1

-- ---- sessions that are ended

module _ (now horizon : ℕ) (peer name : List ℕ) (indexes : List (List ℕ)) (issues : List IssuedRow) where
  abbrev is_ended_now : SessionRow → Bool
  is_ended_now = is_ending now horizon peer name indexes issues

  abbrev pub ending_of : List SessionRow → List (List ℕ)
  ending_of sessions = map (λ (row : SessionRow). row.cookie) (filter is_ended_now sessions)

  ends_unended : (row : SessionRow) → is_ended_now row ≡ true → not row.ended ≡ true
  ends_unended row is =
      let first = and_parts (not row.ended && visible row.until now horizon && bytes_eq row.user name && is_listed indexes row.index) (has_issued false issues row.cookie peer) is in
      let second = and_parts (not row.ended && visible row.until now horizon && bytes_eq row.user name) (is_listed indexes row.index) first.0 in
      let third = and_parts (not row.ended && visible row.until now horizon) (bytes_eq row.user name) second.0 in
      (and_parts (not row.ended) (visible row.until now horizon) third.0).0

  unended_there : (before rest : List SessionRow) (row : SessionRow) → not row.ended ≡ true → is_unended (before ++ row ∷ rest) row.cookie ≡ true
  unended_there before rest row unended =
      let test : SessionRow → Bool = λ (r : SessionRow). bytes_eq r.cookie row.cookie && not r.ended in
      let here : test row ≡ true = both (bytes_eq row.cookie row.cookie) (not row.ended) ((bytes_eq-Decides row.cookie row.cookie).1 refl) unended in
      list_any-append test before (row ∷ rest) ∙ or_right (list_any test before) (test row || list_any test rest) (or_left (test row) (list_any test rest) here)

  ends_there : (before rows : List SessionRow) → list_all (is_unended (before ++ rows)) (ending_of rows) ≡ true
  ends_there before [] = refl
  ends_there before (row ∷ rest) =
      let later : list_all (is_unended (before ++ row ∷ rest)) (ending_of rest) ≡ true =
      subst (λ (all : List SessionRow). list_all (is_unended all) (ending_of rest) ≡ true) (append_assoc before (row ∷ []) rest) (ends_there (before ++ row ∷ []) rest) in
      by_test (is_ended_now row) refl later
    where
      by_test : (b : Bool) → is_ended_now row ≡ b → list_all (is_unended (before ++ row ∷ rest)) (ending_of rest) ≡ true
          → list_all (is_unended (before ++ row ∷ rest)) (map (λ (r : SessionRow). r.cookie) (cond b (row ∷ filter is_ended_now rest) (filter is_ended_now rest))) ≡ true
      by_test true is later = both (is_unended (before ++ row ∷ rest) row.cookie) _ (unended_there before rest row (ends_unended row is)) later
      by_test false is later = later

  pub ending_unended : (sessions : List SessionRow) → list_all (is_unended sessions) (ending_of sessions) ≡ true
  ending_unended sessions = ends_there [] sessions

  ending_push : (rows : List SessionRow) (row : SessionRow) (b : Bool) → is_ended_now row ≡ b → ending_of (rows ++ row ∷ []) ≡ ending_of rows ++ cond b (row.cookie ∷ []) []
  ending_push [] row true is = ap (λ b. map (λ (r : SessionRow). r.cookie) (cond b (row ∷ []) [])) is
  ending_push [] row false is = ap (λ b. map (λ (r : SessionRow). r.cookie) (cond b (row ∷ []) [])) is
  ending_push (first ∷ rows) row b is = by_test (is_ended_now first) (ending_push rows row b is)
    where
      by_test : (t : Bool) → ending_of (rows ++ row ∷ []) ≡ ending_of rows ++ cond b (row.cookie ∷ []) []
          → map (λ (r : SessionRow). r.cookie) (cond t (first ∷ filter is_ended_now (rows ++ row ∷ [])) (filter is_ended_now (rows ++ row ∷ [])))
          ≡ map (λ (r : SessionRow). r.cookie) (cond t (first ∷ filter is_ended_now rows) (filter is_ended_now rows)) ++ cond b (row.cookie ∷ []) []
      by_test true later = ap (λ cookies. first.cookie ∷ cookies) later
      by_test false later = later

  pub ending_more : (rows : List SessionRow) (i : ℕ) (row : SessionRow) (b : Bool) (cookies : List (List ℕ)) → i < length rows → row ≡ get_or rows i row → is_ended_now row ≡ b
      → cookies ≡ ending_of (take i rows) → cookies ++ cond b (row.cookie ∷ []) [] ≡ ending_of (take (i + 1) rows)
  ending_more rows i row b cookies inside here is known =
      ap (λ (front : List (List ℕ)). front ++ cond b (row.cookie ∷ []) []) known ∙ sym (ending_push (take i rows) row b is)
      ∙ ap ending_of (ap (λ (r : SessionRow). take i rows ++ r ∷ []) here ∙ sym (take_more rows i row inside))

  cookie_xml : (row : SessionRow) → is_session_xml row ≡ true → is_xml_text row.cookie ≡ true
  cookie_xml row is =
      let one = and_parts (is_xml_text row.cookie && is_xml_text row.index && is_xml_text row.user && list_all is_xml_text (flat_map of_attribute row.attributes)) (nat_le row.until LAST) is in
      let two = and_parts (is_xml_text row.cookie && is_xml_text row.index && is_xml_text row.user) (list_all is_xml_text (flat_map of_attribute row.attributes)) one.0 in
      let three = and_parts (is_xml_text row.cookie && is_xml_text row.index) (is_xml_text row.user) two.0 in
      (and_parts (is_xml_text row.cookie) (is_xml_text row.index) three.0).0

  pub ending_allowed : (rows : List SessionRow) → list_all is_session_xml rows ≡ true → list_all is_xml_text (ending_of rows) ≡ true
  ending_allowed [] all = refl
  ending_allowed (row ∷ rest) all =
      let parts = and_parts (is_session_xml row) (list_all is_session_xml rest) all in
      by_test (is_ended_now row) (cookie_xml row parts.0) (ending_allowed rest parts.1)
    where
      by_test : (b : Bool) → is_xml_text row.cookie ≡ true → list_all is_xml_text (ending_of rest) ≡ true
          → list_all is_xml_text (map (λ (r : SessionRow). r.cookie) (cond b (row ∷ filter is_ended_now rest) (filter is_ended_now rest))) ≡ true
      by_test true here later = both (is_xml_text row.cookie) _ here later
      by_test false here later = later

-- the parts of what a document may hold of a session
pub record SessionTexts (row : SessionRow) : Type 0 where
  pub cookie : is_xml_text row.cookie ≡ true
  pub index : is_xml_text row.index ≡ true
  pub user : is_xml_text row.user ≡ true
  pub attributes : list_all is_xml_text (flat_map of_attribute row.attributes) ≡ true
  pub until : row.until ≤ LAST

pub session_texts : (row : SessionRow) → is_session_xml row ≡ true → SessionTexts row
session_texts row is =
    let one = and_parts (is_xml_text row.cookie && is_xml_text row.index && is_xml_text row.user && list_all is_xml_text (flat_map of_attribute row.attributes)) (nat_le row.until LAST) is in
    let two = and_parts (is_xml_text row.cookie && is_xml_text row.index && is_xml_text row.user) (list_all is_xml_text (flat_map of_attribute row.attributes)) one.0 in
    let three = and_parts (is_xml_text row.cookie && is_xml_text row.index) (is_xml_text row.user) two.0 in
    let four = and_parts (is_xml_text row.cookie) (is_xml_text row.index) three.0 in
    record { cookie = four.0; index = four.1; user = three.1; attributes = two.1; until = leb-true row.until LAST one.1 }

pub some_texts : (texts : List (List ℕ)) → (texts ≡ [] → ⊥) → is_empty texts ≡ false
some_texts [] some = absurd (some refl)
some_texts (first ∷ others) some = refl

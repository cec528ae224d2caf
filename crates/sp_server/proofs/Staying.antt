-- That what was opened is found as it was left.
use Rattle.std.specs.Prelude.{Contains, Some, ◌||◌, max}
use Rattle.std.specs.List.{list_any}
use Rattle.std.proofs.Common.{◌≡◌, inl, inr, ℕ, ◌<◌, Bool, true, false, List, [], ◌∷◌, ◌++◌, bytes_eq, refl, sym, subst, ap, ◌∙◌, arith}
use Rattle.std.proofs.lemmas.Bool.{lt-ltb, or_left, or_right}
use Rattle.std.proofs.lemmas.List.Elements.{All-contains, Contains-append_right}
use Rattle.std.proofs.lemmas.List.Folds.{list_any-append}
use Rattle.std.proofs.lemmas.List.{append_assoc}
use Rattle.std.proofs.lemmas.Slice.Eq.{bytes_eq-Decides}
use Rattle.ledger_records.specs.declared.sp_record.Asked.{Asked as AskedRecord}
use Rattle.ledger_records.specs.declared.sp_record.Opened.{Opened as OpenedRecord}
use Rattle.ledger_records.specs.declared.sp_record.SpRecord.{SpRecord}
use Rattle.ledger_records.specs.declared.sp_record.SpRecord.TheVariants as kinds
use Rattle.request_rows.specs.Rows.{is_spent, session_row}
use Rattle.record_ledger.specs.Runs.{EndsBehind, IsVisibleThroughout, added}
use Rattle.record_ledger.proofs.Staying.{any_joined, visible_records_stay}
use Rattle.request_ledger.specs.Laws.{ImagesHoldRecords, SessionsStay as RowsStay}
use Rattle.request_ledger.specs.Ledger.{Held}
use Rattle.record_ledger.specs.Ledger.{held_with}
use Rattle.request_ledger.specs.Naming.{names}
use Rattle.request_ledger.specs.Record.{AreRecords, request_rules}
use Rattle.request_ledger.specs.RowsOf.{SpRows, closed_if, closes, opened_row, opened_rows}
use Rattle.request_ledger.proofs.RowLaws.{rows_of-push}
use Rattle.provider_node.specs.Histories.{CameFrom}
use Rattle.provider_node.proofs.Opened.{opened_records}
use Rattle.provider_node.proofs.Staying.{Stood, found_as_left, stay_in_a_service, stay_over_starts, stood}
use Rattle.sp_server.specs.Staying.{IsAsLeft, WasOpened}
use Rattle.provider_node.specs.Staying.{SessionsStayInAService, SessionsStayOverStarts, WhatWasOpenedIsAsLeft}
use Rattle.sp_server.specs.Step.{Answers}
use Rattle.sp_server.proofs.Histories.{draws_above}
use Rattle.sp_server.proofs.Tokens.{found_by_token}

-- ---- rows

-- the last record has its row
last_row : (before : List SpRecord) (r : OpenedRecord)
    → Contains (opened_rows (before ++ kinds.Opened r ∷ [])) (opened_row false r)
last_row before r =
    subst (λ (rows : SpRows). Contains rows.opened (opened_row false r)) (sym (rows_of-push before (kinds.Opened r)))
    (Contains-append_right (opened_rows before) (opened_row false r ∷ []) (opened_row false r) (0, omega arith, refl))

-- ---- spent requests

-- a session of a request that was asked names it
spent_by : (records : List SpRecord) (a : AskedRecord) → list_any (λ other. names other (kinds.Asked a)) records ≡ true
    → is_spent (opened_rows records) a.request ≡ true
spent_by [] a any = absurd (cc)
spent_by (kinds.Opened x ∷ later) a any = of_case (bytes_eq a.request x.request) refl any (spent_by later a)
  where
    of_case : (b : Bool) → bytes_eq a.request x.request ≡ b
        → (b || list_any (λ other. names other (kinds.Asked a)) later) ≡ true
        → (list_any (λ other. names other (kinds.Asked a)) later ≡ true → is_spent (opened_rows later) a.request ≡ true)
        → (bytes_eq x.request a.request || is_spent (opened_rows later) a.request) ≡ true
    of_case true same any rest =
        or_left (bytes_eq x.request a.request) (is_spent (opened_rows later) a.request)
        ((bytes_eq-Decides x.request a.request).1 (sym ((bytes_eq-Decides a.request x.request).0 same)))
    of_case false other any rest =
        or_right (bytes_eq x.request a.request) (is_spent (opened_rows later) a.request) (rest any)
spent_by (other ∷ later) a any = spent_by later a any

-- it is visible where its end is behind a moment and a horizon
asked_seen : (start : ℕ) (moments : List ℕ) (a : AskedRecord) → EndsBehind start moments a.until
    → IsVisibleThroughout request_rules start moments (kinds.Asked a)
asked_seen start moments a ends now horizon at (inl same) =
    let less = All-contains (λ m. m < a.until) moments now ends.each at in
    let first = ends.start in
    lt-ltb (max now horizon) a.until (omega (arith, less, first, same))
asked_seen start moments a ends now horizon at (inr also) =
    let less = All-contains (λ m. m < a.until) moments now ends.each at in
    let less_too = All-contains (λ m. m < a.until) moments horizon ends.each also in
    lt-ltb (max now horizon) a.until (omega (arith, less, less_too))

-- ---- as it was left

module _ (rows_stay : RowsStay) (moments : List ℕ) (start held : Held) (records : List SpRecord) (r : OpenedRecord)
    (came : CameFrom request_rules (Contains moments) start records held)
    (there : Contains records (kinds.Opened r)) where
  since : Stood request_rules moments start held came.events (kinds.Opened r)
  since = stood request_rules moments start held records (kinds.Opened r) came there

  module _ (s : Stood request_rules moments start held came.events (kinds.Opened r)) where
    abbrev closed : Bool
    closed = list_any (closes r.token) (added s.was.later)

    its_row : EndsBehind start.header.horizon moments r.until
        → Contains (opened_rows held.records) (closed_if closed (opened_row false r))
    its_row ends =
        rows_stay (held_with (kinds.Opened r) s.was.before) held s.was.later moments (opened_row false r) s.was.leads
        s.at (last_row s.was.before.records r) (s.ends r.until ends)

    its_life : AreRecords held.records → EndsBehind start.header.horizon moments r.until → closed ≡ false → (now : ℕ)
        → now < r.until → held.header.horizon < r.until
        → session_row (opened_rows held.records) r.token now held.header.horizon ≡ Some (opened_row false r)
    its_life are ends none now less also =
        let there = subst (λ (b : Bool). Contains (opened_rows held.records) (closed_if b (opened_row false r))) none
        (its_row ends) in
        found_by_token held.records r now held.header.horizon are there less also

    its_request : (front behind : List SpRecord) (a : AskedRecord)
        → s.was.before.records ≡ front ++ kinds.Asked a ∷ behind → r.request ≡ a.request
        → EndsBehind start.header.horizon moments a.until → is_spent (opened_rows held.records) a.request ≡ true
    its_request front behind a stands same ends =
        let p = λ (other : SpRecord). names other (kinds.Asked a) in
        let own = kinds.Opened r ∷ [] in
        let here : (held_with (kinds.Opened r) s.was.before).records ≡ front ++ kinds.Asked a ∷ (behind ++ own) =
        ap (λ (l : List SpRecord). l ++ own) stands ∙ append_assoc front (kinds.Asked a ∷ behind) own in
        let stays = visible_records_stay request_rules (held_with (kinds.Opened r) s.was.before) held s.was.later
        moments front (behind ++ own) (kinds.Asked a) s.was.leads s.at here
        (asked_seen s.was.before.header.horizon moments a (s.ends a.until ends)) in
        let its_own : list_any p own ≡ true = or_left (bytes_eq a.request r.request) false
        ((bytes_eq-Decides a.request r.request).1 (sym same)) in
        let joined = any_joined p p (λ x e. e) stays.behind_it (behind ++ own) (added s.was.later) stays.naming_it in
        let any_behind : list_any p stays.behind_it ≡ true =
        joined ∙ or_left (list_any p (behind ++ own)) (list_any p (added s.was.later))
        (list_any-append p behind own ∙ or_right (list_any p behind) (list_any p own) its_own) in
        let all : list_any p (stays.before_it ++ kinds.Asked a ∷ stays.behind_it) ≡ true =
        list_any-append p stays.before_it (kinds.Asked a ∷ stays.behind_it) ∙ or_right (list_any p stays.before_it)
        (list_any p stays.behind_it) any_behind in
        spent_by held.records a (ap (list_any p) stays.stands ∙ all)

  pub as_left : AreRecords held.records → IsAsLeft moments start r held
  as_left are = record {
    events = came.events;
    leads = came.leads;
    was = since.was;
    row = its_row since;
    live = its_life since are;
    spent = its_request since;
  }

-- ---- the laws

-- of a ledger that holds records
abbrev OfRecords : (moments : List ℕ) (start : Held) → OpenedRecord → Held → Type 0
OfRecords moments start r held = AreRecords held.records → IsAsLeft moments start r held

module _ (rows_stay : RowsStay) (law : ImagesHoldRecords) where
  pub was_left : WhatWasOpenedIsAsLeft request_rules WasOpened IsAsLeft
  was_left moments start records r image holds opened =
      let (held, is, left) = found_as_left request_rules WasOpened OfRecords Answers (as_left rows_stay) moments start
      records r image holds opened in
      (held, is, left (law image held is))

  pub sessions_stay_in_a_service : SessionsStayInAService request_rules WasOpened IsAsLeft Answers
  sessions_stay_in_a_service first last turns kept at tells run =
      let stays = stay_in_a_service request_rules WasOpened OfRecords Answers (as_left rows_stay) law draws_above first
      last turns kept at tells run in
      record {
        records = stays.records;
        are = stays.are;
        stay = λ r image opened left.
            let (held, is, as_it_was) = stays.stay r image opened left in (held, is, as_it_was (law image held is));
      }

  pub sessions_stay_over_starts : SessionsStayOverStarts request_rules WasOpened IsAsLeft Answers
  sessions_stay_over_starts moments start starts begun =
      let stays = stay_over_starts request_rules WasOpened OfRecords Answers (as_left rows_stay) law draws_above
      moments start starts begun in
      record {
        records = stays.records;
        are = stays.are;
        stay = λ r image opened left.
            let (held, is, as_it_was) = stays.stay r image opened left in
            (held, is, as_it_was (opened_records request_rules law image held is));
      }

-- A compaction changes no answer.
use Rattle.std.proofs.Common.{◌≡◌, ℕ, ◌<◌, ◌≤◌, max, nat_lt, Bool, true, false, ◌&&◌, cond, List, [], ◌∷◌, Option, None, Some, IsSome, filter, find, bytes_eq, refl, sym, ap, ◌∙◌, subst, inl, inr, arith}
use Rattle.std.specs.Option.{option_map}
use Rattle.std.proofs.lemmas.Bool.{cases_Bool, false≢true, and_parts, or_cases, or_left, or_right, false_from_ne_true, ltb-true, lt-ltb}
use Rattle.ledger_records.specs.declared.hub_record.Routed.{Routed}
use Rattle.ledger_records.specs.declared.hub_record.HubRecord.{HubRecord}
use Rattle.ledger_records.specs.declared.hub_record.HubRecord.TheVariants as kinds
use Rattle.ledger_rules.proofs.Counted.{find_same}
use Rattle.request_rows.specs.Rows.{visible, asked_row, is_spent, is_seen}
use Rattle.record_ledger.specs.Marks.{Marked, all, kept, KeepsAll}
use Rattle.record_ledger.proofs.KeptFlags.{are_marked}
use Rattle.record_ledger.proofs.Words.{each_weaker}
use Rattle.record_ledger.specs.Ledger.{next_number}
use Rattle.record_ledger.specs.Compacting.{AreKept}
use Rattle.request_ledger.specs.Record.{request_rules}
use Rattle.request_ledger.specs.Laws as sp
use Rattle.request_ledger.proofs.KeptAnswers as sp_answers
use Rattle.hub_ledger.specs.Naming.{has_visible}
use Rattle.hub_ledger.specs.RowsOf.{Route, asked_row as row_of, below_row, asked_rows, below_rows, opened_rows, routes, rows_of}
use Rattle.hub_ledger.specs.Finding.{routed_row}
use Rattle.hub_ledger.specs.Record.{AreRecords, hub_rules}
use Rattle.hub_ledger.specs.Ledger.{Held}
use Rattle.hub_ledger.specs.Compacting.{IsCompacted}
use Rattle.hub_ledger.specs.Laws.{CompactionsChangeNoAnswer}
use Rattle.hub_ledger.proofs.AsSp.{asked_same, spent_same, seen_same, are_sp_records}
use Rattle.hub_ledger.proofs.Runs.{held_as_sp, compacted_as_sp}

abbrev route_of : Routed → Route
route_of r = record { asked = row_of r; below = below_row r }

abbrev routes_of : List HubRecord → List Route
routes_of records = routes (asked_rows records) (below_rows records)

module _ (now horizon : ℕ) where
  abbrev route_seen : Route → Bool
  route_seen route = visible route.asked.until now horizon

  abbrev is_route : List ℕ → Route → Bool
  is_route request route = bytes_eq route.asked.request request && visible route.asked.until now horizon

  -- the visible routes of what is kept are those of all
  unseen : (r : HubRecord) → (has_visible now horizon r ≡ true → false ≡ true) → has_visible now horizon r ≡ false
  unseen r keeps = false_from_ne_true (has_visible now horizon r) (λ here. false≢true (keeps here))

  routes_alike : (marks : List (Marked HubRecord)) → KeepsAll (has_visible now horizon) marks
      → filter route_seen (routes_of (kept marks)) ≡ filter route_seen (routes_of (all marks))
  routes_alike [] keeps = refl
  routes_alike ((true, kinds.Routed r) ∷ marks) keeps =
      ap (λ rest. cond (visible r.until now horizon) (route_of r ∷ rest) rest) (routes_alike marks keeps.1)
  routes_alike ((false, kinds.Routed r) ∷ marks) keeps = rw (unseen (kinds.Routed r) keeps.0) (routes_alike marks keeps.1)
  routes_alike ((true, kinds.Backed r) ∷ marks) keeps = routes_alike marks keeps.1
  routes_alike ((true, kinds.Spoke r) ∷ marks) keeps = routes_alike marks keeps.1
  routes_alike ((false, kinds.Backed r) ∷ marks) keeps = routes_alike marks keeps.1
  routes_alike ((false, kinds.Spoke r) ∷ marks) keeps = routes_alike marks keeps.1

  -- the request of a route is the one that was asked
  route_asked : (records : List HubRecord) (request : List ℕ)
      → asked_row (asked_rows records) request now horizon ≡ option_map (λ (route : Route). route.asked) (find (is_route request) (routes_of records))
  route_asked [] request = refl
  route_asked (kinds.Routed r ∷ later) request =
      elim (cases_Bool (bytes_eq r.request request && visible r.until now horizon)) [
        | inl here ↦ rw here refl
        | inr none ↦ rw none (route_asked later request)
      ]
  route_asked (other ∷ later) request = route_asked later request

-- what is visible at a moment was visible before
visible_before : (until now later horizon : ℕ) → now ≤ later → visible until later horizon ≡ true → visible until now horizon ≡ true
visible_before until now later horizon first seen =
    let above : max later horizon < until = ltb-true (max later horizon) until seen in
    lt-ltb (max now horizon) until (omega arith)

had_visible : (now later horizon : ℕ) (r : HubRecord) → now ≤ later → has_visible later horizon r ≡ true → has_visible now horizon r ≡ true
had_visible now later horizon (kinds.Routed r) first seen = visible_before r.until now later horizon first seen
had_visible now later horizon (kinds.Backed r) first seen =
    elim (or_cases (visible r.until later horizon) (visible r.assertion_until later horizon) seen) [
      | inl login ↦
          or_left (visible r.until now horizon) (visible r.assertion_until now horizon)
          (visible_before r.until now later horizon first login)
      | inr assertion ↦
          or_right (visible r.until now horizon) (visible r.assertion_until now horizon)
          (visible_before r.assertion_until now later horizon first assertion)
    ]
had_visible now later horizon (kinds.Spoke r) first seen = seen

same_routes : (now later horizon : ℕ) (records some : List HubRecord) → now ≤ later → AreKept hub_rules now horizon records some
    → filter (route_seen later horizon) (routes_of some) ≡ filter (route_seen later horizon) (routes_of records)
same_routes now later horizon records some first are_kept =
    let m = are_marked hub_rules now horizon records some are_kept in
    let keeps = each_weaker (λ (k : Marked HubRecord). has_visible now horizon k.1 ≡ true → k.0 ≡ true)
    (λ (k : Marked HubRecord). has_visible later horizon k.1 ≡ true → k.0 ≡ true)
    (λ k here seen. here (had_visible now later horizon k.1 first seen)) m.marks m.visible in
    ap (λ l. filter (route_seen later horizon) (routes_of l)) (sym m.are_kept) ∙ routes_alike later horizon m.marks keeps
    ∙ ap (λ l. filter (route_seen later horizon) (routes_of l)) m.are_all

module _ (now later : ℕ) (old new : Held) (are : AreRecords old.records) (made : IsCompacted now old new) (first : now ≤ later) where
  abbrev next : ℕ
  next = next_number request_rules (held_as_sp old.header.next old)

  as_sp : sp.AnswerAlike later (held_as_sp next new) (held_as_sp old.header.next old)
  as_sp = sp_answers.compactions_change_no_answer now later (held_as_sp old.header.next old) (held_as_sp next new)
      (are_sp_records [] old.records are) (compacted_as_sp old.header.next now old new made) first

  asked : (request : List ℕ) → asked_row (asked_rows new.records) request later new.header.horizon
      ≡ asked_row (asked_rows old.records) request later old.header.horizon
  asked request =
      ap (λ rows. asked_row rows request later new.header.horizon) (sym (asked_same new.records)) ∙ as_sp.asked request
      ∙ ap (λ rows. asked_row rows request later old.header.horizon) (asked_same old.records)

  spent : (request : List ℕ) → IsSome (asked_row (asked_rows new.records) request later new.header.horizon)
      → is_spent (opened_rows new.records) request ≡ is_spent (opened_rows old.records) request
  spent request some =
      sym (spent_same new.records request)
      ∙ as_sp.spent request (subst (λ rows. IsSome (asked_row rows request later new.header.horizon)) (sym (asked_same new.records)) some)
      ∙ spent_same old.records request

  seen : (issuer assertion : List ℕ) → is_seen (opened_rows new.records) issuer assertion later new.header.horizon
      ≡ is_seen (opened_rows old.records) issuer assertion later old.header.horizon
  seen issuer assertion =
      sym (seen_same new.records issuer assertion later new.header.horizon) ∙ as_sp.seen issuer assertion
      ∙ seen_same old.records issuer assertion later old.header.horizon

  latest : max later new.header.horizon ≡ max later old.header.horizon
  latest = omega (arith, made.horizon)

  found : (request : List ℕ) → find (is_route later new.header.horizon request) (routes_of new.records)
      ≡ find (is_route later old.header.horizon request) (routes_of old.records)
  found request =
      ap (λ m. find (λ (route : Route). bytes_eq route.asked.request request && nat_lt m route.asked.until) (routes_of new.records)) latest
      ∙ find_same (is_route later old.header.horizon request) (route_seen later old.header.horizon)
      (λ route is. (and_parts (bytes_eq route.asked.request request) (visible route.asked.until later old.header.horizon) is).1)
      (routes_of new.records) (routes_of old.records)
      (same_routes now later old.header.horizon old.records new.records first made.records)

  unspent : (request : List ℕ) (route : Option Route) → find (is_route later new.header.horizon request) (routes_of new.records) ≡ route
      → cond (is_spent (opened_rows new.records) request) None route ≡ cond (is_spent (opened_rows old.records) request) None route
  unspent request None is = either (is_spent (opened_rows new.records) request) ∙ sym (either (is_spent (opened_rows old.records) request))
    where
      nothing : Option Route
      nothing = None

      either : (b : Bool) → cond b nothing nothing ≡ nothing
      either true = refl
      either false = refl
  unspent request (Some route) is =
      let some : IsSome (asked_row (asked_rows new.records) request later new.header.horizon) =
      subst IsSome (sym (route_asked later new.header.horizon new.records request
      ∙ ap (λ (found : Option Route). option_map (λ (route : Route). route.asked) found) is)) refl in
      ap (λ b. cond b None (Some route)) (spent request some)

  routed : (request : List ℕ) → routed_row (rows_of new.records) request later new.header.horizon
      ≡ routed_row (rows_of old.records) request later old.header.horizon
  routed request =
      unspent request (find (is_route later new.header.horizon request) (routes_of new.records)) refl
      ∙ ap (λ route. cond (is_spent (opened_rows old.records) request) None route) (found request)

pub compactions_change_no_answer : CompactionsChangeNoAnswer
compactions_change_no_answer now later old new are made first = record {
  asked = asked now later old new are made first;
  spent = spent now later old new are made first;
  seen = seen now later old new are made first;
  routed = routed now later old new are made first;
}

-- No run opens two sessions for one request.
use Rattle.std.proofs.Common.{◌≡◌, ℕ, ◌≤◌, ◌≢◌, ◌==◌, All, true, false, List, [], ◌∷◌, ◌++◌, bytes_eq, sym, ap, ◌∙◌, subst, inl, inr, arith, append_assoc}
use Rattle.std.specs.List.{list_any}
use Rattle.std.proofs.lemmas.Bool.{cases_Bool, false≢true, or_left, or_right, or_cases}
use Rattle.std.proofs.lemmas.List.Folds.{list_any-append}
use Rattle.ledger_records.specs.declared.sp_record.SpRecord.{SpRecord}
use Rattle.ledger_records.specs.declared.sp_record.SpRecord.TheVariants as kinds
use Rattle.ledger_rules.specs.Numbers.{Drawn}
use Rattle.request_ledger.specs.Naming.{names_asked}
use Rattle.record_ledger.proofs.Words.{each_weaker, text_itself}
use Rattle.record_ledger.proofs.Records.{AreRecords-push}
use Rattle.record_ledger.proofs.Numbers.{fresh_above}
use Rattle.request_ledger.specs.Record.{drawn, next_of, is_record, AreRecordsAfter, AreRecords, request_rules}
use Rattle.request_ledger.specs.Ledger.{Held, next_number}
use Rattle.record_ledger.specs.Ledger.{held_with, migrated}
use Rattle.request_ledger.specs.Compacting.{IsCompacted, Compacts as IsMade}
use Rattle.record_ledger.specs.Runs.{Adds, Compacts, Opens}
use Rattle.request_ledger.specs.Runs.{Event, Leads, AreDifferent, requests_opened, requests_of_run}
use Rattle.request_ledger.specs.Laws.{NoRequestOpensTwiceInARun}
use Rattle.request_ledger.proofs.LawWords.{opens, Each, parts, opens_rightly, push_some}
use Rattle.request_ledger.proofs.LawNumbers.{HasNumber, number_further, next_push, not_asked, asked_number}
use Rattle.request_ledger.proofs.RunOnce.{one_more, no_request_opens_twice}
use Rattle.request_ledger.proofs.KeptRecords.{kept_are_records}
use Rattle.request_ledger.proofs.KeptSpent.{spent_alike, found_among_all}

-- A session was opened for this request: it begins with a number that was drawn, and where it is still asked it is spent.
record WasOpened (records : List SpRecord) (next : ℕ) (request : List ℕ) : Type 0 where
  number : HasNumber request next
  spent : list_any (names_asked request) records ≡ true → list_any (opens request) records ≡ true

record IsGood (start : Held) (events : List Event) (records : List SpRecord) (next : ℕ) : Type 0 where
  are : AreRecords records
  least : next_of records ≤ next
  each : Each (WasOpened records next) (requests_of_run start events)
  different : AreDifferent (requests_of_run start events)

-- at the start
opened_was_asked : (request : List ℕ) (before later : List SpRecord) → AreRecordsAfter before later → list_any (opens request) later ≡ true
    → list_any (names_asked request) (before ++ later) ≡ true
opened_was_asked request before [] are some = absurd (false≢true some)
opened_was_asked request before (r ∷ later) are some =
    elim (or_cases (opens request r) (list_any (opens request) later) some) [
      | inl here ↦
          list_any-append (names_asked request) before (r ∷ later)
          ∙ or_left (list_any (names_asked request) before) (list_any (names_asked request) (r ∷ later)) (opens_rightly before r request are.0 here).asked
      | inr there ↦
          ap (list_any (names_asked request)) (sym (append_assoc before (r ∷ []) later))
          ∙ opened_was_asked request (before ++ r ∷ []) later are.1 there
    ]

spent_further : (r : SpRecord) (records : List SpRecord) (requests : List (List ℕ))
    → Each (λ request. list_any (opens request) records ≡ true) requests → Each (λ request. list_any (opens request) (r ∷ records) ≡ true) requests
spent_further r records =
    each_weaker (λ request. list_any (opens request) records ≡ true) (λ request. list_any (opens request) (r ∷ records) ≡ true)
    (λ request spent. or_right (opens request r) (list_any (opens request) records) spent)

all_spent : (records : List SpRecord) → Each (λ request. list_any (opens request) records ≡ true) (requests_opened records)
all_spent [] = tt
all_spent (kinds.Asked r ∷ later) = spent_further (kinds.Asked r) later (requests_opened later) (all_spent later)
all_spent (kinds.Opened r ∷ later) = (
  or_left (bytes_eq r.request r.request) (list_any (opens r.request) later) (text_itself r.request),
  spent_further (kinds.Opened r) later (requests_opened later) (all_spent later),
)
all_spent (kinds.Left r ∷ later) = spent_further (kinds.Left r) later (requests_opened later) (all_spent later)
all_spent (kinds.Ended r ∷ later) = spent_further (kinds.Ended r) later (requests_opened later) (all_spent later)
all_spent (kinds.Confirmed r ∷ later) = spent_further (kinds.Confirmed r) later (requests_opened later) (all_spent later)

at_start : (start : Held) → AreRecords start.records → IsGood start [] start.records (next_number start)
at_start start are = record {
  are = are;
  least = omega arith;
  each = each_weaker (λ request. list_any (opens request) start.records ≡ true) (WasOpened start.records (next_number start))
      (λ request spent. record {
        number = number_further request (next_of start.records) (next_number start) (omega arith)
            (asked_number request [] start.records are (opened_was_asked request [] start.records are spent));
        spent = λ asked. spent;
      }) (requests_opened start.records) (all_spent start.records);
  different = no_request_opens_twice start.records are;
}

-- one record more
module _ (held : Held) (r : SpRecord) (is : is_record held.records r ≡ true) (fresh : All (λ (d : Drawn). next_number held ≤ d.number) (drawn r)) where
  more : next_number held ≤ next_number (held_with r held)
  more = let grown = next_push held.records r in omega arith

  still_opened : (request : List ℕ) → WasOpened held.records (next_number held) request → WasOpened (held.records ++ r ∷ []) (next_number (held_with r held)) request
  still_opened request was =
      let unasked = not_asked (next_number held) r request
      (fresh_above (next_of held.records) (next_number held) (drawn r) (parts held.records r is).fresh fresh) was.number in
      record {
        number = number_further request (next_number held) (next_number (held_with r held)) more was.number;
        spent = λ asked.
            list_any-append (opens request) held.records (r ∷ [])
            ∙ or_left (list_any (opens request) held.records) (list_any (opens request) (r ∷ []))
            (elim (push_some (names_asked request) held.records r asked) [
              | inl before ↦ was.spent before
              | inr here ↦ absurd (false≢true (sym unasked ∙ here))
            ]);
      }

  all_still_opened : (requests : List (List ℕ)) → Each (WasOpened held.records (next_number held)) requests
      → Each (WasOpened (held.records ++ r ∷ []) (next_number (held_with r held))) requests
  all_still_opened = each_weaker (WasOpened held.records (next_number held)) (WasOpened (held.records ++ r ∷ []) (next_number (held_with r held))) still_opened

  now_opened : (request : List ℕ) → AreRecords held.records → opens request r ≡ true
      → WasOpened (held.records ++ r ∷ []) (next_number (held_with r held)) request
  now_opened request are here =
      let rightly = opens_rightly held.records r request is here in
      record {
        number = number_further request (next_of held.records) (next_number (held_with r held)) (omega (arith, more))
            (asked_number request [] held.records are rightly.asked);
        spent = λ asked.
            list_any-append (opens request) held.records (r ∷ [])
            ∙ or_right (list_any (opens request) held.records) (list_any (opens request) (r ∷ [])) (or_left (opens request r) false here);
      }

  not_before : (request other : List ℕ) → opens request r ≡ true → WasOpened held.records (next_number held) other → other ≢ request
  not_before request other here was same =
      let rightly = opens_rightly held.records r request is here in
      let spent : list_any (opens request) held.records ≡ true =
      subst (λ q. list_any (opens q) held.records ≡ true) same
      (was.spent (subst (λ q. list_any (names_asked q) held.records ≡ true) (sym same) rightly.asked)) in
      false≢true (sym rightly.unspent ∙ spent)

  one_opened : (request : List ℕ) (requests : List (List ℕ)) → opens request r ≡ true → Each (WasOpened held.records (next_number held)) requests
      → AreDifferent requests → AreDifferent (request ∷ requests)
  one_opened request requests here each different =
      one_more request requests
      (each_weaker (WasOpened held.records (next_number held)) (λ other. other ≢ request) (λ other was. not_before request other here was) requests each)
      different

added : (start held : Held) (past : List Event) (r : SpRecord) → is_record held.records r ≡ true
    → All (λ (d : Drawn). next_number held ≤ d.number) (drawn r)
    → IsGood start past held.records (next_number held)
    → IsGood start (Adds r ∷ past) (held.records ++ r ∷ []) (next_number (held_with r held))
added start held past (kinds.Opened r) is fresh good = record {
  are = AreRecords-push request_rules held.records (kinds.Opened r) good.are is;
  least = omega arith;
  each = (
    now_opened held (kinds.Opened r) is fresh r.request good.are (text_itself r.request),
    all_still_opened held (kinds.Opened r) is fresh (requests_of_run start past) good.each,
  );
  different = one_opened held (kinds.Opened r) is fresh r.request (requests_of_run start past) (text_itself r.request) good.each good.different;
}
added start held past (kinds.Asked r) is fresh good = record {
  are = AreRecords-push request_rules held.records (kinds.Asked r) good.are is;
  least = omega arith;
  each = all_still_opened held (kinds.Asked r) is fresh (requests_of_run start past) good.each;
  different = good.different;
}
added start held past (kinds.Left r) is fresh good = record {
  are = AreRecords-push request_rules held.records (kinds.Left r) good.are is;
  least = omega arith;
  each = all_still_opened held (kinds.Left r) is fresh (requests_of_run start past) good.each;
  different = good.different;
}
added start held past (kinds.Ended r) is fresh good = record {
  are = AreRecords-push request_rules held.records (kinds.Ended r) good.are is;
  least = omega arith;
  each = all_still_opened held (kinds.Ended r) is fresh (requests_of_run start past) good.each;
  different = good.different;
}
added start held past (kinds.Confirmed r) is fresh good = record {
  are = AreRecords-push request_rules held.records (kinds.Confirmed r) good.are is;
  least = omega arith;
  each = all_still_opened held (kinds.Confirmed r) is fresh (requests_of_run start past) good.each;
  different = good.different;
}

-- a compaction
compacted : (start before held : Held) (past : List Event) (now : ℕ) → IsCompacted now before held
    → IsGood start past before.records (next_number before) → IsGood start (Compacts now ∷ past) held.records (next_number held)
compacted start before held past now made good =
    let further : next_number before ≤ next_number held = omega (arith, made.next) in
    record {
      are = kept_are_records now before.header.horizon before.records held.records good.are made.records;
      least = omega arith;
      each = each_weaker (WasOpened before.records (next_number before)) (WasOpened held.records (next_number held))
          (λ request was. record {
            number = number_further request (next_number before) (next_number held) further was.number;
            spent = λ asked.
                spent_alike now before.header.horizon before.records held.records good.are made.records request asked
                ∙ was.spent (found_among_all (names_asked request) now before.header.horizon before.records held.records made.records asked);
          }) (requests_of_run start past) good.each;
      different = good.different;
    }

made_anew : (start before held : Held) (past : List Event) (now : ℕ) → IsMade now before held
    → IsGood start past before.records (next_number before) → IsGood start (Compacts now ∷ past) held.records (next_number held)
made_anew start before held past now (inl last) good =
    let same = subst (λ h. IsGood start past h.records (next_number h)) (sym last.1) good in
    record { are = same.are; least = same.least; each = same.each; different = same.different }
made_anew start before held past now (inr new) good = compacted start before held past now new.1 good

-- an opening
opened_anew : (start before : Held) (past : List Event)
    → IsGood start past before.records (next_number before) → IsGood start (Opens ∷ past) (migrated before).records (next_number (migrated before))
opened_anew start before past good =
    let same = elim (cases_Bool (before.version == 1)) as (λ _. IsGood start past (migrated before).records (next_number (migrated before))) [
      | inl old ↦ rw old good
      | inr new ↦ rw new good
    ] in
    record { are = same.are; least = same.least; each = same.each; different = same.different }

all_good : (start held : Held) (events : List Event) → AreRecords start.records → Leads start events held → IsGood start events held.records (next_number held)
all_good start held [] are leads = subst (λ h. IsGood start [] h.records (next_number h)) (sym leads) (at_start start are)
all_good start held (Adds r ∷ past) are leads =
    subst (λ h. IsGood start (Adds r ∷ past) h.records (next_number h)) (sym leads.4)
    (added start leads.0 past r leads.2 leads.3 (all_good start leads.0 past are leads.1))
all_good start held (Compacts now ∷ past) are leads = made_anew start leads.0 held past now leads.2 (all_good start leads.0 past are leads.1)
all_good start held (Opens ∷ past) are leads =
    subst (λ h. IsGood start (Opens ∷ past) h.records (next_number h)) (sym leads.2)
    (opened_anew start leads.0 past (all_good start leads.0 past are leads.1))

pub no_request_opens_twice_in_a_run : NoRequestOpensTwiceInARun
no_request_opens_twice_in_a_run start held events are leads = (all_good start held events are leads).different

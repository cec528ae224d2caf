-- No request backs two logins, in a ledger and over a whole run: as a service provider's ledger, a hub's opens none twice.
use Rattle.std.proofs.Common.{◌≡◌, ℕ, zero, suc, nat_lt, ◌&&◌, slice_index_or, ◌+◌, ◌≤◌, ◌==◌, max, Bool, true, false, List, [], ◌∷◌, ◌++◌, map, Option, None, Some, All, slice_get, refl, sym, ap, ◌∙◌, subst, inl, inr, arith}
use Rattle.std.specs.Prelude.{◌↔◌}
use Rattle.std.specs.Option.{option_map}
use Rattle.std.proofs.lemmas.Bool.{cases_Bool}
use Rattle.std.proofs.lemmas.List.{map_push, length-map}
use Rattle.std.proofs.lemmas.List.Elements.{All-head, All-nil, All-cons}
use Rattle.ledger_records.specs.declared.hub_record.HubRecord.{HubRecord}
use Rattle.ledger_records.specs.declared.hub_record.HubRecord.TheVariants as kinds
use Rattle.ledger_records.specs.declared.sp_record.SpRecord.{SpRecord}
use Rattle.ledger_rules.specs.Numbers.{Drawn}
use Rattle.ledger_rules.specs.Kept.{IsKept, selected}
use Rattle.request_rows.specs.declared.row.OpenedRow.{OpenedRow}
use Rattle.record_ledger.specs.Ledger as ledgers
use Rattle.record_ledger.specs.Compacting as compacting
use Rattle.record_ledger.specs.Compacting.{passes, relates_at}
use Rattle.record_ledger.specs.Runs as runs
use Rattle.record_ledger.specs.Runs.{Adds, Compacts, Opens}
use Rattle.record_ledger.proofs.Numbers as any
use Rattle.request_ledger.specs.Record as sp_record
use Rattle.request_ledger.specs.Naming as sp_naming
use Rattle.request_ledger.specs.Runs as sp_runs
use Rattle.request_ledger.proofs.RunOnce as sp_once
use Rattle.request_ledger.proofs.RunLaws as sp_laws
use Rattle.hub_ledger.specs.RowsOf.{opened_rows}
use Rattle.hub_ledger.specs.Naming.{has_visible, names}
use Rattle.hub_ledger.specs.Record.{drawn, hub_rules}
use Rattle.hub_ledger.specs.Ledger.{Held, next_number}
use Rattle.record_ledger.specs.Ledger.{held_with, migrated}
use Rattle.hub_ledger.specs.Compacting.{IsCompacted}
use Rattle.hub_ledger.specs.Runs.{Event, Leads, AreDifferent, requests_added}
use Rattle.hub_ledger.specs.Laws.{NoRequestBacksTwice, NoRequestBacksTwiceInARun}
use Rattle.hub_ledger.proofs.AsSp.{as_sp, all_as_sp, above_less, next_less, requests_same, is_sp_record, are_sp_records}

pub no_request_backs_twice : NoRequestBacksTwice
no_request_backs_twice records are =
    subst AreDifferent (requests_same records) (sp_once.no_request_opens_twice (all_as_sp records) (are_sp_records [] records are))

-- ---- what is kept

visible_same : (now horizon : ℕ) (r : HubRecord) → sp_naming.has_visible now horizon (as_sp r) ≡ has_visible now horizon r
visible_same now horizon (kinds.Routed r) = refl
visible_same now horizon (kinds.Backed r) = refl
visible_same now horizon (kinds.Spoke r) = refl

names_same : (later earlier : HubRecord) → sp_naming.names (as_sp later) (as_sp earlier) ≡ names later earlier
names_same (kinds.Routed r) earlier = refl
names_same (kinds.Backed r) (kinds.Routed e) = refl
names_same (kinds.Backed r) (kinds.Backed e) = refl
names_same (kinds.Backed r) (kinds.Spoke e) = refl
names_same (kinds.Spoke r) (kinds.Routed e) = refl
names_same (kinds.Spoke r) (kinds.Backed e) = refl
names_same (kinds.Spoke r) (kinds.Spoke e) = refl

-- what is read of records is read of them as others
got : {X Y : Type 0} (f : X → Y) (xs : List X) (k : ℕ) → slice_get (map f xs) k ≡ option_map f (slice_get xs k)
got f [] k = refl
got f (x ∷ xs) zero = refl
got f (x ∷ xs) (suc k) = got f xs k

passes_same : {X Y : Type 0} (f : X → Y) (test : Y → Bool) (found : Option X)
    → passes test (option_map f found) ≡ passes (λ x. test (f x)) found
passes_same f test None = refl
passes_same f test (Some x) = refl

seen_same : (now horizon : ℕ) (records : List HubRecord)
    → compacting.seen_at sp_record.request_rules now horizon (all_as_sp records) ≡ compacting.seen_at hub_rules now horizon records
seen_same now horizon records = λ i k.
    (ap (passes (sp_naming.has_visible now horizon)) (got as_sp records k) ∙ passes_same as_sp (sp_naming.has_visible now horizon) (slice_get records k)
    ∙ ap (λ test. passes test (slice_get records k)) (λ j r. visible_same now horizon r j)) i

named_there : (later : HubRecord) (found : Option HubRecord)
    → passes (sp_naming.names (as_sp later)) (option_map as_sp found) ≡ passes (names later) found
named_there later None = refl
named_there later (Some earlier) = names_same later earlier

names_there : (found other : Option HubRecord)
    → passes (λ later. passes (sp_naming.names later) (option_map as_sp other)) (option_map as_sp found)
    ≡ passes (λ later. passes (names later) other) found
names_there None other = refl
names_there (Some later) other = named_there later other

relates_same : (records : List HubRecord) (j k : ℕ)
    → compacting.names_at sp_record.request_rules (all_as_sp records) j k ≡ compacting.names_at hub_rules records j k
unfolding relates_at
relates_same records j k =
    ap (λ b. nat_lt k j && b)
    (ap (λ (found : Option SpRecord). passes (λ later. passes (sp_naming.names later) (slice_get (all_as_sp records) k)) found) (got as_sp records j)
    ∙ ap (λ (other : Option SpRecord). passes (λ later. passes (sp_naming.names later) other) (option_map as_sp (slice_get records j))) (got as_sp records k)
    ∙ names_there (slice_get records j) (slice_get records k))

naming_same : (records : List HubRecord)
    → compacting.names_at sp_record.request_rules (all_as_sp records) ≡ compacting.names_at hub_rules records
naming_same records = λ i j k. relates_same records j k i

selected_same : (flags : List Bool) (records : List HubRecord) → all_as_sp (selected flags records) ≡ selected flags (all_as_sp records)
selected_same [] [] = refl
selected_same [] (r ∷ records) = refl
selected_same (f ∷ flags) [] = refl
selected_same (true ∷ flags) (r ∷ records) = ap (λ rest. as_sp r ∷ rest) (selected_same flags records)
selected_same (false ∷ flags) (r ∷ records) = selected_same flags records

kept_as_sp : (now horizon : ℕ) (records kept : List HubRecord) → compacting.AreKept hub_rules now horizon records kept
    → compacting.AreKept sp_record.request_rules now horizon (all_as_sp records) (all_as_sp kept)
kept_as_sp now horizon records kept are = record {
  flags = are.flags;
  long = are.long ∙ sym (length-map records as_sp);
  each = λ k within.
      subst (λ seen. (slice_index_or are.flags k false ≡ true)
      ↔ IsKept seen (compacting.names_at sp_record.request_rules (all_as_sp records)) k) (sym (seen_same now horizon records))
      (subst (λ naming. (slice_index_or are.flags k false ≡ true)
      ↔ IsKept (compacting.seen_at hub_rules now horizon records) naming k) (sym (naming_same records))
      (are.each k (omega (arith, within, length-map records as_sp))));
  are = ap all_as_sp are.are ∙ selected_same are.flags records;
}

-- ---- a run

-- a hub's ledger as a service provider's, whose header has another next number
abbrev pub held_as_sp : ℕ → Held → ledgers.Held SpRecord
held_as_sp next held = record {
  file = held.file;
  version = held.version;
  header = record (held.header) { next = next };
  records = all_as_sp held.records;
}

-- its next number is at most the hub's
abbrev IsLess : ℕ → Held → Type 0
IsLess next held = max next (sp_record.next_of (all_as_sp held.records)) ≤ next_number held

abbrev events_as_sp : List Event → List (runs.Event SpRecord)
events_as_sp [] = []
events_as_sp (Adds r ∷ past) = Adds (as_sp r) ∷ events_as_sp past
events_as_sp (Compacts now ∷ past) = Compacts now ∷ events_as_sp past
events_as_sp (Opens ∷ past) = Opens ∷ events_as_sp past

-- the run of the hub's ledger is one of such a ledger
record LeadsAsSp (first : ℕ) (start : Held) (events : List Event) (held : Held) : Type 0 where
  next : ℕ
  less : IsLess next held
  leads : sp_runs.Leads (held_as_sp first start) (events_as_sp events) (held_as_sp next held)

fewer_numbers : (least lower : ℕ) (r : HubRecord) → lower ≤ least → All (λ (d : Drawn). least ≤ d.number) (drawn r)
    → All (λ (d : Drawn). lower ≤ d.number) (sp_record.drawn (as_sp r))
fewer_numbers least lower (kinds.Routed r) low all =
    let P : Drawn → Type 0 = λ (d : Drawn). least ≤ d.number in
    let Q : Drawn → Type 0 = λ (d : Drawn). lower ≤ d.number in
    let one : Drawn = record { number = r.first; id = r.request } in
    let two : Drawn = record { number = r.first + 1; id = r.relay } in
    let first : P one = All-head P one (two ∷ []) all in
    All-cons Q one (two ∷ []) (omega (arith, first, low)) (All-cons Q two [] (omega (arith, first, low)) (All-nil Q))
fewer_numbers least lower (kinds.Backed r) low all =
    let P : Drawn → Type 0 = λ (d : Drawn). least ≤ d.number in
    let Q : Drawn → Type 0 = λ (d : Drawn). lower ≤ d.number in
    let one : Drawn = record { number = r.first; id = r.assertion } in
    let others : List Drawn = record { number = r.first + 1; id = r.message } ∷ record { number = r.first + 2; id = r.index } ∷ [] in
    let first : P one = All-head P one others all in
    All-cons Q one [] (omega (arith, first, low)) (All-nil Q)
fewer_numbers least lower (kinds.Spoke r) low all =
    let P : Drawn → Type 0 = λ (d : Drawn). least ≤ d.number in
    let Q : Drawn → Type 0 = λ (d : Drawn). lower ≤ d.number in
    let one : Drawn = record { number = r.first; id = r.message } in
    let first : P one = All-head P one [] all in
    All-cons Q one [] (omega (arith, first, low)) (All-nil Q)

pub compacted_as_sp : (next now : ℕ) (before held : Held) → IsCompacted now before held
    → compacting.IsCompacted sp_record.request_rules now (held_as_sp next before)
    (held_as_sp (ledgers.next_number sp_record.request_rules (held_as_sp next before)) held)
compacted_as_sp next now before held made = record {
  file = made.file;
  version = made.version;
  generation = made.generation;
  horizon = made.horizon;
  next = refl;
  records = kept_as_sp now before.header.horizon before.records held.records made.records;
}

opened_as_sp : (next : ℕ) (before : Held) → held_as_sp next (migrated before) ≡ ledgers.migrated (held_as_sp next before)
opened_as_sp next before = elim (cases_Bool (before.version == 1)) as (λ _. held_as_sp next (migrated before) ≡ ledgers.migrated (held_as_sp next before)) [
  | inl old ↦ rw old refl
  | inr new ↦ rw new refl
]

opened_less : (next : ℕ) (before : Held) → IsLess next before → IsLess next (migrated before)
opened_less next before less = elim (cases_Bool (before.version == 1)) as (λ _. IsLess next (migrated before)) [
  | inl old ↦ rw old less
  | inr new ↦ rw new less
]

leads_as_sp : (first : ℕ) (start held : Held) (events : List Event) → IsLess first start → Leads start events held → LeadsAsSp first start events held
leads_as_sp first start held [] less leads = record {
  next = first;
  less = subst (IsLess first) (sym leads) less;
  leads = ap (held_as_sp first) leads;
}
leads_as_sp first start held (Adds r ∷ past) less leads =
    let before = leads.0 in
    let was = leads_as_sp first start before past less leads.1 in
    let grown = any.next_push hub_rules before.records r in
    let fewer = any.next_push sp_record.request_rules (all_as_sp before.records) (as_sp r) in
    let more : IsLess was.next (held_with r before) =
    subst (λ (rs : List SpRecord). max was.next (sp_record.next_of rs) ≤ next_number (held_with r before)) (sym (map_push as_sp before.records r))
    (omega (arith, grown, fewer, above_less r, was.less)) in
    record {
      next = was.next;
      less = subst (IsLess was.next) (sym leads.4) more;
      leads = (
        held_as_sp was.next before,
        was.leads,
        is_sp_record before.records r leads.2,
        fewer_numbers (next_number before) (ledgers.next_number sp_record.request_rules (held_as_sp was.next before)) r was.less leads.3,
        ap (held_as_sp was.next) leads.4 ∙ ap (λ (rs : List SpRecord). record (held_as_sp was.next before) { records = rs }) (map_push as_sp before.records r),
      );
    }
leads_as_sp first start held (Compacts now ∷ past) less leads =
    let before = leads.0 in
    let was = leads_as_sp first start before past less leads.1 in
    elim leads.2 as (λ _. LeadsAsSp first start (Compacts now ∷ past) held) [
      | inl last ↦ record {
        next = was.next;
        less = subst (IsLess was.next) (sym last.1) was.less;
        leads = (held_as_sp was.next before, was.leads, inl (last.0, ap (held_as_sp was.next) last.1));
      }
      | inr made ↦ record {
        next = ledgers.next_number sp_record.request_rules (held_as_sp was.next before);
        less = omega (arith, was.less, made.1.next, next_less held.records);
        leads = (held_as_sp was.next before, was.leads, inr (made.0, compacted_as_sp was.next now before held made.1));
      }
    ]
leads_as_sp first start held (Opens ∷ past) less leads =
    let before = leads.0 in
    let was = leads_as_sp first start before past less leads.1 in
    record {
      next = was.next;
      less = subst (IsLess was.next) (sym leads.2) (opened_less was.next before was.less);
      leads = (held_as_sp was.next before, was.leads, ap (held_as_sp was.next) leads.2 ∙ opened_as_sp was.next before);
    }

added_same : (events : List Event) → sp_runs.requests_added (events_as_sp events) ≡ requests_added events
added_same [] = refl
added_same (Adds (kinds.Routed r) ∷ past) = added_same past
added_same (Adds (kinds.Backed r) ∷ past) = ap (λ rest. r.request ∷ rest) (added_same past)
added_same (Adds (kinds.Spoke r) ∷ past) = added_same past
added_same (Compacts now ∷ past) = added_same past
added_same (Opens ∷ past) = added_same past

pub no_request_backs_twice_in_a_run : NoRequestBacksTwiceInARun
no_request_backs_twice_in_a_run start held events are leads =
    let was = leads_as_sp start.header.next start held events (omega (arith, next_less start.records)) leads in
    let different = sp_laws.no_request_opens_twice_in_a_run (held_as_sp start.header.next start) (held_as_sp was.next held) (events_as_sp events)
    (are_sp_records [] start.records are) was.leads in
    subst (λ added. AreDifferent (added ++ map (λ (row : OpenedRow). row.request) (opened_rows start.records))) (added_same events)
    (subst (λ opened. AreDifferent (sp_runs.requests_added (events_as_sp events) ++ opened)) (requests_same start.records) different)

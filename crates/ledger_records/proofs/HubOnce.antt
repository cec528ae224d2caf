-- A payload is one record of a hub at most, and is read as that one.
use Rattle.std.proofs.Common.{◌≡◌, ℕ, ◌<◌, ◌^◌, length, None, cond, Bool, true, false, nat_lt, ◌≤◌, List, Option, Some, refl, sym, ap, ◌∙◌}
use Rattle.std.specs.Prelude.{map}
use Rattle.std.proofs.lemmas.Bool.{lt-ltb, le-ltb}
use Rattle.ledger_records.specs.declared.hub_record.HubRecord.{HubRecord}
use Rattle.ledger_records.specs.declared.hub_record.HubRecord.TheVariants as kinds
use Rattle.ledger_records.specs.Fields.{Field}
use Rattle.ledger_records.specs.HubRecord.{hub_parts, IsHubPayload}
use Rattle.ledger_records.specs.Reading.{record_in}
use Rattle.ledger_records.proofs.Fronts.{IsBytes, some_is}
use Rattle.ledger_records.proofs.Lists.{form_of, record_takes, record_again}
use Rattle.ledger_records.specs.HubFound.{hub_forms, hub_from, hub_record}

-- ---- the record of given fields

hub_again : (r : HubRecord) → hub_from (hub_parts r).1 ≡ Some r
hub_again (kinds.Routed r) = refl
hub_again (kinds.Backed r) = refl
hub_again (kinds.Spoke r) = refl

forms_are : (r : HubRecord) → hub_forms (hub_parts r).0 ≡ Some (map form_of (hub_parts r).1)
forms_are (kinds.Routed r) = refl
forms_are (kinds.Backed r) = refl
forms_are (kinds.Spoke r) = refl

-- ---- a payload

-- a record's payload is read as its kind and fields
pub is_read : (payload : List ℕ) (r : HubRecord) → IsHubPayload payload r → record_in hub_forms payload ≡ Some (hub_parts r)
is_read payload r h = record_again hub_forms payload (hub_parts r).0 (hub_parts r).1 (forms_are r) h.spelled h.short h.fields

pub once : (payload : List ℕ) (one other : HubRecord) → IsHubPayload payload one → IsHubPayload payload other → one ≡ other
once payload one other a b =
    let same : (hub_parts one) ≡ (hub_parts other) = some_is _ _ (sym (is_read payload one a) ∙ is_read payload other b) in
    some_is _ _ (sym (hub_again one) ∙ ap (λ (p : ℕ × List Field). hub_from p.1) same ∙ hub_again other)

-- what is read is that record's payload
pub is_found : (payload : List ℕ) (r : HubRecord) → IsBytes payload → length payload < 2 ^ 32 → record_in hub_forms payload ≡ Some (hub_parts r) → IsHubPayload payload r
is_found payload r fits short read =
    let t = record_takes hub_forms payload (hub_parts r).0 (hub_parts r).1 fits read in
    record { spelled = t.0; short = short; fields = t.1 }

-- what is not read is no record's payload
pub is_none : (payload : List ℕ) → record_in hub_forms payload ≡ None → (r : HubRecord) → ¬ (IsHubPayload payload r)
is_none payload none r h = absurd (cc (is_read payload r h))

-- a record's payload is found as the record
pub is_the_record : (payload : List ℕ) (r : HubRecord) → IsHubPayload payload r → hub_record payload ≡ Some r
unfolding hub_record
is_the_record payload r h = rw (lt-ltb (length payload) (2 ^ 32) h.short) (rw (is_read payload r h) (hub_again r))

-- what is read is the record that is found
pub found_is : (payload : List ℕ) (r : HubRecord) → length payload < 2 ^ 32 → record_in hub_forms payload ≡ Some (hub_parts r) → hub_record payload ≡ Some r
unfolding hub_record
found_is payload r short read = rw (lt-ltb (length payload) (2 ^ 32) short) (rw read (hub_again r))

abbrev none_of : Option HubRecord
none_of = None

none_either : (b : Bool) → cond b none_of none_of ≡ none_of
none_either true = refl
none_either false = refl

pub none_is : (payload : List ℕ) → record_in hub_forms payload ≡ None → hub_record payload ≡ None
unfolding hub_record
none_is payload none = rw none (none_either (nat_lt (length payload) (2 ^ 32)))

pub too_long_is_none : (payload : List ℕ) → 2 ^ 32 ≤ length payload → hub_record payload ≡ None
unfolding hub_record
too_long_is_none payload long = rw (le-ltb (length payload) (2 ^ 32) long) refl

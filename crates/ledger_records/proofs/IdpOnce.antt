-- A payload is one record of an identity provider at most, and is read as that one.
use Rattle.std.proofs.Common.{◌≡◌, ℕ, ◌<◌, ◌^◌, length, None, cond, Bool, true, false, nat_lt, ◌≤◌, List, Option, Some, refl, sym, ap, ◌∙◌}
use Rattle.std.specs.Prelude.{map}
use Rattle.std.proofs.lemmas.Bool.{lt-ltb, le-ltb}
use Rattle.ledger_records.specs.declared.idp_record.IdpRecord.{IdpRecord}
use Rattle.ledger_records.specs.declared.idp_record.IdpRecord.TheVariants as kinds
use Rattle.ledger_records.specs.Fields.{Field}
use Rattle.ledger_records.specs.IdpRecord.{idp_parts, IsIdpPayload}
use Rattle.ledger_records.specs.Reading.{idp_forms, record_in}
use Rattle.ledger_records.proofs.Fronts.{IsBytes, some_is}
use Rattle.ledger_records.proofs.Lists.{form_of, record_takes, record_again}
use Rattle.ledger_records.specs.Found.{idp_from, idp_record}

-- ---- the record of given fields

idp_again : (r : IdpRecord) → idp_from (idp_parts r).1 ≡ Some r
idp_again (kinds.Pending r) = refl
idp_again (kinds.Issued r) = refl
idp_again (kinds.Ended r) = refl
idp_again (kinds.Left r) = refl
idp_again (kinds.Confirmed r) = refl
idp_again (kinds.Spoke r) = refl
idp_again (kinds.Round r) = refl
idp_again (kinds.Told r) = refl

forms_are : (r : IdpRecord) → idp_forms (idp_parts r).0 ≡ Some (map form_of (idp_parts r).1)
forms_are (kinds.Pending r) = refl
forms_are (kinds.Issued r) = refl
forms_are (kinds.Ended r) = refl
forms_are (kinds.Left r) = refl
forms_are (kinds.Confirmed r) = refl
forms_are (kinds.Spoke r) = refl
forms_are (kinds.Round r) = refl
forms_are (kinds.Told r) = refl

-- ---- a payload

-- a record's payload is read as its kind and fields
pub is_read : (payload : List ℕ) (r : IdpRecord) → IsIdpPayload payload r → record_in idp_forms payload ≡ Some (idp_parts r)
is_read payload r h = record_again idp_forms payload (idp_parts r).0 (idp_parts r).1 (forms_are r) h.spelled h.short h.fields

pub once : (payload : List ℕ) (one other : IdpRecord) → IsIdpPayload payload one → IsIdpPayload payload other → one ≡ other
once payload one other a b =
    let same : (idp_parts one) ≡ (idp_parts other) = some_is _ _ (sym (is_read payload one a) ∙ is_read payload other b) in
    some_is _ _ (sym (idp_again one) ∙ ap (λ (p : ℕ × List Field). idp_from p.1) same ∙ idp_again other)

-- what is read is that record's payload
pub is_found : (payload : List ℕ) (r : IdpRecord) → IsBytes payload → length payload < 2 ^ 32 → record_in idp_forms payload ≡ Some (idp_parts r) → IsIdpPayload payload r
is_found payload r fits short read =
    let t = record_takes idp_forms payload (idp_parts r).0 (idp_parts r).1 fits read in
    record { spelled = t.0; short = short; fields = t.1 }

-- what is not read is no record's payload
pub is_none : (payload : List ℕ) → record_in idp_forms payload ≡ None → (r : IdpRecord) → ¬ (IsIdpPayload payload r)
is_none payload none r h = absurd (cc (is_read payload r h))

-- a record's payload is found as the record
pub is_the_record : (payload : List ℕ) (r : IdpRecord) → IsIdpPayload payload r → idp_record payload ≡ Some r
unfolding idp_record
is_the_record payload r h = rw (lt-ltb (length payload) (2 ^ 32) h.short) (rw (is_read payload r h) (idp_again r))

-- what is read is the record that is found
pub found_is : (payload : List ℕ) (r : IdpRecord) → length payload < 2 ^ 32 → record_in idp_forms payload ≡ Some (idp_parts r) → idp_record payload ≡ Some r
unfolding idp_record
found_is payload r short read = rw (lt-ltb (length payload) (2 ^ 32) short) (rw read (idp_again r))

abbrev none_of : Option IdpRecord
none_of = None

none_either : (b : Bool) → cond b none_of none_of ≡ none_of
none_either true = refl
none_either false = refl

pub none_is : (payload : List ℕ) → record_in idp_forms payload ≡ None → idp_record payload ≡ None
unfolding idp_record
none_is payload none = rw none (none_either (nat_lt (length payload) (2 ^ 32)))

pub too_long_is_none : (payload : List ℕ) → 2 ^ 32 ≤ length payload → idp_record payload ≡ None
unfolding idp_record
too_long_is_none payload long = rw (le-ltb (length payload) (2 ^ 32) long) refl

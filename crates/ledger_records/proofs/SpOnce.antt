-- A payload is one record of a service provider at most, and is read as that one.
use Rattle.std.proofs.Common.{◌≡◌, ℕ, ◌<◌, ◌≤◌, ◌^◌, nat_lt, length, None, Bool, true, false, cond, eqb, List, [], ◌∷◌, Option, Some, refl, sym, ap, ◌∙◌}
use Rattle.std.specs.Prelude.{map}
use Rattle.std.proofs.lemmas.Bool.{eqb-true, lt-ltb, le-ltb}
use Rattle.ledger_records.specs.declared.key_number.KeyNumber.{KeyNumber}
use Rattle.ledger_records.specs.declared.key_number.KeyNumber.TheVariants.{First}
use Rattle.ledger_records.specs.declared.sp_record.SpRecord.{SpRecord}
use Rattle.ledger_records.specs.declared.sp_record.SpRecord.TheVariants as kinds
use Rattle.ledger_records.specs.Fields.{Field, Key}
use Rattle.ledger_records.specs.SpRecord.{sp_parts, IsOfVersion, IsSpPayload}
use Rattle.ledger_records.specs.Reading.{KeyForm, sp_forms, record_in}
use Rattle.ledger_records.proofs.Fronts.{IsBytes, some_is}
use Rattle.ledger_records.proofs.Lists.{form_of, record_takes, record_again}
use Rattle.ledger_records.specs.Found.{key_from, sp_from, sp_record}
use Rattle.owned_values.specs.Options.{◌>>=◌}

-- ---- the record of given fields

-- the key that is found again
key_again : (b : Bool) (key : KeyNumber) → (b ≡ true → key ≡ First) → key_from (cond b [] (Key key ∷ [])) ≡ Some key
key_again true key first = ap Some (sym (first refl))
key_again false key first = refl

sp_again : (version : ℕ) (r : SpRecord) → IsOfVersion version r → sp_from (sp_parts version r).1 ≡ Some r
sp_again version (kinds.Asked r) first = refl
sp_again version (kinds.Opened r) first =
    ap (λ (found : Option KeyNumber). found >>= λ key. Some (kinds.Opened (record r { key = key }))) (key_again (eqb version 1) r.key (λ is. first (eqb-true version 1 is)))
sp_again version (kinds.Left r) first = refl
sp_again version (kinds.Ended r) first = refl
sp_again version (kinds.Confirmed r) first = refl

-- ---- the forms of its fields

key_forms-are : (b : Bool) (key : KeyNumber) → cond b [] (KeyForm ∷ []) ≡ map form_of (cond b [] (Key key ∷ []))
key_forms-are true key = refl
key_forms-are false key = refl

forms_are : (version : ℕ) (r : SpRecord) → sp_forms version (sp_parts version r).0 ≡ Some (map form_of (sp_parts version r).1)
forms_are version (kinds.Asked r) = refl
forms_are version (kinds.Opened r) = rw (key_forms-are (eqb version 1) r.key) refl
forms_are version (kinds.Left r) = refl
forms_are version (kinds.Ended r) = refl
forms_are version (kinds.Confirmed r) = refl

-- ---- a payload

-- a record's payload is read as its kind and fields
pub is_read : (version : ℕ) (payload : List ℕ) (r : SpRecord) → IsSpPayload version payload r → record_in (sp_forms version) payload ≡ Some (sp_parts version r)
is_read version payload r h = record_again (sp_forms version) payload (sp_parts version r).0 (sp_parts version r).1 (forms_are version r) h.spelled h.short h.fields

pub once : (version : ℕ) (payload : List ℕ) (one other : SpRecord) → IsSpPayload version payload one → IsSpPayload version payload other → one ≡ other
once version payload one other a b =
    let same : (sp_parts version one) ≡ (sp_parts version other) = some_is _ _ (sym (is_read version payload one a) ∙ is_read version payload other b) in
    some_is _ _ (sym (sp_again version one a.key) ∙ ap (λ (p : ℕ × List Field). sp_from p.1) same ∙ sp_again version other b.key)

-- what is read is that record's payload
pub is_found : (version : ℕ) (payload : List ℕ) (r : SpRecord) → IsBytes payload → length payload < 2 ^ 32 → record_in (sp_forms version) payload ≡ Some (sp_parts version r) → IsOfVersion version r → IsSpPayload version payload r
is_found version payload r fits short read first =
    let t = record_takes (sp_forms version) payload (sp_parts version r).0 (sp_parts version r).1 fits read in
    record { spelled = t.0; short = short; fields = t.1; key = first }

-- what is not read is no record's payload
pub is_none : (version : ℕ) (payload : List ℕ) → record_in (sp_forms version) payload ≡ None → (r : SpRecord) → ¬ (IsSpPayload version payload r)
is_none version payload none r h = absurd (cc (is_read version payload r h))

-- a record's payload is found as the record
pub is_the_record : (version : ℕ) (payload : List ℕ) (r : SpRecord) → IsSpPayload version payload r → sp_record version payload ≡ Some r
unfolding sp_record
is_the_record version payload r h =
    rw (lt-ltb (length payload) (2 ^ 32) h.short) (rw (is_read version payload r h) (sp_again version r h.key))

-- what is read is the record that is found
pub found_is : (version : ℕ) (payload : List ℕ) (r : SpRecord) → length payload < 2 ^ 32 → record_in (sp_forms version) payload ≡ Some (sp_parts version r) → IsOfVersion version r → sp_record version payload ≡ Some r
unfolding sp_record
found_is version payload r short read first = rw (lt-ltb (length payload) (2 ^ 32) short) (rw read (sp_again version r first))

abbrev none_of : Option SpRecord
none_of = None

none_either : (b : Bool) → cond b none_of none_of ≡ none_of
none_either true = refl
none_either false = refl

pub none_is : (version : ℕ) (payload : List ℕ) → record_in (sp_forms version) payload ≡ None → sp_record version payload ≡ None
unfolding sp_record
none_is version payload none = rw none (none_either (nat_lt (length payload) (2 ^ 32)))

pub too_long_is_none : (version : ℕ) (payload : List ℕ) → 2 ^ 32 ≤ length payload → sp_record version payload ≡ None
unfolding sp_record
too_long_is_none version payload long = rw (le-ltb (length payload) (2 ^ 32) long) refl

-- The record of a service provider that is found in a payload is the one whose bytes the payload is.
use Rattle.std.proofs.Common.{◌≡◌, ℕ, ◌<◌, inl, inr, Bool, true, false, cond, eqb, List, [], ◌∷◌, Some, None, refl, ap, subst, ◌∙◌}
use Rattle.std.specs.List.{All}
use Rattle.ledger_records.specs.declared.sp_record.SpRecord.{SpRecord}
use Rattle.ledger_records.specs.Fields.{Field}
use Rattle.ledger_records.specs.SpRecord.{sp_parts, IsOfVersion, IsSpPayload}
use Rattle.ledger_records.specs.Reading.{Form, NumberForm, TextForm, OptionalForm, TextsForm, AttributesForm, KeyForm, confirmed_forms, sp_forms}
use Rattle.ledger_records.specs.Found.{sp_from, sp_record}
use Rattle.ledger_records.proofs.Fronts.{some_is}
use Rattle.ledger_records.proofs.Back.{with_values, is_read_so, is_parted, either_kind, bytes_each, Back, at_kind}
use Rattle.ledger_records.proofs.SpOnce.{is_found}

-- a record has this kind and these fields
abbrev Has : ℕ → ℕ → List Field → SpRecord → Type 0
Has version kind fs r = ((kind, fs) ≡ sp_parts version r) × IsOfVersion version r

abbrev asked : List Form
asked = NumberForm ∷ NumberForm ∷ NumberForm ∷ TextForm ∷ TextForm ∷ TextForm ∷ []

abbrev opened : Bool → List Form
opened first =
    NumberForm ∷ NumberForm ∷ NumberForm ∷ TextForm ∷ TextForm ∷ TextForm ∷ NumberForm ∷ TextForm ∷ TextForm
    ∷ OptionalForm ∷ AttributesForm ∷ cond first [] (KeyForm ∷ [])

abbrev left : List Form
left = NumberForm ∷ NumberForm ∷ NumberForm ∷ TextForm ∷ TextForm ∷ []

abbrev ended : List Form
ended = NumberForm ∷ NumberForm ∷ TextsForm ∷ TextForm ∷ TextForm ∷ []

asked_back : (version : ℕ) → Back sp_from (Has version) 1 asked
asked_back version vs r e = subst (Has version 1 (with_values asked vs)) (some_is _ r e) (refl, tt)

opened_back : (version : ℕ) (first : Bool) → eqb version 1 ≡ first → Back sp_from (Has version) 2 (opened first)
opened_back version true is vs r e =
    subst (Has version 2 (with_values (opened true) vs)) (some_is _ r e) (rw is refl, λ one. refl)
opened_back version false is vs r e =
    subst (Has version 2 (with_values (opened false) vs)) (some_is _ r e)
    (rw is refl, λ one. absurd (cc (rw one at is)))

left_back : (version : ℕ) → Back sp_from (Has version) 3 left
left_back version vs r e = subst (Has version 3 (with_values left vs)) (some_is _ r e) (refl, tt)

ended_back : (version : ℕ) → Back sp_from (Has version) 4 ended
ended_back version vs r e = subst (Has version 4 (with_values ended vs)) (some_is _ r e) (refl, tt)

confirmed_back : (version : ℕ) → Back sp_from (Has version) 5 confirmed_forms
confirmed_back version vs r e = subst (Has version 5 (with_values confirmed_forms vs)) (some_is _ r e) (refl, tt)

to : (version kind n : ℕ) (forms found : List Form) → kind ≡ n → Some forms ≡ Some found
    → Back sp_from (Has version) n forms → Back sp_from (Has version) kind found
to version = at_kind sp_from (Has version)

back : (version kind : ℕ) (found : List Form) → sp_forms version kind ≡ Some found
    → Back sp_from (Has version) kind found
back version kind found e =
    elim (either_kind kind 1 _ _ found e) [
      | inl (is, same) ↦ to version kind 1 asked found is same (asked_back version)
      | inr others ↦ elim (either_kind kind 2 _ _ found others) [
        | inl (is, same) ↦ to version kind 2 _ found is same (opened_back version (eqb version 1) refl)
        | inr others ↦ elim (either_kind kind 3 _ _ found others) [
          | inl (is, same) ↦ to version kind 3 left found is same (left_back version)
          | inr others ↦ elim (either_kind kind 4 _ _ found others) [
            | inl (is, same) ↦ to version kind 4 ended found is same (ended_back version)
            | inr others ↦ elim (either_kind kind 5 (Some confirmed_forms) None found others) [
              | inl (is, same) ↦ to version kind 5 confirmed_forms found is same (confirmed_back version)
              | inr none ↦ absurd (cc none)
            ]
          ]
        ]
      ]
    ]

-- what is found in bytes is the record whose payload they are
pub is_its_payload : (version : ℕ) (payload : List ℕ) (r : SpRecord) → All (λ b. b < 256) payload
    → sp_record version payload ≡ Some r → IsSpPayload version payload r
unfolding sp_record
is_its_payload version payload r bytes e =
    let p = is_parted (sp_forms version) sp_from payload r e in
    let q = is_read_so (sp_forms version) payload p.kind p.fields p.read in
    let h = back version p.kind q.found q.are q.values r (rw (← q.fields) p.is) in
    let same : (p.kind, p.fields) ≡ sp_parts version r = ap (λ (fs : List Field). (p.kind, fs)) q.fields ∙ h.0 in
    is_found version payload r (bytes_each payload bytes) p.short (rw (← same) p.read) h.1

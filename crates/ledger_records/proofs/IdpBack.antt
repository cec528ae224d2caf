-- The record of an identity provider that is found in a payload is the one whose bytes the payload is.
use Rattle.std.proofs.Common.{◌≡◌, ℕ, ◌<◌, inl, inr, List, [], ◌∷◌, Some, None, refl, ap, subst, ◌∙◌}
use Rattle.std.specs.List.{All}
use Rattle.ledger_records.specs.declared.idp_record.IdpRecord.{IdpRecord}
use Rattle.ledger_records.specs.Fields.{Field}
use Rattle.ledger_records.specs.IdpRecord.{idp_parts, IsIdpPayload}
use Rattle.ledger_records.specs.Reading.{Form, NumberForm, TextForm, OptionalForm, TextsForm, AttributesForm, AskerForm, TurnsForm, FlagForm, confirmed_forms, spoke_forms, idp_forms}
use Rattle.ledger_records.specs.Found.{idp_from, idp_record}
use Rattle.ledger_records.proofs.Fronts.{some_is}
use Rattle.ledger_records.proofs.Back.{with_values, is_read_so, is_parted, either_kind, bytes_each, Back, at_kind}
use Rattle.ledger_records.proofs.IdpOnce.{is_found}

-- a record has this kind and these fields
abbrev Has : ℕ → List Field → IdpRecord → Type 0
Has kind fs r = (kind, fs) ≡ idp_parts r

abbrev pending : List Form
pending = NumberForm ∷ NumberForm ∷ NumberForm ∷ TextForm ∷ TextForm ∷ TextForm ∷ TextForm ∷ OptionalForm ∷ []

abbrev issued : List Form
issued =
    NumberForm ∷ NumberForm ∷ OptionalForm ∷ TextForm ∷ TextForm ∷ NumberForm ∷ TextForm ∷ TextForm ∷ TextForm
    ∷ TextForm ∷ TextForm ∷ TextForm ∷ OptionalForm ∷ NumberForm ∷ AttributesForm ∷ []

abbrev ended : List Form
ended = NumberForm ∷ NumberForm ∷ TextsForm ∷ TextForm ∷ TextForm ∷ TextForm ∷ FlagForm ∷ []

abbrev left : List Form
left = NumberForm ∷ NumberForm ∷ NumberForm ∷ TextForm ∷ TextForm ∷ TextForm ∷ []

abbrev round : List Form
round = NumberForm ∷ NumberForm ∷ NumberForm ∷ TextForm ∷ TextForm ∷ TextsForm ∷ AskerForm ∷ TurnsForm ∷ FlagForm ∷ []

abbrev told : List Form
told = NumberForm ∷ NumberForm ∷ TextForm ∷ FlagForm ∷ OptionalForm ∷ []

pending_back : Back idp_from Has 11 pending
pending_back vs r e = subst (Has 11 (with_values pending vs)) (some_is _ r e) refl

issued_back : Back idp_from Has 12 issued
issued_back vs r e = subst (Has 12 (with_values issued vs)) (some_is _ r e) refl

ended_back : Back idp_from Has 13 ended
ended_back vs r e = subst (Has 13 (with_values ended vs)) (some_is _ r e) refl

left_back : Back idp_from Has 14 left
left_back vs r e = subst (Has 14 (with_values left vs)) (some_is _ r e) refl

confirmed_forms_back : Back idp_from Has 15 confirmed_forms
confirmed_forms_back vs r e = subst (Has 15 (with_values confirmed_forms vs)) (some_is _ r e) refl

spoke_forms_back : Back idp_from Has 16 spoke_forms
spoke_forms_back vs r e = subst (Has 16 (with_values spoke_forms vs)) (some_is _ r e) refl

round_back : Back idp_from Has 17 round
round_back vs r e = subst (Has 17 (with_values round vs)) (some_is _ r e) refl

told_back : Back idp_from Has 18 told
told_back vs r e = subst (Has 18 (with_values told vs)) (some_is _ r e) refl

back : (kind : ℕ) (found : List Form) → idp_forms kind ≡ Some found → Back idp_from Has kind found
back kind found e =
    elim (either_kind kind 11 _ _ found e) [
      | inl (is, same) ↦ at_kind idp_from Has kind 11 pending found is same pending_back
      | inr others ↦ elim (either_kind kind 12 _ _ found others) [
        | inl (is, same) ↦ at_kind idp_from Has kind 12 issued found is same issued_back
        | inr others ↦ elim (either_kind kind 13 _ _ found others) [
          | inl (is, same) ↦ at_kind idp_from Has kind 13 ended found is same ended_back
          | inr others ↦ elim (either_kind kind 14 _ _ found others) [
            | inl (is, same) ↦ at_kind idp_from Has kind 14 left found is same left_back
            | inr others ↦ elim (either_kind kind 15 _ _ found others) [
              | inl (is, same) ↦ at_kind idp_from Has kind 15 confirmed_forms found is same confirmed_forms_back
              | inr others ↦ elim (either_kind kind 16 _ _ found others) [
                | inl (is, same) ↦ at_kind idp_from Has kind 16 spoke_forms found is same spoke_forms_back
                | inr others ↦ elim (either_kind kind 17 _ _ found others) [
                  | inl (is, same) ↦ at_kind idp_from Has kind 17 round found is same round_back
                  | inr others ↦ elim (either_kind kind 18 (Some told) None found others) [
                    | inl (is, same) ↦ at_kind idp_from Has kind 18 told found is same told_back
                    | inr none ↦ absurd (cc none)
                  ]
                ]
              ]
            ]
          ]
        ]
      ]
    ]

-- what is found in bytes is the record whose payload they are
pub is_its_payload : (payload : List ℕ) (r : IdpRecord) → All (λ b. b < 256) payload → idp_record payload ≡ Some r
    → IsIdpPayload payload r
unfolding idp_record
is_its_payload payload r bytes e =
    let p = is_parted idp_forms idp_from payload r e in
    let q = is_read_so idp_forms payload p.kind p.fields p.read in
    let h = back p.kind q.found q.are q.values r (rw (← q.fields) p.is) in
    let same : (p.kind, p.fields) ≡ idp_parts r = ap (λ (fs : List Field). (p.kind, fs)) q.fields ∙ h in
    is_found payload r (bytes_each payload bytes) p.short (rw (← same) p.read)

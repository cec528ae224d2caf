-- The record of a hub that is found in a payload is the one whose bytes the payload is.
use Rattle.std.proofs.Common.{◌≡◌, ℕ, ◌<◌, inl, inr, List, [], ◌∷◌, Some, None, refl, ap, subst, ◌∙◌}
use Rattle.std.specs.List.{All}
use Rattle.ledger_records.specs.declared.hub_record.HubRecord.{HubRecord}
use Rattle.ledger_records.specs.Fields.{Field}
use Rattle.ledger_records.specs.HubRecord.{hub_parts, IsHubPayload}
use Rattle.ledger_records.specs.Reading.{Form, NumberForm, TextForm, OptionalForm, AttributesForm, KeyForm, spoke_forms}
use Rattle.ledger_records.specs.HubFound.{hub_forms, hub_from, hub_record}
use Rattle.ledger_records.proofs.Fronts.{some_is}
use Rattle.ledger_records.proofs.Back.{with_values, is_read_so, is_parted, either_kind, bytes_each, Back, at_kind}
use Rattle.ledger_records.proofs.HubOnce.{is_found}

-- a record has this kind and these fields
abbrev Has : ℕ → List Field → HubRecord → Type 0
Has kind fs r = (kind, fs) ≡ hub_parts r

abbrev routed : List Form
routed = NumberForm ∷ NumberForm ∷ NumberForm ∷ TextForm ∷ TextForm ∷ TextForm ∷ TextForm ∷ TextForm ∷ OptionalForm ∷ []

abbrev backed : List Form
backed =
    NumberForm ∷ NumberForm ∷ TextForm ∷ TextForm ∷ TextForm ∷ NumberForm ∷ KeyForm ∷ TextForm ∷ TextForm
    ∷ TextForm ∷ TextForm ∷ TextForm ∷ TextForm ∷ TextForm ∷ OptionalForm ∷ NumberForm ∷ AttributesForm ∷ []

routed_back : Back hub_from Has 21 routed
routed_back vs r e = subst (Has 21 (with_values routed vs)) (some_is _ r e) refl

backed_back : Back hub_from Has 22 backed
backed_back vs r e = subst (Has 22 (with_values backed vs)) (some_is _ r e) refl

spoke_forms_back : Back hub_from Has 23 spoke_forms
spoke_forms_back vs r e = subst (Has 23 (with_values spoke_forms vs)) (some_is _ r e) refl

back : (kind : ℕ) (found : List Form) → hub_forms kind ≡ Some found → Back hub_from Has kind found
back kind found e =
    elim (either_kind kind 21 _ _ found e) [
      | inl (is, same) ↦ at_kind hub_from Has kind 21 routed found is same routed_back
      | inr others ↦ elim (either_kind kind 22 _ _ found others) [
        | inl (is, same) ↦ at_kind hub_from Has kind 22 backed found is same backed_back
        | inr others ↦ elim (either_kind kind 23 (Some spoke_forms) None found others) [
          | inl (is, same) ↦ at_kind hub_from Has kind 23 spoke_forms found is same spoke_forms_back
          | inr none ↦ absurd (cc none)
        ]
      ]
    ]

-- what is found in bytes is the record whose payload they are
pub is_its_payload : (payload : List ℕ) (r : HubRecord) → All (λ b. b < 256) payload → hub_record payload ≡ Some r
    → IsHubPayload payload r
unfolding hub_record
is_its_payload payload r bytes e =
    let p = is_parted hub_forms hub_from payload r e in
    let q = is_read_so hub_forms payload p.kind p.fields p.read in
    let h = back p.kind q.found q.are q.values r (rw (← q.fields) p.is) in
    let same : (p.kind, p.fields) ≡ hub_parts r = ap (λ (fs : List Field). (p.kind, fs)) q.fields ∙ h in
    is_found payload r (bytes_each payload bytes) p.short (rw (← same) p.read)

-- What is signed of a Response for a login.
use Rattle.std.specs.Prelude.{codes, if◌then◌else◌}
use Rattle.std.proofs.Common.{◌≡◌, ℕ, true, List, [], ◌∷◌, ◌++◌, Some, refl, sym, subst, ap, ◌∙◌}
use Rattle.owned_values.specs.declared.attributes.Attribute.{Attribute}
use Rattle.xml_spec.specs.Tree.{Attribute as TreeAttribute}
use Rattle.element_make.specs.declared.names.Ns.{Ns}
use Rattle.element_make.specs.declared.names.Ns.TheVariants.{Saml}
use Rattle.element_make.specs.Made.{Made, MadeNodes, NothingMade, MadeElement, alone}
use Rattle.sig_reference.specs.Signing.{has_no_signature, signed}
use Rattle.assertion_model.specs.Assertion.{IsAssertionOf, all_holding, assertion, joined_all, stated, statements}
use Rattle.protocol_messages.specs.Making.{response}
use Rattle.provider_config.specs.declared.idp_config.SignMode.{SignMode}
use Rattle.provider_config.specs.declared.idp_config.SignMode.TheVariants as modes
use Rattle.idp_answers.specs.Answers.{signed_assertion, signed_response}
use Rattle.idp_answers.specs.Stating.{Stated, stated_login}
use Rattle.idp_answers.specs.SignedElements.{AResponseIsSignedByItsMode, signed_by, signed_elements}

-- ---- in an Assertion nothing is signed

-- an element in which there is no Signature
passed : (ns : Ns) (local : List ℕ) (attributes : List TreeAttribute) (kids rest : MadeNodes) → has_no_signature kids ≡ true → signed_elements kids ≡ []
    → signed_elements (MadeElement ns local attributes kids rest) ≡ signed_elements rest
passed ns local attributes kids rest plain none =
    λ i. (if plain i then [] else record { ns = ns; local = local; attributes = attributes; kids = kids } ∷ []) ++ none i ++ signed_elements rest

values_plain : (values : List (List ℕ)) → has_no_signature (all_holding (codes "AttributeValue") values) ≡ true
values_plain [] = refl
values_plain (value ∷ values) = values_plain values

values_unsigned : (values : List (List ℕ)) → signed_elements (all_holding (codes "AttributeValue") values) ≡ []
values_unsigned [] = refl
values_unsigned (value ∷ values) = values_unsigned values

stated_plain : (attributes : List Attribute) → has_no_signature (joined_all stated attributes) ≡ true
stated_plain [] = refl
stated_plain (a ∷ attributes) = stated_plain attributes

stated_unsigned : (attributes : List Attribute) → signed_elements (joined_all stated attributes) ≡ []
stated_unsigned [] = refl
stated_unsigned (a ∷ attributes) =
    passed Saml (codes "Attribute") (record { name = codes "Name"; value = a.name } ∷ []) (all_holding (codes "AttributeValue") a.values) (joined_all stated attributes)
    (values_plain a.values) (values_unsigned a.values)
    ∙ stated_unsigned attributes

statements_plain : (attributes : List Attribute) → has_no_signature (statements attributes) ≡ true
statements_plain [] = refl
statements_plain (a ∷ attributes) = refl

statements_unsigned : (attributes : List Attribute) → signed_elements (statements attributes) ≡ []
statements_unsigned [] = refl
statements_unsigned (a ∷ attributes) =
    passed Saml (codes "AttributeStatement") [] (joined_all stated (a ∷ attributes)) NothingMade (stated_plain (a ∷ attributes)) (stated_unsigned (a ∷ attributes))

-- ---- what is signed of a Response

pub elements_are : (mode : SignMode) (key issuer message consumer request at : List ℕ) (s : Stated) (made : Made) → IsAssertionOf (stated_login issuer s) made
    → signed_elements (alone (signed_response mode key (response message issuer consumer request (Some (signed_assertion mode key made)) at)))
    ≡ signed_by mode (signed key made) (signed key (response message issuer consumer request (Some (signed_assertion mode key made)) at))
elements_are mode key issuer message consumer request at s made of =
    subst (λ (m : Made). signed_elements (alone (signed_response mode key (response message issuer consumer request (Some (signed_assertion mode key m)) at)))
    ≡ signed_by mode (signed key m) (signed key (response message issuer consumer request (Some (signed_assertion mode key m)) at))) (sym of.is) (by_mode mode)
  where
    by_mode : (mode : SignMode) → signed_elements (alone (signed_response mode key (response message issuer consumer request (Some (signed_assertion mode key (assertion (stated_login issuer s) of.moments))) at)))
        ≡ signed_by mode (signed key (assertion (stated_login issuer s) of.moments))
        (signed key (response message issuer consumer request (Some (signed_assertion mode key (assertion (stated_login issuer s) of.moments))) at))
    by_mode modes.Assertion = ap (λ (xs : List Made). (signed key (assertion (stated_login issuer s) of.moments) ∷ (xs ++ [])) ++ []) (statements_unsigned s.attributes)
    by_mode modes.Response =
        let held = assertion (stated_login issuer s) of.moments in
        ap (λ (xs : List Made). signed key (response message issuer consumer request (Some held) at) ∷ (xs ++ []))
        (passed held.ns held.local held.attributes held.kids NothingMade (statements_plain s.attributes) (statements_unsigned s.attributes))
    by_mode modes.Both =
        let held = signed key (assertion (stated_login issuer s) of.moments) in
        ap (λ (xs : List Made). signed key (response message issuer consumer request (Some held) at) ∷ ((held ∷ (xs ++ [])) ++ [])) (statements_unsigned s.attributes)

pub by_its_mode : AResponseIsSignedByItsMode
by_its_mode mode key issuer message s consumer now sent i =
    let built = response message issuer consumer s.request (Some (signed_assertion mode key i.assertion)) i.answers.instant in
    let made : i.unsigned ≡ built = i.answers.is in
    ap (λ (m : Made). signed_elements (alone m)) (i.is ∙ ap (signed_response mode key) made)
    ∙ elements_are mode key issuer message consumer s.request i.answers.instant s i.assertion i.of_login
    ∙ ap (λ (m : Made). signed_by mode (signed key i.assertion) (signed key m)) (sym made)

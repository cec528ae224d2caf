-- The definitions on small cases.
use Rattle.std.proofs.Common.{◌≡◌, ℕ, List, [], ◌∷◌, codes, true, false, Option, Some, None, unwrap_or, slice_index, refl, ap, arith}
use Rattle.xml_spec.specs.Tree.{Attribute, Nodes, NoNodes, Element, Text}
use Rattle.saml_names.specs.Names.{saml_namespace, samlp_namespace, saml}
use Rattle.saml_names.specs.Uris.{success, responder, partial_logout, post}
use Rattle.tree_read.specs.Children.{children}
use Rattle.protocol_messages.specs.declared.logout.Outcome.TheVariants as outcomes
use Rattle.protocol_messages.specs.Messages.{at_most_one, issuer_of, flag, is_other_binding, status_of, outcome_of, IsMessage}

-- ForceAuthn and IsPassive
pub flag-not_given : flag None ≡ Some false
flag-not_given = refl

pub flag-one : flag (Some (codes "1")) ≡ Some true
flag-one = refl

pub flag-yes : flag (Some (codes "yes")) ≡ None
flag-yes = refl

pub flag-not_trimmed : flag (Some (codes " true")) ≡ None
flag-not_trimmed = refl

pub binding-post : is_other_binding (Some post) ≡ false
binding-post = refl

pub binding-empty : is_other_binding (Some []) ≡ true
binding-empty = refl

abbrev attribute : List ℕ → List ℕ → Attribute
attribute name value = record { name = name; value = value }

-- <samlp:StatusCode Value=".."> and what is inside and behind it
abbrev code : List ℕ → Nodes → Nodes → Nodes
code value inside rest = Element (codes "samlp:StatusCode") (attribute (codes "Value") value ∷ []) inside rest

-- <samlp:Response xmlns:samlp=".." xmlns:saml=".."> with these kids
abbrev message : Nodes → Nodes
message kids =
    Element (codes "samlp:Response") (attribute (codes "xmlns:samlp") samlp_namespace ∷ attribute (codes "xmlns:saml") saml_namespace ∷ attribute (codes "Version") (codes "2.1") ∷ []) kids NoNodes

abbrev with_status : Nodes → Nodes
with_status codes_inside = message (Element (codes "samlp:Status") [] codes_inside NoNodes)

-- success in the inner code alone is the inner code's
pub status-inner_success : status_of (with_status (code responder (code success NoNodes NoNodes) NoNodes)) 0 ≡ Some (record { top = responder; inner = Some success })
status-inner_success = refl

-- what stands in the inner one is passed over
pub status-third_level : status_of (with_status (code responder (code partial_logout (code success NoNodes NoNodes) NoNodes) NoNodes)) 0 ≡ Some (record { top = responder; inner = Some partial_logout })
status-third_level = refl

pub status-two_inner : status_of (with_status (code responder (code success NoNodes (code success NoNodes NoNodes)) NoNodes)) 0 ≡ None
status-two_inner = refl

pub status-two_codes : status_of (with_status (code success NoNodes (code success NoNodes NoNodes))) 0 ≡ None
status-two_codes = refl

pub outcome-partial : outcome_of (record { top = responder; inner = Some partial_logout }) ≡ outcomes.Partial
outcome-partial = refl

pub outcome-other_reason : outcome_of (record { top = responder; inner = Some success }) ≡ outcomes.Other
outcome-other_reason = refl

-- an Issuer is trimmed, and two are not one
abbrev issuer : Nodes → Nodes
issuer rest = Element (codes "saml:Issuer") [] (Text (codes " urn:i ") NoNodes) rest

pub issuer-trimmed : issuer_of (message (issuer NoNodes)) 0 ≡ Some (codes "urn:i")
issuer-trimmed = refl

pub issuer-two : issuer_of (message (issuer (issuer NoNodes))) 0 ≡ None
issuer-two = refl

pub at_most_one-two : at_most_one (children (message (issuer (issuer NoNodes))) 0 (saml (codes "Issuer"))) ≡ None
at_most_one-two = refl

-- an Assertion inside Extensions is no child
pub assertion-deeper : children (message (Element (codes "samlp:Extensions") [] (Element (codes "saml:Assertion") [] NoNodes NoNodes) NoNodes)) 0 (saml (codes "Assertion")) ≡ []
assertion-deeper = refl

-- version 2.1 is another one
another : Some (codes "2.1") ≡ Some (codes "2.0") → ⊥
another clash = let digits : 49 ≡ 48 = ap (λ (o : Option (List ℕ)). slice_index (unwrap_or o []) 2) clash in omega (arith, digits)

pub version-other : (id : List ℕ) (issued : ℕ) → IsMessage (message NoNodes) 0 (codes "Response") id issued → ⊥
version-other id issued is = another is.version

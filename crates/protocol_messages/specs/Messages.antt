-- The shape of protocol messages: SAML Core, 3.2, 3.4 and 3.7. Texts, comments and instructions between element children
-- are passed over, and so are the attributes and children that no definition names.
use Rattle.std.specs.Prelude.{◌≡◌, ℕ, ◌≤◌, Bool, true, false, not, ◌||◌, List, [], ◌∷◌, length, map, codes, Option, None, Some, if◌then◌else◌, ⊤}
use Rattle.std.specs.Option.{option_map, option_and_then}
use Rattle.std.specs.Str.{bytes_eq}
use Rattle.xml_spec.specs.Tree.{Nodes}
use Rattle.saml_names.specs.Names.{saml, samlp, ds}
use Rattle.saml_names.specs.Uris.{success, partial_logout, post}
use Rattle.saml_time.specs.Instant.{Tells}
use Rattle.tree_read.specs.Children.{children}
use Rattle.tree_read.specs.Texts.{text_of, trimmed, attribute_text}
use Rattle.tree_read.specs.Walk.{name_of_node}
use Rattle.protocol_messages.specs.declared.parts.Status.{Status}
use Rattle.protocol_messages.specs.declared.authn.AuthnRequest.{AuthnRequest}
use Rattle.protocol_messages.specs.declared.response.ResponseHead.{ResponseHead}
use Rattle.protocol_messages.specs.declared.logout.LogoutRequest.{LogoutRequest}
use Rattle.protocol_messages.specs.declared.logout.LogoutResponse.{LogoutResponse}
use Rattle.protocol_messages.specs.declared.logout.Outcome.{Outcome}
use Rattle.protocol_messages.specs.declared.logout.Outcome.TheVariants as outcomes
use Rattle.owned_values.specs.Options.{is_there, ◌>>=◌}
pub use Rattle.owned_values.specs.Options.{only, at_most_one}

-- PARTS

-- 2.2.5: the provider that an Issuer names, without the white space around it (profile)
abbrev pub issuer_named : Nodes → ℕ → List ℕ
issuer_named tree n = trimmed (text_of tree n)

-- 3.2.1, 3.2.2: the one Issuer of a message
abbrev pub issuer_of : Nodes → ℕ → Option (List ℕ)
issuer_of tree k = option_map (issuer_named tree) (only (children tree k (saml (codes "Issuer"))))

-- 1.3.3: the text tells this moment; where there is no text there is no moment
abbrev pub Tell : Option (List ℕ) → Option ℕ → Type 0
Tell None None = ⊤
Tell (Some text) (Some moment) = Tells text moment
Tell _ _ = ⊥

-- XML Schema 2, 3.2.2: a boolean that is false where it is not given
abbrev pub boolean : List ℕ → Option Bool
boolean text =
    if bytes_eq text (codes "true") || bytes_eq text (codes "1") then Some true
    else (if bytes_eq text (codes "false") || bytes_eq text (codes "0") then Some false else None)

abbrev pub flag : Option (List ℕ) → Option Bool
flag None = Some false
flag (Some text) = boolean text

-- 3.2.1, 3.2.2: what each message has: this name in the namespace of protocol messages, version 2.0, an ID of 1 to 256
-- bytes (profile) and the moment of its issue
pub record IsMessage (tree : Nodes) (k : ℕ) (local id : List ℕ) (issued : ℕ) : Type 0 where
  pub name : name_of_node tree k ≡ samlp local
  pub version : attribute_text tree k (codes "Version") ≡ Some (codes "2.0")
  pub identified : attribute_text tree k (codes "ID") ≡ Some id
  pub some : 1 ≤ length id
  pub short : length id ≤ 256
  pub told : Tell (attribute_text tree k (codes "IssueInstant")) (Some issued)

-- STATUS

-- 3.2.2.2: the Value of the StatusCode inside another, none where there is no such StatusCode or it has no Value
abbrev pub value_inside : Nodes → Option ℕ → Option (List ℕ)
value_inside tree code = option_and_then (λ n. attribute_text tree n (codes "Value")) code

-- a StatusCode with this Value, which may hold one other
abbrev pub with_value : Nodes → Option (List ℕ) → Option (Option ℕ) → Option Status
with_value tree (Some top) (Some code) = Some (record { top = top; inner = value_inside tree code })
with_value tree _ _ = None

abbrev pub status_in_code : Nodes → ℕ → Option Status
status_in_code tree code =
    with_value tree (attribute_text tree code (codes "Value")) (at_most_one (children tree code (samlp (codes "StatusCode"))))

-- 3.2.2.1: the one Status of a message, which has one StatusCode
abbrev pub status_code : Nodes → ℕ → Option ℕ
status_code tree k = do
  status ← only (children tree k (samlp (codes "Status")))
  only (children tree status (samlp (codes "StatusCode")))

abbrev pub status_of : Nodes → ℕ → Option Status
status_of tree k = option_and_then (status_in_code tree) (status_code tree k)

-- MESSAGES

-- SAML Bindings, 3.5.5.2: the Destination of a message is the place that it was sent to; a signed message has to name it. An empty
-- one names nothing.
abbrev pub is_destination : (address : List ℕ) → (signed : Bool) → Option (List ℕ) → Bool
is_destination address signed None = not signed
is_destination address signed (Some []) = not signed
is_destination address signed (Some (b ∷ bytes)) = bytes_eq (b ∷ bytes) address

-- 3.4.1: the binding in which the response is wanted is given, and it is not HTTP POST
abbrev pub is_other_binding : Option (List ℕ) → Bool
is_other_binding None = false
is_other_binding (Some binding) = not (bytes_eq binding post)

-- 3.4.1: AuthnRequest
pub record IsAuthnRequest (tree : Nodes) (k : ℕ) (message : AuthnRequest) : Type 0 where
  pub is : IsMessage tree k (codes "AuthnRequest") message.id message.issued
  pub issuer : issuer_of tree k ≡ Some message.issuer
  pub destination : attribute_text tree k (codes "Destination") ≡ message.destination
  pub consumer : attribute_text tree k (codes "AssertionConsumerServiceURL") ≡ message.consumer
  pub binding : is_other_binding (attribute_text tree k (codes "ProtocolBinding")) ≡ message.other_binding
  pub force : flag (attribute_text tree k (codes "ForceAuthn")) ≡ Some message.force
  pub passive : flag (attribute_text tree k (codes "IsPassive")) ≡ Some message.passive

-- there is one
abbrev pub is_any : List ℕ → Bool
is_any [] = false
is_any _ = true

-- 3.2.2, 3.3.3: Response; the moment of its issue is not told further
pub record IsResponse (tree : Nodes) (k : ℕ) (message : ResponseHead) : Type 0 where
  pub issued : ℕ
  pub is : IsMessage tree k (codes "Response") message.id issued
  pub issuer : option_map (option_map (issuer_named tree)) (at_most_one (children tree k (saml (codes "Issuer")))) ≡ Some message.issuer
  pub destination : attribute_text tree k (codes "Destination") ≡ message.destination
  pub request : attribute_text tree k (codes "InResponseTo") ≡ message.request
  pub success : option_map (λ status. bytes_eq status.top success) (status_of tree k) ≡ Some message.success
  pub signature : is_any (children tree k (ds (codes "Signature"))) ≡ message.has_signature
  pub assertions : children tree k (saml (codes "Assertion")) ≡ message.assertions

-- 3.7.1: LogoutRequest; the moment of its issue is not told further
pub record IsLogoutRequest (tree : Nodes) (k : ℕ) (message : LogoutRequest) : Type 0 where
  pub issued : ℕ
  pub is : IsMessage tree k (codes "LogoutRequest") message.id issued
  pub issuer : issuer_of tree k ≡ Some message.issuer
  pub destination : attribute_text tree k (codes "Destination") ≡ message.destination
  pub until : Tell (attribute_text tree k (codes "NotOnOrAfter")) message.until
  pub name : option_map (text_of tree) (only (children tree k (saml (codes "NameID")))) ≡ Some message.name
  pub indexes : map (text_of tree) (children tree k (samlp (codes "SessionIndex"))) ≡ message.indexes

-- 3.7.3.2: what became of a logout: not all participants were reached, or all were, or it is not known
abbrev pub outcome_of : Status → Outcome
outcome_of status =
    if is_there partial_logout status.inner then outcomes.Partial else (if bytes_eq status.top success then outcomes.Success else outcomes.Other)

-- 3.7.2: LogoutResponse; the moment of its issue is not told further
pub record IsLogoutResponse (tree : Nodes) (k : ℕ) (message : LogoutResponse) : Type 0 where
  pub issued : ℕ
  pub is : IsMessage tree k (codes "LogoutResponse") message.id issued
  pub issuer : issuer_of tree k ≡ Some message.issuer
  pub destination : attribute_text tree k (codes "Destination") ≡ message.destination
  pub request : attribute_text tree k (codes "InResponseTo") ≡ Some message.request
  pub outcome : option_map outcome_of (status_of tree k) ≡ Some message.outcome

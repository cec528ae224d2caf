-- Messages as they are made: SAML Core, 3.2, 3.4 and 3.7. Children stand in the order of the schema, without a Signature.
use Rattle.std.specs.Prelude.{◌≡◌, ℕ, ◌+◌, List, [], ◌∷◌, codes, min, Option, None, Some}
use Rattle.xml_spec.specs.Tree.{Attribute}
use Rattle.saml_names.specs.Uris.{success, responder, no_passive, post}
use Rattle.saml_time.specs.declared.TheConstants.{LAST}
use Rattle.saml_time.specs.Instant.{TellsInFull}
use Rattle.element_make.specs.declared.names.Ns.{Ns}
use Rattle.element_make.specs.declared.names.Ns.TheVariants.{Saml, Samlp}
use Rattle.element_make.specs.Made.{Made, MadeNodes, NothingMade, MadeElement, MadeText, alone, joined}

abbrev pub attribute : List ℕ → List ℕ → Attribute
attribute name value = record { name = name; value = value }

-- an element without attributes that holds this text
abbrev pub with_text : Ns → List ℕ → List ℕ → MadeNodes
with_text ns local text = MadeElement ns local [] (MadeText text NothingMade) NothingMade

abbrev pub message : List ℕ → List Attribute → MadeNodes → Made
message local attributes kids = record { ns = Samlp; local = local; attributes = attributes; kids = kids }

abbrev pub issuer_made : List ℕ → MadeNodes
issuer_made issuer = with_text Saml (codes "Issuer") issuer

-- a StatusCode with this Value, and what stands in it
abbrev pub status_code_made : List ℕ → MadeNodes → MadeNodes
status_code_made value inside = MadeElement Samlp (codes "StatusCode") (attribute (codes "Value") value ∷ []) inside NothingMade

-- 3.2.2.1: Status with this StatusCode
abbrev pub status_made : List ℕ → MadeNodes → MadeNodes
status_made value inside = MadeElement Samlp (codes "Status") [] (status_code_made value inside) NothingMade

-- the request succeeded
abbrev pub succeeded : MadeNodes
succeeded = status_made success NothingMade

-- the responder could not perform it, for this second reason
abbrev pub failed : List ℕ → MadeNodes
failed reason = status_made responder (status_code_made reason NothingMade)

-- 3.4.1: AuthnRequest, with the address and the binding of the response
abbrev pub authn_request : List ℕ → List ℕ → List ℕ → List ℕ → List ℕ → Made
authn_request id issuer destination consumer issued =
    message (codes "AuthnRequest")
    (attribute (codes "AssertionConsumerServiceURL") consumer ∷ attribute (codes "Destination") destination ∷ attribute (codes "ID") id
    ∷ attribute (codes "IssueInstant") issued ∷ attribute (codes "ProtocolBinding") post ∷ attribute (codes "Version") (codes "2.0") ∷ [])
    (issuer_made issuer)

-- 3.2.2: the attributes of a response
abbrev pub response_attributes : List ℕ → List ℕ → List ℕ → List ℕ → List Attribute
response_attributes id destination request issued =
    attribute (codes "Destination") destination ∷ attribute (codes "ID") id ∷ attribute (codes "InResponseTo") request
    ∷ attribute (codes "IssueInstant") issued ∷ attribute (codes "Version") (codes "2.0") ∷ []

-- the status of a Response, and its Assertion: success with one; without one the user could not be authenticated passively
abbrev pub answered : Option Made → MadeNodes
answered (Some assertion) = joined succeeded (alone assertion)
answered None = failed no_passive

-- 3.3.3: Response
abbrev pub response : List ℕ → List ℕ → List ℕ → List ℕ → Option Made → List ℕ → Made
response id issuer destination request assertion issued =
    message (codes "Response") (response_attributes id destination request issued) (joined (issuer_made issuer) (answered assertion))

-- an Assertion with these attributes and kids
abbrev pub assertion_made : List Attribute → MadeNodes → Made
assertion_made attributes kids = record { ns = Saml; local = codes "Assertion"; attributes = attributes; kids = kids }

-- each SessionIndex, in order
abbrev pub session_indexes : List (List ℕ) → MadeNodes
session_indexes [] = NothingMade
session_indexes (index ∷ indexes) = joined (with_text Samlp (codes "SessionIndex") index) (session_indexes indexes)

-- 3.7.1: LogoutRequest
abbrev pub logout_request : List ℕ → List ℕ → List ℕ → List ℕ → List (List ℕ) → List ℕ → List ℕ → Made
logout_request id issuer destination name indexes issued until =
    message (codes "LogoutRequest")
    (attribute (codes "Destination") destination ∷ attribute (codes "ID") id ∷ attribute (codes "IssueInstant") issued
    ∷ attribute (codes "NotOnOrAfter") until ∷ attribute (codes "Version") (codes "2.0") ∷ [])
    (joined (issuer_made issuer) (joined (with_text Saml (codes "NameID") name) (session_indexes indexes)))

-- how long a LogoutRequest may be answered, in milliseconds
abbrev pub REQUEST_LIFE : ℕ
REQUEST_LIFE = 300000

-- a LogoutRequest ends so long after its issue, or with the last moment that has a written form (profile)
abbrev pub request_end : ℕ → ℕ
request_end issued = min (issued + REQUEST_LIFE) LAST

-- 3.7.2: LogoutResponse
abbrev pub logged_out : List ℕ → List ℕ → List ℕ → List ℕ → MadeNodes → List ℕ → Made
logged_out id issuer destination request status issued =
    message (codes "LogoutResponse") (response_attributes id destination request issued) (joined (issuer_made issuer) status)

-- the message with the written form of this moment: 1.3.3
pub record IsMadeAt (moment : ℕ) (of : List ℕ → Made) (made : Made) : Type 0 where
  pub instant : List ℕ
  pub told : TellsInFull instant moment
  pub is : made ≡ of instant

-- the message with the written forms of these two moments
pub record IsMadeFrom (moment end : ℕ) (of : List ℕ → List ℕ → Made) (made : Made) : Type 0 where
  pub instant : List ℕ
  pub until : List ℕ
  pub told : TellsInFull instant moment
  pub ended : TellsInFull until end
  pub is : made ≡ of instant until

-- What an identity provider answers, beside refusals.
use Rattle.std.specs.Prelude.{◌≡◌, ℕ, Bool, true, false, List, ◌++◌, codes, Option, None, Some}
use Rattle.std.specs.Option.{option_map}
use Rattle.element_make.specs.Made.{Made, IsMade, written}
use Rattle.sig_reference.specs.Signing.{signed}
use Rattle.assertion_model.specs.declared.login.Login.{Login}
use Rattle.assertion_model.specs.Assertion.{IsAssertionOf}
use Rattle.protocol_messages.specs.Making.{response, IsMadeAt}
use Rattle.post_binding.specs.Pages.{auto_form, login_page}
use Rattle.post_binding.specs.declared.posted.Field.TheVariants as fields
use Rattle.metadata.specs.Making.{metadata, plain}
use Rattle.metadata.specs.declared.peer.Role.{Role}
use Rattle.metadata.specs.declared.peer.Role.TheVariants.{Idp}
use Rattle.http_wire.specs.Answers.{answer}
use Rattle.provider_config.specs.declared.idp_config.SignMode.{SignMode}
use Rattle.provider_config.specs.declared.idp_config.SignMode.TheVariants as modes

-- the answer with the page where a user logs in, for the pending login of this ID
abbrev pub login_answer : List ℕ → List ℕ
login_answer pending = answer 200 None None (login_page pending)

-- ---- what is signed of a login

-- the mode signs the Assertion: with the HTTP POST binding a signature has to protect it, its own or that of the Response
-- around it (SAML Profiles, 4.1.4.5)
abbrev pub signs_assertion : SignMode → Bool
signs_assertion modes.Assertion = true
signs_assertion modes.Response = false
signs_assertion modes.Both = true

-- the mode signs the Response
abbrev pub signs_response : SignMode → Bool
signs_response modes.Assertion = false
signs_response modes.Response = true
signs_response modes.Both = true

-- the element with a signature where it is to be signed, else as it is
abbrev pub signed_if : Bool → (key : List ℕ) → Made → Made
signed_if true key made = signed key made
signed_if false key made = made

-- the Assertion as the Response holds it
abbrev pub signed_assertion : SignMode → (key : List ℕ) → Made → Made
signed_assertion mode key made = signed_if (signs_assertion mode) key made

-- the Response as it is sent, with its Assertion in it
abbrev pub signed_response : SignMode → (key : List ℕ) → Made → Made
signed_response mode key made = signed_if (signs_response mode) key made

-- ---- the Response to a login

-- The Response that is sent for a login: it answers the login's request in the name of the login's issuer with Success and the
-- Assertion of the login, goes to the consumer, and is issued at this moment (SAML Profiles, 4.1.4.2). Where both are signed,
-- the Assertion is signed first, so that the signature of the Response covers that of the Assertion.
pub record IsIssued (mode : SignMode) (key : List ℕ) (login : Login) (message consumer : List ℕ) (now : ℕ) (sent : Made) : Type 0 where
  pub assertion : Made
  pub of_login : IsAssertionOf login assertion
  pub unsigned : Made
  pub answers : IsMadeAt now (response message login.issuer consumer login.request (Some (signed_assertion mode key assertion))) unsigned
  pub is : sent ≡ signed_response mode key unsigned

-- a form that sends a Response on to the consumer, with the relay where there is one
abbrev pub response_form : Made → (consumer : List ℕ) → Option (List ℕ) → List ℕ
response_form sent consumer relay = auto_form consumer fields.Response (written sent) relay

-- the cookie of a session
abbrev pub session_cookie : List ℕ → List ℕ
session_cookie token = codes "idp_sid=" ++ token

-- The answer for a login, which sets the cookie of its session where one was opened. The Response that it carries holds names
-- and texts that a document may hold.
pub record IsIssuedAnswer (mode : SignMode) (key : List ℕ) (login : Login) (message consumer : List ℕ) (relay cookie : Option (List ℕ)) (now : ℕ) (bytes : List ℕ) : Type 0 where
  pub sent : Made
  pub issued : IsIssued mode key login message consumer now sent
  pub well_made : IsMade sent
  pub is : bytes ≡ answer 200 None (option_map session_cookie cookie) (response_form sent consumer relay)

-- ---- other answers

-- the answer where the user could not be authenticated passively (SAML Core, 3.2.2.2): a Response without an Assertion, which
-- is not signed
pub record IsNoPassiveAnswer (issuer message request consumer : List ℕ) (relay : Option (List ℕ)) (now : ℕ) (bytes : List ℕ) : Type 0 where
  pub sent : Made
  pub answers : IsMadeAt now (response message issuer consumer request None) sent
  pub well_made : IsMade sent
  pub is : bytes ≡ answer 200 None None (response_form sent consumer relay)

-- the metadata of the provider
abbrev pub metadata_answer : (entity base : List ℕ) → List ℕ
metadata_answer entity base = answer 200 None None (written (metadata Idp entity base))

-- the metadata of a provider without logout, in a role
abbrev pub plain_metadata_answer : Role → (entity base : List ℕ) → List ℕ
plain_metadata_answer role entity base = answer 200 None None (written (plain role entity base))

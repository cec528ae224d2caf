-- Which elements a hub's records stand for as signed ones, and which answers its records stand for: SAML Core, 5.4; SAML
-- Profiles, 4.1.4.5.
use Rattle.std.specs.Prelude.{◌≡◌, ℕ, List, [], ◌∷◌, Option, None, Some, slice_get}
use Rattle.element_make.specs.Made.{Made, alone}
use Rattle.sig_reference.specs.Signing.{signed}
use Rattle.assertion_model.specs.Assertion.{IsAssertionOf}
use Rattle.http_wire.specs.Answers.{answer}
use Rattle.http_wire.specs.Requests.{Request}
use Rattle.http_wire.specs.declared.answer.Answer.TheVariants.{Full}
use Rattle.ledger_records.specs.declared.hub_record.Backed.{Backed}
use Rattle.ledger_records.specs.declared.hub_record.Routed.{Routed}
use Rattle.ledger_records.specs.declared.hub_record.Spoke.{Spoke}
use Rattle.ledger_records.specs.declared.hub_record.HubRecord.{HubRecord}
use Rattle.ledger_records.specs.declared.hub_record.HubRecord.TheVariants as kinds
use Rattle.metadata.specs.declared.peer.Role.{Role}
use Rattle.peer_keys.specs.Peers.{place_of}
use Rattle.peer_keys.specs.declared.peers.LogoutPeer.{LogoutPeer}
use Rattle.hub_ledger.specs.Ledger.{Held}
use Rattle.idp_answers.specs.Answers.{IsNoPassiveAnswer, plain_metadata_answer, response_form}
use Rattle.idp_answers.specs.SignedElements.{signed_elements}
use Rattle.sp_answers.specs.Answers.{IsAskAnswer}
use Rattle.identity_hub.specs.declared.config.HubConfig.{HubConfig}
use Rattle.identity_hub.specs.Logins.{login_of}
use Rattle.identity_hub.specs.Passing.{IsOfPassive}
use Rattle.identity_hub.specs.Routes.{route}
use Rattle.identity_hub.specs.Step.{Answers}
use Rattle.identity_hub.specs.declared.route.Service.TheVariants.{Metadata}
use Rattle.service_routes.specs.declared.route.Route.TheVariants.{To}

-- the peer of this name
pub record IsKnown (setup : HubConfig) (entity : List ℕ) (peer : LogoutPeer) : Type 0 where
  pub place : ℕ
  pub known : place_of entity setup.peers ≡ Some place
  pub there : slice_get setup.peers place ≡ Some peer

-- the answer is a form that sends this Response on to this address with this relay state
pub record Sends (bytes : List ℕ) (sent : Made) (consumer : List ℕ) (relay : Option (List ℕ)) : Type 0 where
  pub is : bytes ≡ answer 200 None None (response_form sent consumer relay)

-- the signed elements of a Response that passes on the login of a record: its Assertion alone, with the key of what is
-- sent to the record's peer
pub record HasOneSigned (setup : HubConfig) (r : Backed) (sent : Made) : Type 0 where
  pub peer : LogoutPeer
  pub known : IsKnown setup r.peer peer
  pub assertion : Made
  pub of_login : IsAssertionOf (login_of setup.upstream.entity r) assertion
  pub one : signed_elements (alone sent) ≡ signed peer.key_out assertion ∷ []

module _ (setup : HubConfig) (request : Request) (now : ℕ) (bytes : List ℕ) where
  -- What an answer that stands for a record carries. For a Spoke, where the user may not be asked, it is the Response
  -- without an Assertion to the request that the record answers, at the address and with the relay state of the form
  -- that asked, in which nothing is signed; for a Routed the record's request upwards, which is signed for the provider
  -- above; for a Backed a Response that goes to the record's address with the relay state of the request below, and
  -- whose one signed element is the Assertion of the record's login.
  pub data Carries : HubRecord → Type 0 where
    ARefusal : (r : Spoke) (of : IsOfPassive setup request r)
        (page : IsNoPassiveAnswer setup.upstream.entity r.message r.request of.asked.consumer of.asked.relay now bytes)
        → signed_elements (alone page.sent) ≡ [] → Carries (kinds.Spoke r)
    ARequest : (r : Routed) → IsAskAnswer setup.upstream r.request r.relay now bytes → Carries (kinds.Routed r)
    ALogin : (r : Backed) (sent : Made) → Sends bytes sent r.consumer r.below_relay → HasOneSigned setup r sent
        → Carries (kinds.Backed r)

-- So for those below a hub signs nothing but the Assertions of its Backed records.
abbrev pub EachSignedElementIsOfARecord : Type 0
EachSignedElementIsOfARecord =
    (setup : HubConfig) (held : Held) (request : Request) (now : ℕ) (bytes : List ℕ) (r : HubRecord)
    → Answers setup held request now (Full bytes) (Some r) → Carries setup request now bytes r

-- A page that stands for no record is the metadata, as those below or the one above see the hub.
pub record IsMetadata (setup : HubConfig) (request : Request) (bytes : List ℕ) : Type 0 where
  pub role : Role
  pub to : route request ≡ To (Metadata role)
  pub is : bytes ≡ plain_metadata_answer role setup.upstream.entity setup.upstream.base

abbrev pub NoOtherPageIsUnrecorded : Type 0
NoOtherPageIsUnrecorded =
    (setup : HubConfig) (held : Held) (request : Request) (now : ℕ) (bytes : List ℕ)
    → Answers setup held request now (Full bytes) None → IsMetadata setup request bytes

-- What a provider answers in a single logout: SAML Profiles, 4.4.3, with the HTTP POST binding (SAML Bindings, 3.5).
use Rattle.std.specs.Prelude.{◌≡◌, ℕ, Bool, true, false, List, ◌++◌, codes, Option, None}
use Rattle.post_binding.specs.Pages.{auto_form, end_page}
use Rattle.post_binding.specs.declared.posted.Field.TheVariants as fields
use Rattle.http_wire.specs.Answers.{answer}
use Rattle.protocol_messages.specs.declared.logout.Outcome.{Outcome}
use Rattle.protocol_messages.specs.declared.logout.Outcome.TheVariants as outcomes
use Rattle.peer_keys.specs.declared.peers.LogoutPeer.{LogoutPeer}
use Rattle.logout_profile.specs.Making.{IsRequest, IsResponse}

-- SAML Metadata, 2.4.2: the Location of the SingleLogoutService of the provider with this base
abbrev pub logout_address : (base : List ℕ) → List ℕ
logout_address base = base ++ codes "/slo"

-- Core, 3.2.2.2: a logout of which success is not said ended in part at most
abbrev pub is_in_part : Outcome → Bool
is_in_part outcomes.Success = false
is_in_part outcomes.Partial = true
is_in_part outcomes.Other = true

-- Profiles, 4.4.3.1: "the session participant .. issues a <LogoutRequest>", here to the peer's address for logout, by a form that the
-- user's browser sends on. It has no relay.
pub record IsRequestAnswer (peer : LogoutPeer) (id issuer : List ℕ) (now : ℕ) (name : List ℕ) (indexes : List (List ℕ)) (bytes : List ℕ) : Type 0 where
  pub message : List ℕ
  pub request : IsRequest peer id issuer now name indexes message
  pub is : bytes ≡ answer 200 None None (auto_form request.address fields.Request message None)

-- Core, 3.7.2: the provider that was asked "MUST respond with a <LogoutResponse> message", which goes to the peer's address for logout
-- (Profiles, 4.4.3.4) with the relay of the request, where there was one (Bindings, 3.5.3).
pub record IsResponseAnswer (peer : LogoutPeer) (id issuer : List ℕ) (now : ℕ) (request : List ℕ) (partial : Bool) (relay : Option (List ℕ)) (bytes : List ℕ) : Type 0 where
  pub message : List ℕ
  pub response : IsResponse peer id issuer now request partial message
  pub is : bytes ≡ answer 200 None None (auto_form response.address fields.Response message relay)

-- how a logout ended, at each participant or not (Core, 3.2.2.2: Success and PartialLogout)
abbrev pub end_answer : (partial : Bool) → List ℕ
end_answer partial = answer 200 None None (end_page partial)

-- A message goes to the peer; or, as the peer's metadata names no address for logout, the user is shown how the logout ended.
pub data SentOrEnded (peer : LogoutPeer) (partial : Bool) (IsSent : List ℕ → Type 0) (bytes : List ℕ) : Type 0 where
  BySending : IsSent bytes → SentOrEnded peer partial IsSent bytes
  ByEnding : peer.peer.logout ≡ None → bytes ≡ end_answer partial → SentOrEnded peer partial IsSent bytes

-- the answer to a user who leaves: the peer is asked to end the sessions with these indexes, too; without an address the logout is
-- partial
abbrev pub Leaving : LogoutPeer → (id issuer : List ℕ) → (now : ℕ) → (name : List ℕ) → (indexes : List (List ℕ)) → (bytes : List ℕ) → Type 0
Leaving peer id issuer now name indexes bytes = SentOrEnded peer true (IsRequestAnswer peer id issuer now name indexes) bytes

-- the answer to a peer that asked to end sessions by the request with this ID
abbrev pub Ending : LogoutPeer → (id issuer : List ℕ) → (now : ℕ) → (request : List ℕ) → (partial : Bool) → (relay : Option (List ℕ)) → (bytes : List ℕ) → Type 0
Ending peer id issuer now request partial relay bytes = SentOrEnded peer partial (IsResponseAnswer peer id issuer now request partial relay) bytes

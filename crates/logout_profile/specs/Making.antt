-- The messages of a logout as they are sent: SAML Profiles, 4.4.4 ("The requester MUST authenticate itself .., either by signing the
-- message or using a binding-specific mechanism"). Each is signed with the key that is shared with the peer for what is sent to it.
use Rattle.std.specs.Prelude.{◌≡◌, ℕ, Bool, List, Some, if◌then◌else◌}
use Rattle.saml_names.specs.Uris.{partial_logout}
use Rattle.element_make.specs.Made.{Made, IsMade, written}
use Rattle.sig_reference.specs.Signing.{signed}
use Rattle.protocol_messages.specs.Making.{IsMadeAt, IsMadeFrom, logout_request, request_end, logged_out, succeeded, failed}
use Rattle.peer_keys.specs.declared.peers.LogoutPeer.{LogoutPeer}

-- these bytes are the message without its signature, well made, and signed with the peer's key
pub record IsSigned (peer : LogoutPeer) (unsigned : Made) (bytes : List ℕ) : Type 0 where
  pub well_made : IsMade unsigned
  pub is : bytes ≡ written (signed peer.key_out unsigned)

-- SAML Core, 3.7.1: a LogoutRequest to the peer's address for logout, for the user with this name and these sessions
pub record IsRequest (peer : LogoutPeer) (id issuer : List ℕ) (issued : ℕ) (name : List ℕ) (indexes : List (List ℕ)) (bytes : List ℕ) : Type 0 where
  pub address : List ℕ
  pub given : peer.peer.logout ≡ Some address
  pub unsigned : Made
  pub made : IsMadeFrom issued (request_end issued) (logout_request id issuer address name indexes) unsigned
  pub signed : IsSigned peer unsigned bytes

-- SAML Core, 3.7.2 and 3.7.3.2: a LogoutResponse to the peer's address for logout, in response to the request with this ID: success,
-- or that not all sessions ended
pub record IsResponse (peer : LogoutPeer) (id issuer : List ℕ) (issued : ℕ) (request : List ℕ) (partial : Bool) (bytes : List ℕ) : Type 0 where
  pub address : List ℕ
  pub given : peer.peer.logout ≡ Some address
  pub unsigned : Made
  pub made : IsMadeAt issued (logged_out id issuer address request (if partial then failed partial_logout else succeeded)) unsigned
  pub signed : IsSigned peer unsigned bytes

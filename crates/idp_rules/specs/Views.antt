-- Words by which the code keeps what it has judged of a message.
use Rattle.std.specs.Prelude.{◌≡◌, ℕ, Bool, true, false, List, None, Some, IsTrue, slice_get}
use Rattle.xml_spec.specs.Tree.{Nodes}
use Rattle.protocol_messages.specs.Messages.{IsAuthnRequest}
use Rattle.protocol_messages.specs.declared.authn.AuthnRequest.{AuthnRequest}
use Rattle.sig_reference.specs.Signature.{IsUnvouched}
use Rattle.sig_reference.specs.declared.fault.SigFault.{SigFault}
use Rattle.verdict_codes.specs.declared.codes.Verdict.{Verdict}
use Rattle.verdict_codes.specs.declared.codes.Verdict.TheVariants as verdicts
use Rattle.peer_keys.specs.Peers.{place_of}
use Rattle.peer_keys.specs.declared.peers.LogoutPeer.{LogoutPeer}
use Rattle.idp_rules.specs.Asking.{is_signed, is_destination, is_wanted_at}

-- 40: the element is no AuthnRequest
pub record IsNoRequest (tree : Nodes) (k : ℕ) (verdict : Verdict) : Type 0 where
  pub none : (request : AuthnRequest) → ¬ (IsAuthnRequest tree k request)
  pub is : verdict ≡ verdicts.NotAuthnRequest

-- the request is of the peer at this place, was sent to this address, and wants its Response where the peer's metadata has it
pub record IsSender (peers : List LogoutPeer) (address : List ℕ) (signed : Bool) (request : AuthnRequest) (place : ℕ) : Type 0 where
  pub peer : LogoutPeer
  pub known : place_of request.issuer peers ≡ Some place
  pub peer_is : slice_get peers place ≡ Some peer
  pub destination : IsTrue (is_destination address signed request.destination)
  pub wanted : IsTrue (is_wanted_at peer request)

-- 41 to 43: the first of these that does not hold
pub data IsNoSender (peers : List LogoutPeer) (address : List ℕ) (signed : Bool) (request : AuthnRequest) (verdict : Verdict) : Type 0 where
  unknown : place_of request.issuer peers ≡ None → verdict ≡ verdicts.UnknownIssuer → IsNoSender peers address signed request verdict
  elsewhere : (place : ℕ) (peer : LogoutPeer) → place_of request.issuer peers ≡ Some place → slice_get peers place ≡ Some peer
      → is_destination address signed request.destination ≡ false → verdict ≡ verdicts.RequestDestination
      → IsNoSender peers address signed request verdict
  unwanted : (place : ℕ) (peer : LogoutPeer) → place_of request.issuer peers ≡ Some place → slice_get peers place ≡ Some peer
      → is_destination address signed request.destination ≡ true → is_wanted_at peer request ≡ false → verdict ≡ verdicts.WrongConsumer
      → IsNoSender peers address signed request verdict

-- 11 to 14: the message has a Signature that does not vouch for it with the peer's key
pub record IsForged (peer : LogoutPeer) (tree : Nodes) (fault : SigFault) : Type 0 where
  pub signed : is_signed tree ≡ true
  pub unvouched : IsUnvouched peer.key_in tree 0 fault

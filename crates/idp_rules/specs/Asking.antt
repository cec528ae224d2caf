-- When a posted form asks for a login that an identity provider answers.
use Rattle.std.specs.Prelude.{◌≡◌, ℕ, ◌&&◌, not, Bool, true, IsTrue, List, codes, Option, Some, unwrap_or, Ok, slice_get}
use Rattle.xml_spec.specs.Tree.{Nodes}
use Rattle.saml_names.specs.Names.{ds}
use Rattle.saml_tree.specs.Documents.{IsSpelled}
use Rattle.tree_read.specs.Children.{children}
use Rattle.post_binding.specs.Form.{form}
use Rattle.post_binding.specs.declared.posted.Field.TheVariants.{Request}
use Rattle.protocol_messages.specs.Messages.{is_any, IsAuthnRequest}
pub use Rattle.protocol_messages.specs.Messages.{is_destination}
use Rattle.owned_values.specs.Options.{is_if_any}
use Rattle.protocol_messages.specs.declared.authn.AuthnRequest.{AuthnRequest}
use Rattle.sig_reference.specs.Form.{Parts}
use Rattle.sig_reference.specs.Signature.{Vouches}
use Rattle.peer_keys.specs.Peers.{place_of}
use Rattle.peer_keys.specs.declared.peers.LogoutPeer.{LogoutPeer}
use Rattle.idp_rules.specs.declared.asked.Asked.{Asked}

-- what a form carries: the bytes of a message with its relay, the tree that they spell, and what the AuthnRequest at its root says
pub record Carried : Type 0 where
  pub message : List ℕ
  pub relay : Option (List ℕ)
  pub tree : Nodes
  pub request : AuthnRequest

-- SAML Bindings, 3.5.4: this message stands in the form's SAMLRequest
abbrev pub Posts : List ℕ → List ℕ → Option (List ℕ) → Type 0
Posts body message relay = form body ≡ Ok (record { field = Request; message = message; relay = relay })

-- the form carries an AuthnRequest
pub record Carries (body : List ℕ) (c : Carried) : Type 0 where
  pub posted : Posts body c.message c.relay
  pub spelled : IsSpelled c.message c.tree
  pub request : IsAuthnRequest c.tree 0 c.request

-- the message has a Signature
abbrev pub is_signed : Nodes → Bool
is_signed tree = is_any (children tree 0 (ds (codes "Signature")))

-- SAML Profiles, 4.1.4.1: the Response is wanted by HTTP POST at an address of the peer's metadata: SAML Core, 3.4.1, the
-- address that the request names for the Response, where it names one, is that of the metadata
abbrev pub is_wanted_at : LogoutPeer → AuthnRequest → Bool
is_wanted_at peer request = is_if_any peer.peer.service request.consumer && not request.other_binding

-- SAML Core, 5.4: where the message has a Signature, this vouches for it with the key of what the peer sends
abbrev pub IsAuthentic : LogoutPeer → Nodes → Type 0
IsAuthentic peer tree = is_signed tree ≡ true → (parts : Parts) × Vouches peer.key_in tree 0 parts

-- The form asks for a login: it carries an AuthnRequest of the peer at this place, which was sent to this address, wants its
-- Response where the peer's metadata has it, and is authentic.
pub record Asks (peers : List LogoutPeer) (address body : List ℕ) (c : Carried) (place : ℕ) (peer : LogoutPeer) : Type 0 where
  pub carries : Carries body c
  pub known : place_of c.request.issuer peers ≡ Some place
  pub peer_is : slice_get peers place ≡ Some peer
  pub destination : IsTrue (is_destination address (is_signed c.tree) c.request.destination)
  pub wanted : IsTrue (is_wanted_at peer c.request)
  pub authentic : IsAuthentic peer c.tree

-- what is asked for: the Response goes to the address that the request names, and else to that of the metadata
abbrev pub asked_of : Carried → (place : ℕ) → LogoutPeer → Asked
asked_of c place peer = record {
  peer = place;
  request = c.request.id;
  consumer = unwrap_or c.request.consumer peer.peer.service;
  relay = c.relay;
  force = c.request.force;
  passive = c.request.passive;
}

-- the form asks for this
pub record IsAsked (peers : List LogoutPeer) (address body : List ℕ) (asked : Asked) : Type 0 where
  pub carried : Carried
  pub place : ℕ
  pub peer : LogoutPeer
  pub asks : Asks peers address body carried place peer
  pub is : asked ≡ asked_of carried place peer

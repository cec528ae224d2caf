-- What a posted form asks or replies of a logout, or what it is refused for: SAML Profiles, 4.4.3 and 4.4.4, and SAML Bindings, 3.5.
-- Moments and the skew between the providers' clocks are in milliseconds.
use Rattle.std.specs.Prelude.{◌≡◌, ℕ, ◌+◌, Bool, true, false, List, Option, None, Some, Result, Ok, Err, IsTrue, nat_lt, slice_get, if◌then◌else◌}
use Rattle.std.specs.Str.{bytes_eq}
use Rattle.xml_spec.specs.Tree.{Nodes}
use Rattle.saml_tree.specs.Documents.{IsSpelled}
use Rattle.saml_tree.specs.Documents as documents
use Rattle.saml_tree.specs.declared.node.TreeFault.{TreeFault}
use Rattle.tree_read.specs.declared.fault.ShapeFault.{ShapeFault}
use Rattle.tree_read.specs.declared.fault.ShapeFault.TheVariants as shapes
use Rattle.post_binding.specs.Form.{form}
use Rattle.post_binding.specs.declared.fault.FormFault.{FormFault}
use Rattle.post_binding.specs.declared.posted.Field.{Field}
use Rattle.post_binding.specs.declared.posted.Posted.{Posted}
use Rattle.sig_reference.specs.declared.fault.SigFault.{SigFault}
use Rattle.peer_keys.specs.Peers.{place_of}
use Rattle.peer_keys.specs.declared.peers.LogoutPeer.{LogoutPeer}
use Rattle.verdict_codes.specs.declared.codes.Verdict.{Verdict}
use Rattle.verdict_codes.specs.declared.codes.Verdict.TheVariants.{NotLogout, UnknownPeer, LogoutDestination, LogoutNotInTime}
use Rattle.fault_verdicts.specs.Verdicts.{of_form, of_document, of_signature}
use Rattle.logout_profile.specs.declared.message.Message.{Message}
use Rattle.logout_profile.specs.declared.logout.Logout.{Logout}
use Rattle.logout_profile.specs.Carrying.{IsMessage, issuer_of, destination_of, until_of, logout_of, Carried, Posts, Carries}
use Rattle.logout_profile.specs.Keys.{keys_of, IsVouched, IsNotVouched}

-- SAML Metadata, 2.3.2: the peer with this name, which stands at this place
pub record IsPeer (peers : List LogoutPeer) (entity : List ℕ) (place : ℕ) (peer : LogoutPeer) : Type 0 where
  pub stands : place_of entity peers ≡ Some place
  pub is : slice_get peers place ≡ Some peer

-- SAML Bindings, 3.5.5.2: "the Destination XML attribute in the root SAML element of the protocol message MUST contain the URL to
-- which the sender has instructed the user agent to deliver the message", where the message is signed
abbrev pub is_sent_to : List ℕ → Option (List ℕ) → Bool
is_sent_to address None = false
is_sent_to address (Some destination) = bytes_eq destination address

-- SAML Core, 3.7.1: NotOnOrAfter is "The time at which the request expires, after which the recipient may discard the message", by
-- a clock that differs so much at most
abbrev pub is_in_time : ℕ → ℕ → Option ℕ → Bool
is_in_time skew now None = true
is_in_time skew now (Some until) = nat_lt now (until + skew)

-- THE VERDICT

-- 1 to 3: the form is not read
abbrev pub form_refusal : Result Posted FormFault → Option Verdict
form_refusal (Err fault) = of_form fault
form_refusal (Ok posted) = None

-- 30: the verdict for a root that is no message of a logout; none for want of memory
abbrev pub of_shape : ShapeFault → Option Verdict
of_shape shapes.WrongShape = Some NotLogout
of_shape shapes.NoMemory = None

-- 32 and 35: the message is not sent to this address, or has expired
abbrev pub message_refusal : List ℕ → ℕ → ℕ → Message → Option Verdict
message_refusal address skew now message =
    if is_sent_to address (destination_of message) then (if is_in_time skew now (until_of message) then None else Some LogoutNotInTime)
    else Some LogoutDestination

-- the form is refused with this verdict, that of the first condition that fails
pub data IsRefused (peers : List LogoutPeer) (second : Option (List ℕ)) (address : List ℕ) (skew now : ℕ) (body : List ℕ) (verdict : Verdict) : Type 0 where
  -- 1 to 3
  by_form : form_refusal (form body) ≡ Some verdict → IsRefused peers second address skew now body verdict
  -- 4 to 7: the message is no document, or beyond a limit
  by_document : (field : Field) (text : List ℕ) (relay : Option (List ℕ)) (fault : TreeFault) → Posts body field text relay
      → documents.IsRefused text fault → of_document fault ≡ Some verdict → IsRefused peers second address skew now body verdict
  -- 30: its root is no message of a logout, or not one that fits the field
  by_root : (field : Field) (text : List ℕ) (relay : Option (List ℕ)) (tree : Nodes) → Posts body field text relay → IsSpelled text tree
      → ((message : Message) → ¬ (IsMessage field tree 0 message)) → verdict ≡ NotLogout → IsRefused peers second address skew now body verdict
  -- 31: no peer sent it
  by_issuer : (c : Carried) → Carries body c → place_of (issuer_of c.message) peers ≡ None → verdict ≡ UnknownPeer
      → IsRefused peers second address skew now body verdict
  -- 11 to 14: no key of the peer vouches for it
  by_signature : (c : Carried) (place : ℕ) (peer : LogoutPeer) (fault : SigFault) → Carries body c → IsPeer peers (issuer_of c.message) place peer
      → IsNotVouched (keys_of peer second) c.tree fault → of_signature fault ≡ Some verdict → IsRefused peers second address skew now body verdict
  -- 32 and 35: it is not meant for this provider, here and now
  by_message : (c : Carried) (place : ℕ) (peer : LogoutPeer) (key : List ℕ) → Carries body c → IsPeer peers (issuer_of c.message) place peer
      → IsVouched (keys_of peer second) c.tree key → message_refusal address skew now c.message ≡ Some verdict
      → IsRefused peers second address skew now body verdict

-- The form asks or replies this of a logout: the message that it carries is of a peer whose key vouches for it, and is meant for
-- this provider, here and now.
pub record IsAccepted (peers : List LogoutPeer) (second : Option (List ℕ)) (address : List ℕ) (skew now : ℕ) (body : List ℕ) (logout : Logout) : Type 0 where
  pub carried : Carried
  pub place : ℕ
  pub peer : LogoutPeer
  pub key : List ℕ
  pub carries : Carries body carried
  pub known : IsPeer peers (issuer_of carried.message) place peer
  pub vouched : IsVouched (keys_of peer second) carried.tree key
  pub sent_to : IsTrue (is_sent_to address (destination_of carried.message))
  pub in_time : IsTrue (is_in_time skew now (until_of carried.message))
  pub is : logout ≡ logout_of carried.message place carried.relay

-- The verdict on a form that was posted to the address for sign-on: the first condition that fails.
use Rattle.std.specs.Prelude.{◌≡◌, ℕ, true, false, List, Option, None, Some, Result, Ok, Err, slice_get}
use Rattle.xml_spec.specs.Tree.{Nodes}
use Rattle.saml_tree.specs.Documents.{IsSpelled}
use Rattle.saml_tree.specs.Documents as documents
use Rattle.saml_tree.specs.declared.node.TreeFault.{TreeFault}
use Rattle.post_binding.specs.Form.{form}
use Rattle.post_binding.specs.declared.fault.FormFault.{FormFault}
use Rattle.post_binding.specs.declared.posted.Field.{Field}
use Rattle.post_binding.specs.declared.posted.Field.TheVariants.{Request, Response}
use Rattle.post_binding.specs.declared.posted.Posted.{Posted}
use Rattle.protocol_messages.specs.Messages.{IsAuthnRequest}
use Rattle.protocol_messages.specs.declared.authn.AuthnRequest.{AuthnRequest}
use Rattle.sig_reference.specs.Signature.{IsUnvouched}
use Rattle.sig_reference.specs.declared.fault.SigFault.{SigFault}
use Rattle.verdict_codes.specs.declared.codes.Verdict.{Verdict}
use Rattle.verdict_codes.specs.declared.codes.Verdict.TheVariants as verdicts
use Rattle.fault_verdicts.specs.Verdicts.{of_document, of_form, of_signature}
use Rattle.peer_keys.specs.Peers.{place_of}
use Rattle.peer_keys.specs.declared.peers.LogoutPeer.{LogoutPeer}
use Rattle.idp_rules.specs.Asking.{Carried, Carries, Posts, is_destination, is_signed, is_wanted_at}

-- 1 to 3: the form is not read, or a response stands in it
abbrev pub form_refusal : Result Posted FormFault → Option Verdict
form_refusal (Err fault) = of_form fault
form_refusal (Ok posted) = in_field posted.field
  where
    in_field : Field → Option Verdict
    in_field Request = None
    in_field Response = Some verdicts.BadForm

-- the issuer of the request is the peer at this place
pub record IsFrom (peers : List LogoutPeer) (c : Carried) (place : ℕ) (peer : LogoutPeer) : Type 0 where
  pub known : place_of c.request.issuer peers ≡ Some place
  pub peer_is : slice_get peers place ≡ Some peer

-- the form is refused with this verdict
pub data IsRefused (peers : List LogoutPeer) (address body : List ℕ) (verdict : Verdict) : Type 0 where
  -- 1 to 3
  by_form : form_refusal (form body) ≡ Some verdict → IsRefused peers address body verdict
  -- 4 to 7: the message is no document, or beyond a limit
  by_document : (message : List ℕ) (relay : Option (List ℕ)) (fault : TreeFault) → Posts body message relay
      → documents.IsRefused message fault → of_document fault ≡ Some verdict → IsRefused peers address body verdict
  -- 40: its root is no AuthnRequest
  by_root : (message : List ℕ) (relay : Option (List ℕ)) (tree : Nodes) → Posts body message relay → IsSpelled message tree
      → ((request : AuthnRequest) → ¬ (IsAuthnRequest tree 0 request)) → verdict ≡ verdicts.NotAuthnRequest → IsRefused peers address body verdict
  -- 41: its issuer is no peer
  by_issuer : (c : Carried) → Carries body c → place_of c.request.issuer peers ≡ None → verdict ≡ verdicts.UnknownIssuer
      → IsRefused peers address body verdict
  -- 42: it was sent elsewhere
  by_destination : (c : Carried) (place : ℕ) (peer : LogoutPeer) → Carries body c → IsFrom peers c place peer
      → is_destination address (is_signed c.tree) c.request.destination ≡ false → verdict ≡ verdicts.RequestDestination
      → IsRefused peers address body verdict
  -- 43: it wants its Response elsewhere, or by another binding
  by_consumer : (c : Carried) (place : ℕ) (peer : LogoutPeer) → Carries body c → IsFrom peers c place peer
      → is_destination address (is_signed c.tree) c.request.destination ≡ true → is_wanted_at peer c.request ≡ false
      → verdict ≡ verdicts.WrongConsumer → IsRefused peers address body verdict
  -- 11 to 14: it has a Signature that does not vouch for it
  by_signature : (c : Carried) (place : ℕ) (peer : LogoutPeer) (fault : SigFault) → Carries body c → IsFrom peers c place peer
      → is_destination address (is_signed c.tree) c.request.destination ≡ true → is_wanted_at peer c.request ≡ true
      → is_signed c.tree ≡ true → IsUnvouched peer.key_in c.tree 0 fault → of_signature fault ≡ Some verdict
      → IsRefused peers address body verdict

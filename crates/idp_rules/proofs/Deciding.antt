-- What a document that was posted asks for, or is refused for.
use Rattle.std.proofs.Common.{◌≡◌, ℕ, ◌<◌, Bool, true, false, List, codes, length, slice_index_or, Option, None, Some, Result, Ok, Err, inl, inr, refl, sym, ◌∙◌, subst, arith}
use Rattle.std.specs.Prelude.{IfErr, IsErrAnd, slice_get}
use Rattle.std.proofs.lemmas.Option.{get_or_from_slice_get, slice_get_cases, slice_get_read}
use Rattle.xml_spec.specs.Tree.{Nodes}
use Rattle.saml_names.specs.Names.{ds}
use Rattle.saml_tree.specs.Documents.{DocumentView, IsSpelled}
use Rattle.saml_tree.specs.Documents as documents
use Rattle.saml_tree.specs.declared.node.TreeFault.{TreeFault}
use Rattle.post_binding.specs.Form.{form}
use Rattle.tree_read.specs.Children.{children}
use Rattle.protocol_messages.specs.Messages.{is_any, IsAuthnRequest}
use Rattle.protocol_messages.specs.declared.authn.AuthnRequest.{AuthnRequest}
use Rattle.sig_reference.specs.declared.fault.SigFault.{SigFault}
use Rattle.verdict_codes.specs.declared.codes.Verdict.{Verdict}
use Rattle.fault_verdicts.specs.Judging.{judged_of, IsJudged}
use Rattle.fault_verdicts.specs.Verdicts.{of_document, of_signature}
use Rattle.fault_verdicts.specs.declared.judged.Judged.{Judged}
use Rattle.fault_verdicts.specs.declared.judged.Judged.TheVariants as judgements
use Rattle.peer_keys.specs.declared.peers.LogoutPeer.{LogoutPeer}
use Rattle.idp_rules.specs.declared.asked.Asked.{Asked}
use Rattle.idp_rules.specs.Asking.{Carried, Carries, Posts, is_signed, is_destination, IsAuthentic, asked_of, IsAsked}
use Rattle.idp_rules.specs.Verdict.{form_refusal, IsRefused, by_form, by_document, by_root, by_issuer, by_destination, by_consumer, by_signature}
use Rattle.idp_rules.specs.Views.{IsNoRequest, IsSender, IsNoSender, unknown, elsewhere, unwanted, IsForged}

-- a verdict that is there is judged by what is right for it
judged_right : (IsRight : Verdict → Type 0) (told : Option Verdict) → ((verdict : Verdict) → told ≡ Some verdict → IsRight verdict) →
    IsJudged IsRight (judged_of told)
judged_right IsRight None h = tt
judged_right IsRight (Some verdict) h = h verdict refl

-- what is right for one is right for another
judged_more : (P Q : Verdict → Type 0) (judged : Judged) → ((verdict : Verdict) → P verdict → Q verdict) → IsJudged P judged → IsJudged Q judged
judged_more P Q (judgements.Code verdict) f h = f verdict h
judged_more P Q judgements.NoMemory f h = tt

-- what holds of the error that is handed on holds of the error
pub handed_on : {T E : Type 0} (P : E → Type 0) (result : Result T E) (e : E) → IsErrAnd result (λ error. error ≡ e) → P e → IfErr result P
handed_on P (Ok x) e h is = tt
handed_on P (Err error) e h is = subst P (sym h) is

-- the root has a Signature where the message has one
pub told_signed : (tree : Nodes) (k : ℕ) (signed : Bool) → k ≡ 0 → signed ≡ is_any (children tree k (ds (codes "Signature"))) → signed ≡ is_signed tree
told_signed tree k signed root is = subst (λ (n : ℕ). signed ≡ is_any (children tree n (ds (codes "Signature")))) root is

-- the peer at the place of the sender is the sender
pub peer_there : (peers : List LogoutPeer) (place : ℕ) (sender peer : LogoutPeer) → slice_get peers place ≡ Some sender → peer ≡ slice_index_or peers place peer →
    peer ≡ sender
peer_there peers place sender peer told is = is ∙ get_or_from_slice_get peers place sender peer told

-- there is a peer at each place
pub some_peer : (peers : List LogoutPeer) (place : ℕ) → place < length peers → (peer : LogoutPeer) × (slice_get peers place ≡ Some peer)
some_peer peers place h = elim ((slice_get_cases peers place).1) [
  | inl here ↦ (here.0, here.2)
  | inr past ↦ absurd (omega (arith, h, past.0))
]

-- the peer that was looked at stands at its place
pub peer_read : (peers : List LogoutPeer) (place : ℕ) (peer : LogoutPeer) → place < length peers → peer ≡ slice_index_or peers place peer →
    slice_get peers place ≡ Some peer
peer_read peers place peer h is = slice_get_read peers (length peers) place peer refl h is

module _ (peers : List LogoutPeer) (address body : List ℕ) where
  abbrev pub IsRight : Verdict → Type 0
  IsRight = IsRefused peers address body

  -- a form that is not read, or in which no request stands
  pub not_posted : (judged : Judged) → IsJudged (λ verdict. form_refusal (form body) ≡ Some verdict) judged → IsJudged IsRight judged
  not_posted judged h = judged_more (λ verdict. form_refusal (form body) ≡ Some verdict) IsRight judged (λ verdict e. by_form e) h

  -- a message that is no document
  pub not_spelled : (message : List ℕ) (relay : Option (List ℕ)) (fault : TreeFault) → Posts body message relay → documents.IsRefused message fault →
      IsJudged IsRight (judged_of (of_document fault))
  not_spelled message relay fault posted refused =
      judged_right IsRight (of_document fault) (λ verdict e. by_document message relay fault posted refused e)

  module _ (document : DocumentView) (relay : Option (List ℕ)) (posted : Posts body document.text relay) (spelled : IsSpelled document.text document.tree) where
    -- a document whose root is no AuthnRequest
    pub not_request : (k : ℕ) (judged : Judged) → k ≡ 0 → IsJudged (IsNoRequest document.tree k) judged → IsJudged IsRight judged
    not_request k judged root h =
        judged_more (IsNoRequest document.tree k) IsRight judged
        (λ verdict no. by_root document.text relay document.tree posted spelled
        (subst (λ (n : ℕ). (request : AuthnRequest) → ¬ (IsAuthnRequest document.tree n request)) root no.none) no.is) h

    module _ (k : ℕ) (request : AuthnRequest) (root : k ≡ 0) (is : IsAuthnRequest document.tree k request) (signed : Bool) (told : signed ≡ is_signed document.tree) where
      abbrev carried : Carried
      carried = record { message = document.text; relay = relay; tree = document.tree; request = request }

      carries : Carries body carried
      carries = record { posted = posted; spelled = spelled; request = subst (λ (n : ℕ). IsAuthnRequest document.tree n request) root is }

      -- a request of no peer, or one that is not for this provider
      pub not_sent : (verdict : Verdict) → IsNoSender peers address signed request verdict → IsRight verdict
      not_sent verdict (unknown none is) = by_issuer carried carries none is
      not_sent verdict (elsewhere place peer known peer_is destination is) =
          by_destination carried place peer carries (record { known = known; peer_is = peer_is })
          (subst (λ b. is_destination address b request.destination ≡ false) told destination) is
      not_sent verdict (unwanted place peer known peer_is destination wanted is) =
          by_consumer carried place peer carries (record { known = known; peer_is = peer_is })
          (subst (λ b. is_destination address b request.destination ≡ true) told destination) wanted is

      module _ (place : ℕ) (sender : IsSender peers address signed request place) where
        -- it is sent to this address
        sent_here : is_destination address (is_signed document.tree) request.destination ≡ true
        sent_here = subst (λ b. is_destination address b request.destination ≡ true) told sender.destination

        -- a Signature that does not vouch for it
        pub is_forged : (fault : SigFault) → IsForged sender.peer document.tree fault → IsJudged IsRight (judged_of (of_signature fault))
        is_forged fault forged =
            judged_right IsRight (of_signature fault)
            (λ verdict e. by_signature carried place sender.peer fault carries (record { known = sender.known; peer_is = sender.peer_is }) sent_here
            sender.wanted forged.signed forged.unvouched e)

        -- it asks for a login
        pub is_asked : (asked : Asked) → IsAuthentic sender.peer document.tree → asked ≡ asked_of carried place sender.peer → IsAsked peers address body asked
        is_asked asked authentic is = record {
          carried = carried;
          place = place;
          peer = sender.peer;
          asks =
              record {
                carries = carries;
                known = sender.known;
                peer_is = sender.peer_is;
                destination = sent_here;
                wanted = sender.wanted;
                authentic = authentic;
              };
          is = is;
        }

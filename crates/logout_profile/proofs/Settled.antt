-- A form is obeyed or refused: it can't be that neither holds.
use Rattle.std.proofs.Common.{◌≡◌, ℕ, List, [], ◌∷◌, Option, None, Some, Result, Ok, Err, inl, inr, refl, ◌∙◌, ap}
use Rattle.xml_spec.specs.Tree.{Nodes}
use Rattle.xml_spec.specs.Identifiers.{IsSingle}
use Rattle.saml_tree.specs.Documents.{IsSpelled}
use Rattle.post_binding.specs.Form.{form}
use Rattle.post_binding.specs.declared.fault.FormFault.{FormFault}
use Rattle.post_binding.specs.declared.posted.Field.{Field}
use Rattle.post_binding.specs.declared.posted.Posted.{Posted}
use Rattle.sig_reference.specs.Signature.{IsUnvouched}
use Rattle.sig_reference.specs.declared.fault.SigFault.{SigFault}
use Rattle.sig_reference.specs.declared.fault.SigFault.TheVariants as sigs
use Rattle.verdict_codes.specs.declared.codes.Verdict.{Verdict}
use Rattle.verdict_codes.specs.declared.codes.Verdict.TheVariants as verdicts
use Rattle.fault_verdicts.specs.Verdicts.{of_signature}
use Rattle.fault_verdicts.proofs.Settled.{IsJudgement, form_judged, document_settled, signature_settled}
use Rattle.peer_keys.specs.Peers.{place_of}
use Rattle.peer_keys.specs.declared.peers.LogoutPeer.{LogoutPeer}
use Rattle.peer_keys.proofs.Placing.{peer_there}
use Rattle.logout_profile.specs.declared.logout.Logout.{Logout}
use Rattle.logout_profile.specs.Carrying.{issuer_of, destination_of, until_of, logout_of, Carried, Carries}
use Rattle.logout_profile.specs.Keys.{keys_of, IsVouched, IsNotVouched}
use Rattle.logout_profile.specs.Verdict.{IsPeer, is_sent_to, is_in_time, form_refusal, message_refusal, IsRefused, IsAccepted, by_form, by_document, by_root, by_issuer, by_signature, by_message}
use Rattle.logout_profile.proofs.Deciding.{meant}

-- THE KEYS

-- no key vouches for a message, and none fails for a reason
record IsOpen (keys : List (List ℕ)) (tree : Nodes) : Type 0 where
  unvouched : (key : List ℕ) → ¬ (IsVouched keys tree key)
  unrefused : (fault : SigFault) (verdict : Verdict) → IsNotVouched keys tree fault → ¬ (of_signature fault ≡ Some verdict)

at_fault : (first : List ℕ) (others : List (List ℕ)) (tree : Nodes) → IsOpen (first ∷ others) tree → (IsOpen others tree → ⊥) → (fault : SigFault) (verdict : Verdict) →
    IsUnvouched first tree 0 fault → ¬ (of_signature fault ≡ Some verdict)
at_fault first others tree o rest sigs.BadSignatureForm verdict u told = o.unrefused sigs.BadSignatureForm verdict (inl (u, λ same. cc)) told
at_fault first others tree o rest sigs.BadReference verdict u told = o.unrefused sigs.BadReference verdict (inl (u, λ same. cc)) told
at_fault first others tree o rest sigs.TagDiffers verdict u told =
    rest (record { unvouched = λ key v. o.unvouched key (inr (u, v)); unrefused = λ fault verdict w told. o.unrefused fault verdict (inr (u, w)) told })
at_fault first others tree o rest sigs.DigestDiffers verdict u told = o.unrefused sigs.DigestDiffers verdict (inl (u, λ same. cc)) told
at_fault first others tree o rest sigs.NoMemory verdict u told = cc

not_open : (keys : List (List ℕ)) (tree : Nodes) → IsSingle tree → IsOpen keys tree → ⊥
not_open [] tree single o = o.unrefused sigs.TagDiffers verdicts.TagDiffers refl refl
not_open (first ∷ others) tree single o =
    signature_settled first tree 0 single (λ parts vouches. o.unvouched first (inl (refl, (parts, vouches))))
    (λ fault verdict u told. at_fault first others tree o (not_open others tree single) fault verdict u told)

-- THE FORM

module _ (peers : List LogoutPeer) (second : Option (List ℕ)) (address : List ℕ) (skew now : ℕ) (body : List ℕ) where
  -- it is not obeyed, and is refused for nothing
  pub record IsUnsettled : Type 0 where
    pub unobeyed : (logout : Logout) → ¬ (IsAccepted peers second address skew now body logout)
    pub unrefused : (verdict : Verdict) → ¬ (IsRefused peers second address skew now body verdict)

  at_key : IsUnsettled → (c : Carried) (place : ℕ) (peer : LogoutPeer) (key : List ℕ) → Carries body c → IsPeer peers (issuer_of c.message) place peer →
      IsVouched (keys_of peer second) c.tree key → ⊥
  at_key u c place peer key carries known vouched = by_told (message_refusal address skew now c.message) refl
    where
      by_told : (told : Option Verdict) → message_refusal address skew now c.message ≡ told → ⊥
      by_told (Some verdict) e = u.unrefused verdict (by_message c place peer key carries known vouched e)
      by_told None e =
          let m = meant (is_sent_to address (destination_of c.message)) (is_in_time skew now (until_of c.message)) e in
          u.unobeyed (logout_of c.message place c.relay) (record {
            carried = c;
            place = place;
            peer = peer;
            key = key;
            carries = carries;
            known = known;
            vouched = vouched;
            sent_to = m.0;
            in_time = m.1;
            is = refl;
          })

  at_message : IsUnsettled → (c : Carried) → Carries body c → ⊥
  at_message u c carries = by_place (place_of (issuer_of c.message) peers) refl
    where
      by_place : (place : Option ℕ) → place_of (issuer_of c.message) peers ≡ place → ⊥
      by_place None unknown = u.unrefused verdicts.UnknownPeer (by_issuer c carries unknown refl)
      by_place (Some place) stands =
          let peer = peer_there (issuer_of c.message) peers place stands in
          let known : IsPeer peers (issuer_of c.message) place peer.0 = record { stands = stands; is = peer.1 } in
          not_open (keys_of peer.0 second) c.tree carries.spelled.single (record {
            unvouched = λ key vouched. at_key u c place peer.0 key carries known vouched;
            unrefused = λ fault verdict w told. u.unrefused verdict (by_signature c place peer.0 fault carries known w told);
          })

  at_root : IsUnsettled → (field : Field) (text : List ℕ) (relay : Option (List ℕ)) (tree : Nodes) →
      form body ≡ Ok (record { field = field; message = text; relay = relay }) → IsSpelled text tree → ⊥
  at_root u field text relay tree posted spelled =
      u.unrefused verdicts.NotLogout (by_root field text relay tree posted spelled
      (λ message is. at_message u (record { field = field; text = text; relay = relay; tree = tree; message = message })
      (record { posted = posted; spelled = spelled; message = is })) refl)

  pub logout_settled : IsUnsettled → ⊥
  logout_settled u = by_read (form body) refl (form_judged body)
    where
      by_read : (read : Result Posted FormFault) → form body ≡ read → IsJudgement read → ⊥
      by_read (Err fault) is judged = u.unrefused judged.0 (by_form (ap form_refusal is ∙ judged.1))
      by_read (Ok posted) is judged =
          document_settled posted.message (λ tree spelled. at_root u posted.field posted.message posted.relay tree is spelled)
          (λ fault verdict refused told. u.unrefused verdict (by_document posted.field posted.message posted.relay fault is refused told))

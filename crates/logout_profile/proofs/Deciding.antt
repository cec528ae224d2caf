-- What a document that was posted asks or replies, or is refused for.
use Rattle.std.proofs.Common.{◌≡◌, ℕ, ◌<◌, Bool, true, false, cond, List, length, get_or, Option, None, Some, Result, Ok, Err, refl, sym, subst}
use Rattle.std.specs.Prelude.{IfErr, IsErrAnd}
use Rattle.std.proofs.lemmas.Option.{slice_get-get_or}
use Rattle.saml_tree.specs.Documents.{DocumentView, IsSpelled}
use Rattle.saml_tree.specs.Documents as documents
use Rattle.saml_tree.specs.declared.node.TreeFault.{TreeFault}
use Rattle.post_binding.specs.Form.{form}
use Rattle.post_binding.specs.declared.posted.Field.{Field}
use Rattle.sig_reference.specs.declared.fault.SigFault.{SigFault}
use Rattle.peer_keys.specs.Peers.{place_of}
use Rattle.peer_keys.specs.declared.peers.LogoutPeer.{LogoutPeer}
use Rattle.verdict_codes.specs.declared.codes.Verdict.{Verdict}
use Rattle.verdict_codes.specs.declared.codes.Verdict.TheVariants as verdicts
use Rattle.fault_verdicts.specs.declared.judged.Judged.{Judged}
use Rattle.fault_verdicts.specs.declared.judged.Judged.TheVariants as judgements
use Rattle.fault_verdicts.specs.Judging.{judged_of, IsJudged}
use Rattle.fault_verdicts.specs.Verdicts.{of_document, of_signature}
use Rattle.logout_profile.specs.declared.message.Message.{Message}
use Rattle.logout_profile.specs.declared.logout.Logout.{Logout}
use Rattle.logout_profile.specs.Carrying.{IsMessage, issuer_of, destination_of, until_of, logout_of, Carried, Posts, Carries}
use Rattle.logout_profile.specs.Keys.{keys_of, IsVouched, IsNotVouched}
use Rattle.logout_profile.specs.Verdict.{IsPeer, is_sent_to, is_in_time, form_refusal, message_refusal, IsRefused, IsAccepted, by_form, by_document, by_root, by_issuer, by_signature, by_message}

-- a verdict that is there is judged by what is right for it
judged_right : (IsRight : Verdict → Type 0) (told : Option Verdict) → ((verdict : Verdict) → told ≡ Some verdict → IsRight verdict) →
    IsJudged IsRight (judged_of told)
judged_right IsRight None h = tt
judged_right IsRight (Some verdict) h = h verdict refl

-- what is right for one is right for another
judged_more : (P Q : Verdict → Type 0) (judged : Judged) → ((verdict : Verdict) → P verdict → Q verdict) → IsJudged P judged → IsJudged Q judged
judged_more P Q (judgements.Code verdict) f h = f verdict h
judged_more P Q judgements.NoMemory f h = tt

-- what holds of the error that is handed on holds of the error
pub handed_on : {T E : Type 0} (P : E → Type 0) (result : Result T E) (e : E) → IsErrAnd result (λ error. error ≡ e) → P e → IfErr result P
handed_on P (Ok x) e h is = tt
handed_on P (Err error) e h is = subst P (sym h) is

-- a message that is refused for nothing is sent here, and has not expired
pub meant : (sent_to in_time : Bool) → cond sent_to (cond in_time None (Some verdicts.LogoutNotInTime)) (Some verdicts.LogoutDestination) ≡ None →
    (sent_to ≡ true) × (in_time ≡ true)
meant true true e = (refl, refl)
meant true false e = absurd (cc)
meant false in_time e = absurd (cc)

-- the peer at the place of the name that a message gives
pub peer_at : (peers : List LogoutPeer) (entity name : List ℕ) (place : ℕ) (other : LogoutPeer) → name ≡ entity → Some place ≡ place_of name peers →
    place < length peers → IsPeer peers entity place (get_or peers place other)
peer_at peers entity name place other same found there = record {
  stands = subst (λ text. place_of text peers ≡ Some place) same (sym found);
  is = slice_get-get_or peers place other there;
}

module _ (peers : List LogoutPeer) (second : Option (List ℕ)) (address : List ℕ) (skew now : ℕ) (body : List ℕ) where
  abbrev IsRight : Verdict → Type 0
  IsRight = IsRefused peers second address skew now body

  -- a form that is not read
  pub not_posted : (judged : Judged) → IsJudged (λ verdict. form_refusal (form body) ≡ Some verdict) judged → IsJudged IsRight judged
  not_posted judged h = judged_more (λ verdict. form_refusal (form body) ≡ Some verdict) IsRight judged (λ verdict e. by_form e) h

  module _ (field : Field) (relay : Option (List ℕ)) where
    -- a message that is no document
    pub not_spelled : (text : List ℕ) (fault : TreeFault) → Posts body field text relay → documents.IsRefused text fault →
        IsJudged IsRight (judged_of (of_document fault))
    not_spelled text fault posted refused =
        judged_right IsRight (of_document fault) (λ verdict e. by_document field text relay fault posted refused e)

    module _ (document : DocumentView) (posted : Posts body field document.text relay) (spelled : IsSpelled document.text document.tree) where
      -- a document whose root is no message of a logout that fits the field
      pub not_message : (k : ℕ) (judged : Judged) → k ≡ 0 →
          IsJudged (λ verdict. (verdict ≡ verdicts.NotLogout) × ((message : Message) → ¬ (IsMessage field document.tree k message))) judged → IsJudged IsRight judged
      not_message k judged root h =
          judged_more (λ verdict. (verdict ≡ verdicts.NotLogout) × ((message : Message) → ¬ (IsMessage field document.tree k message))) IsRight judged
          (λ verdict e. by_root field document.text relay document.tree posted spelled
          (subst (λ n. (message : Message) → ¬ (IsMessage field document.tree n message)) root e.1) e.0) h

      module _ (k : ℕ) (message : Message) (root : k ≡ 0) (is : IsMessage field document.tree k message) where
        abbrev carried : Carried
        carried = record { field = field; text = document.text; relay = relay; tree = document.tree; message = message }

        carries : Carries body carried
        carries = record { posted = posted; spelled = spelled; message = subst (λ n. IsMessage field document.tree n message) root is }

        -- no peer sent it
        pub not_known : place_of (issuer_of message) peers ≡ None → IsRight verdicts.UnknownPeer
        not_known none = by_issuer carried carries none refl

        module _ (place : ℕ) (peer : LogoutPeer) (known : IsPeer peers (issuer_of message) place peer) where
          -- no key of the peer vouches for it
          pub not_vouched : (fault : SigFault) → IsNotVouched (keys_of peer second) document.tree fault → IsJudged IsRight (judged_of (of_signature fault))
          not_vouched fault u =
              judged_right IsRight (of_signature fault) (λ verdict e. by_signature carried place peer fault carries known u e)

          module _ (key : List ℕ) (vouched : IsVouched (keys_of peer second) document.tree key) where
            -- it is not meant for this provider, here and now
            pub not_meant : (verdict : Verdict) → message_refusal address skew now message ≡ Some verdict → IsRight verdict
            not_meant verdict e = by_message carried place peer key carries known vouched e

            -- the form is obeyed
            pub obeyed : (logout : Logout) → message_refusal address skew now message ≡ None → logout ≡ logout_of message place relay →
                IsAccepted peers second address skew now body logout
            obeyed logout none made =
                let m = meant (is_sent_to address (destination_of message)) (is_in_time skew now (until_of message)) none in
                record {
                  carried = carried;
                  place = place;
                  peer = peer;
                  key = key;
                  carries = carries;
                  known = known;
                  vouched = vouched;
                  sent_to = m.0;
                  in_time = m.1;
                  is = made;
                }

-- A form asks for a login or is refused: it can't be that neither holds.
use Rattle.std.proofs.Common.{◌≡◌, ℕ, Bool, true, false, List, Option, None, Some, Result, Ok, Err, refl, sym, ◌∙◌, ap}
use Rattle.xml_spec.specs.Tree.{Nodes}
use Rattle.saml_tree.specs.Documents.{IsSpelled}
use Rattle.post_binding.specs.Form.{form}
use Rattle.post_binding.specs.declared.fault.FormFault.{FormFault}
use Rattle.post_binding.specs.declared.posted.Field.{Field}
use Rattle.post_binding.specs.declared.posted.Field.TheVariants.{Request, Response}
use Rattle.post_binding.specs.declared.posted.Posted.{Posted}
use Rattle.verdict_codes.specs.declared.codes.Verdict.{Verdict}
use Rattle.verdict_codes.specs.declared.codes.Verdict.TheVariants as verdicts
use Rattle.fault_verdicts.proofs.Settled.{IsJudgement, form_judged, document_settled, signature_settled}
use Rattle.peer_keys.specs.Peers.{place_of}
use Rattle.peer_keys.specs.declared.peers.LogoutPeer.{LogoutPeer}
use Rattle.peer_keys.proofs.Placing.{peer_there}
use Rattle.idp_rules.specs.declared.asked.Asked.{Asked}
use Rattle.idp_rules.specs.Asking.{Carried, Carries, is_signed, is_destination, is_wanted_at, IsAuthentic, asked_of, IsAsked}
use Rattle.idp_rules.specs.Verdict.{form_refusal, IsFrom, IsRefused, by_form, by_document, by_root, by_issuer, by_destination, by_consumer, by_signature}

module _ (peers : List LogoutPeer) (address body : List ℕ) where
  -- it asks for nothing, and is refused for nothing
  pub record IsUnsettled : Type 0 where
    pub unasked : (asked : Asked) → ¬ (IsAsked peers address body asked)
    pub unrefused : (verdict : Verdict) → ¬ (IsRefused peers address body verdict)

  -- the request of a peer, sent to this address, that is wanted where its metadata has it
  record IsFit (c : Carried) (place : ℕ) (peer : LogoutPeer) : Type 0 where
    carries : Carries body c
    from : IsFrom peers c place peer
    destination : is_destination address (is_signed c.tree) c.request.destination ≡ true
    wanted : is_wanted_at peer c.request ≡ true

  at_authentic : IsUnsettled → (c : Carried) (place : ℕ) (peer : LogoutPeer) → IsFit c place peer → IsAuthentic peer c.tree → ⊥
  at_authentic u c place peer fit authentic =
      u.unasked (asked_of c place peer) (record {
        carried = c;
        place = place;
        peer = peer;
        asks =
            record {
              carries = fit.carries;
              known = fit.from.known;
              peer_is = fit.from.peer_is;
              destination = fit.destination;
              wanted = fit.wanted;
              authentic = authentic;
            };
        is = refl;
      })

  at_signature : IsUnsettled → (c : Carried) (place : ℕ) (peer : LogoutPeer) → IsFit c place peer → ⊥
  at_signature u c place peer fit = by_test (is_signed c.tree) refl
    where
      by_test : (b : Bool) → is_signed c.tree ≡ b → ⊥
      by_test false unsigned = at_authentic u c place peer fit (λ signed. absurd (let clash : false ≡ true = sym unsigned ∙ signed in cc))
      by_test true signed =
          signature_settled peer.key_in c.tree 0 fit.carries.spelled.single (λ parts vouches. at_authentic u c place peer fit (λ s. (parts, vouches)))
          (λ fault verdict unvouched told.
          u.unrefused verdict (by_signature c place peer fault fit.carries fit.from fit.destination fit.wanted signed unvouched told))

  at_peer : IsUnsettled → (c : Carried) (place : ℕ) (peer : LogoutPeer) → Carries body c → IsFrom peers c place peer → ⊥
  at_peer u c place peer carries from = by_destined (is_destination address (is_signed c.tree) c.request.destination) refl
    where
      by_wanted : is_destination address (is_signed c.tree) c.request.destination ≡ true → (b : Bool) → is_wanted_at peer c.request ≡ b → ⊥
      by_wanted destination false wanted =
          u.unrefused verdicts.WrongConsumer (by_consumer c place peer carries from destination wanted refl)
      by_wanted destination true wanted =
          at_signature u c place peer (record { carries = carries; from = from; destination = destination; wanted = wanted })

      by_destined : (b : Bool) → is_destination address (is_signed c.tree) c.request.destination ≡ b → ⊥
      by_destined false destination = u.unrefused verdicts.RequestDestination (by_destination c place peer carries from destination refl)
      by_destined true destination = by_wanted destination (is_wanted_at peer c.request) refl

  at_request : IsUnsettled → (c : Carried) → Carries body c → ⊥
  at_request u c carries = by_place (place_of c.request.issuer peers) refl
    where
      by_place : (place : Option ℕ) → place_of c.request.issuer peers ≡ place → ⊥
      by_place None unknown = u.unrefused verdicts.UnknownIssuer (by_issuer c carries unknown refl)
      by_place (Some place) known =
          let peer = peer_there c.request.issuer peers place known in
          at_peer u c place peer.0 carries (record { known = known; peer_is = peer.1 })

  at_root : IsUnsettled → (message : List ℕ) (relay : Option (List ℕ)) (tree : Nodes) →
      form body ≡ Ok (record { field = Request; message = message; relay = relay }) → IsSpelled message tree → ⊥
  at_root u message relay tree posted spelled =
      u.unrefused verdicts.NotAuthnRequest (by_root message relay tree posted spelled
      (λ request is. at_request u (record { message = message; relay = relay; tree = tree; request = request })
      (record { posted = posted; spelled = spelled; request = is })) refl)

  pub request_settled : IsUnsettled → ⊥
  request_settled u = by_read (form body) refl (form_judged body)
    where
      by_field : (posted : Posted) (field : Field) → form body ≡ Ok (record { field = field; message = posted.message; relay = posted.relay }) → ⊥
      by_field posted Response is = u.unrefused verdicts.BadForm (by_form (ap form_refusal is))
      by_field posted Request is =
          document_settled posted.message (λ tree spelled. at_root u posted.message posted.relay tree is spelled)
          (λ fault verdict refused told. u.unrefused verdict (by_document posted.message posted.relay fault is refused told))

      by_read : (read : Result Posted FormFault) → form body ≡ read → IsJudgement read → ⊥
      by_read (Err fault) is judged = u.unrefused judged.0 (by_form (ap form_refusal is ∙ judged.1))
      by_read (Ok posted) is judged = by_field posted posted.field is

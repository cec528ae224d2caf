-- Each signed element of an answer is of its record.
use Rattle.std.specs.Prelude.{Option, None, Some}
use Rattle.std.proofs.Common.{◌≡◌, ℕ, List, refl, sym, subst, ap, ◌∙◌}
use Rattle.element_make.specs.Made.{Made, alone}
use Rattle.http_wire.specs.declared.answer.Answer.{Answer}
use Rattle.http_wire.specs.declared.answer.Answer.TheVariants.{Full}
use Rattle.http_wire.specs.Requests.{Request}
use Rattle.ledger_records.specs.declared.hub_record.Backed.{Backed}
use Rattle.ledger_records.specs.declared.hub_record.HubRecord.{HubRecord}
use Rattle.ledger_records.specs.declared.hub_record.HubRecord.TheVariants as kinds
use Rattle.peer_keys.specs.Peers.{place_of}
use Rattle.peer_keys.specs.declared.peers.LogoutPeer.{LogoutPeer}
use Rattle.provider_config.specs.declared.idp_config.SignMode.TheVariants.{Assertion}
use Rattle.hub_ledger.specs.Ledger.{Held}
use Rattle.hub_ledger.specs.RowsOf.{Route}
use Rattle.sp_rules.specs.Opening.{Brought}
use Rattle.idp_answers.specs.Answers.{IsNoPassiveAnswer}
use Rattle.idp_answers.specs.SignedElements.{AResponseIsSignedByItsMode, signed_elements}
use Rattle.identity_hub.specs.declared.config.HubConfig.{HubConfig}
use Rattle.identity_hub.specs.Logins.{stated_by}
use Rattle.identity_hub.specs.Signed.{ALogin, ARefusal, ARequest, Carries, EachSignedElementIsOfARecord, HasOneSigned}
use Rattle.identity_hub.specs.Signed.{IsMetadata, NoOtherPageIsUnrecorded}
use Rattle.identity_hub.specs.Step as steps
use Rattle.identity_hub.specs.Step.{Answers, IsAnswerFor, IsFor, backed_for, below_of, spoken_for}
use Rattle.hub_ledger.specs.Ledger.{next_number}
use Rattle.saml_ids.specs.IdText.{id_text}
use Rattle.saml_ids.specs.declared.Kind.TheVariants.{Message}

-- the record of a login that is passed on goes to the peer of the request below
its_peer : (setup : HubConfig) (held : Held) (now : ℕ) (b : Brought) (row : Route) (r : Backed)
    → backed_for setup held now b row.below ≡ kinds.Backed r → row.below.peer ≡ r.peer
its_peer setup held now b row r is = ap peer_of is
  where
    peer_of : HubRecord → List ℕ
    peer_of (kinds.Routed r) = r.peer
    peer_of (kinds.Backed r) = r.peer
    peer_of (kinds.Spoke r) = r.peer

one_signed : AResponseIsSignedByItsMode → (setup : HubConfig) (held : Held) (now : ℕ) (b : Brought) (row : Route)
    (peer : LogoutPeer) (r : Backed) (bytes : List ℕ) → IsFor setup held now b.login.request row peer
    → backed_for setup held now b row.below ≡ kinds.Backed r → (page : IsAnswerFor setup peer r now bytes)
    → HasOneSigned setup r page.sent
one_signed law setup held now b row peer r bytes is_for is page = record {
  peer = peer;
  known =
      record {
        place = is_for.place;
        known =
            subst (λ (e : List ℕ). place_of e setup.peers ≡ Some is_for.place) (its_peer setup held now b row r is)
            is_for.known;
        there = is_for.there;
      };
  assertion = page.issued.assertion;
  of_login = page.issued.of_login;
  one =
      law Assertion peer.key_out setup.upstream.entity r.message (stated_by r) r.consumer now page.sent page.issued;
}

of_answer : AResponseIsSignedByItsMode → (setup : HubConfig) (held : Held) (request : Request) (now : ℕ)
    (answer : Answer)
    (adds : Option HubRecord) (r : HubRecord) (bytes : List ℕ) → adds ≡ Some r → answer ≡ Full bytes
    → Answers setup held request now answer adds → Carries setup request now bytes r
of_answer law setup held request now answer adds r bytes some shown (steps.ByStatus status to is none) = absurd (cc)
of_answer law setup held request now answer adds r bytes some shown (steps.ByMetadata role to is none) = absurd (cc)
of_answer law setup held request now answer adds r bytes some shown (steps.ByRefusal verdict to refused is none) =
    absurd (cc)
of_answer law setup held request now answer adds r bytes some shown
    (steps.BySpeaking asked peer message page asks passive is named answers what) =
    let same : page ≡ bytes = (let e = sym what ∙ shown in cc) in
    let record_is : spoken_for setup held now (below_of asked peer) ≡ r = (let e = sym is ∙ some in cc) in
    let first : message ≡ id_text setup.upstream.id_key Message (next_number held) = (let e = named in cc) in
    let own = subst (λ (m : List ℕ). IsNoPassiveAnswer setup.upstream.entity m asked.request asked.consumer asked.relay
    now bytes) first (subst (λ (b : List ℕ). IsNoPassiveAnswer setup.upstream.entity message asked.request asked.consumer
    asked.relay now b) same answers) in
    subst (Carries setup request now bytes) record_is
    (ARefusal _ (record {
      asked = asked;
      peer = peer;
      asks = asks;
      passive = passive;
      peer_is = refl;
      request_is = refl;
    }) own (ap (λ (m : Made). signed_elements (alone m)) own.answers.is))
of_answer law setup held request now answer adds r bytes some shown
    (steps.ByAsking asked peer q page asks passive own is answers what) =
    let same : page ≡ bytes = (let e = sym what ∙ shown in cc) in
    let record_is : kinds.Routed q ≡ r = (let e = sym is ∙ some in cc) in
    subst (Carries setup request now bytes) record_is
    (ARequest q (subst (λ (b : List ℕ). Rattle.sp_answers.specs.Answers.IsAskAnswer setup.upstream q.request q.relay now
    b) same answers))
of_answer law setup held request now answer adds r bytes some shown (steps.ByVerdict verdict to refused is none) =
    absurd (cc)
of_answer law setup held request now answer adds r bytes some shown
    (steps.ByUnknownPeer b asked brings unknown is none) = absurd (cc)
of_answer law setup held request now answer adds r bytes some shown
    (steps.ByPassing b asked row peer q page brings is_for own is answers what) =
    let same : page ≡ bytes = (let e = sym what ∙ shown in cc) in
    let record_is : kinds.Backed q ≡ r = (let e = sym is ∙ some in cc) in
    subst (Carries setup request now bytes) record_is
    (ALogin q answers.sent (record { is = sym same ∙ answers.is })
    (one_signed law setup held now b row peer q page is_for own answers))

pub carries : AResponseIsSignedByItsMode → EachSignedElementIsOfARecord
carries law setup held request now bytes r answers =
    of_answer law setup held request now (Full bytes) (Some r) r bytes refl refl answers

-- ---- a page that stands for no record

no_other : (setup : HubConfig) (held : Held) (request : Request) (now : ℕ) (answer : Answer) (adds : Option HubRecord)
    (bytes : List ℕ) → adds ≡ None → answer ≡ Full bytes → Answers setup held request now answer adds
    → IsMetadata setup request bytes
no_other setup held request now answer adds bytes empty shown (steps.ByStatus status to is none) = absurd (cc)
no_other setup held request now answer adds bytes empty shown (steps.ByMetadata role to is none) =
    record { role = role; to = to; is = (let e = sym shown ∙ is in cc) }
no_other setup held request now answer adds bytes empty shown (steps.ByRefusal verdict to refused is none) =
    absurd (cc)
no_other setup held request now answer adds bytes empty shown
    (steps.BySpeaking asked peer message page asks passive is named answers what) = absurd (cc)
no_other setup held request now answer adds bytes empty shown
    (steps.ByAsking asked peer q page asks passive own is answers what) = absurd (cc)
no_other setup held request now answer adds bytes empty shown (steps.ByVerdict verdict to refused is none) = absurd (cc)
no_other setup held request now answer adds bytes empty shown (steps.ByUnknownPeer b asked brings unknown is none) =
    absurd (cc)
no_other setup held request now answer adds bytes empty shown
    (steps.ByPassing b asked row peer q page brings is_for own is answers what) = absurd (cc)

pub unrecorded : NoOtherPageIsUnrecorded
unrecorded setup held request now bytes answers =
    no_other setup held request now (Full bytes) None bytes refl refl answers

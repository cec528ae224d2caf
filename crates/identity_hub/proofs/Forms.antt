-- What follows of a posted form.
use Rattle.std.specs.Prelude.{IfOk, Option, None, Some, Result, Ok, Err, slice_get}
use Rattle.std.proofs.Common.{◌≡◌, ◌<◌, ℕ, zero, suc, Bool, List, [], ◌∷◌, length, refl, sym, subst, ap, ◌∙◌, arith}
use Rattle.std.specs.List.{AllByRecursion}
use Rattle.xml_spec.specs.Characters.{IsText}
use Rattle.assertion_model.specs.declared.login.Login.{Login}
use Rattle.http_wire.specs.declared.answer.Answer.TheVariants.{Fixed}
use Rattle.http_wire.specs.Requests.{Request}
use Rattle.ledger_records.specs.declared.hub_record.Backed.{Backed}
use Rattle.ledger_records.specs.declared.hub_record.HubRecord.{HubRecord}
use Rattle.ledger_records.specs.declared.hub_record.HubRecord.TheVariants as kinds
use Rattle.request_rows.specs.declared.row.NewSession.{NewSession}
use Rattle.peer_keys.specs.Peers.{place_of}
use Rattle.peer_keys.specs.declared.peers.LogoutPeer.{LogoutPeer}
use Rattle.hub_ledger.specs.declared.row.BelowRow.{BelowRow}
use Rattle.hub_ledger.specs.Draft.{backed_in}
use Rattle.hub_ledger.specs.Drafts.{IsXmlBelow}
use Rattle.hub_ledger.specs.Finding.{routed_row}
use Rattle.hub_ledger.specs.Ledger.{Held}
use Rattle.hub_ledger.specs.RowsOf.{Route, rows_of}
use Rattle.idp_rules.specs.Asking.{IsAsked}
use Rattle.idp_rules.specs.Config.{IsTextPeer}
use Rattle.idp_rules.specs.declared.asked.Asked.{Asked}
use Rattle.sp_rules.specs.declared.accepted.Accepted.{Accepted}
use Rattle.sp_rules.specs.Shown.{IsOpening}
use Rattle.provider_config.specs.declared.idp_config.SignMode.TheVariants.{Assertion}
use Rattle.idp_answers.specs.Answers.{IsIssuedAnswer}
use Rattle.idp_answers.specs.Stating.{AllowedTextsMayStand, IsTold}
use Rattle.service_routes.specs.declared.route.Route.TheVariants.{To}
use Rattle.identity_hub.specs.declared.config.HubConfig.{HubConfig}
use Rattle.identity_hub.specs.declared.route.Service.TheVariants.{SignOn, Consumer}
use Rattle.identity_hub.specs.Config.{sign_on}
use Rattle.identity_hub.specs.Logins.{login_of}
use Rattle.identity_hub.specs.Replies.{AsksBelow, HasLogin, IsPassedPage, IsTextBelow}
use Rattle.identity_hub.specs.Routes.{route}
use Rattle.identity_hub.specs.Step.{Answers, ByUnknownPeer, IsAnswerFor, below_of, rows_seen}

-- one of those of which all hold something
all_at : {X : Type 0} (P : X → Type 0) (xs : List X) (i : ℕ) (x : X) → AllByRecursion P xs → slice_get xs i ≡ Some x
    → P x
all_at P [] i x all is = absurd (cc)
all_at P (y ∷ xs) zero x all is = subst P (let same : y ≡ x = cc in same) all.0
all_at P (y ∷ xs) (suc i) x all is = all_at P xs i x all.1 is

-- ---- for a login

-- the texts of what is asked for may stand in a document
abbrev pub AreTextsOfRequests : Type 0
AreTextsOfRequests =
    (peers : List LogoutPeer) (address body : List ℕ) (asked : Asked) → AllByRecursion IsTextPeer peers
    → IsAsked peers address body asked → IsText asked.request × IsText asked.consumer

pub asks_below : (passive : Bool) (setup : HubConfig) (request : Request) (now : ℕ) (below : BelowRow) (asked : Asked)
    → AreTextsOfRequests → AllByRecursion IsTextPeer setup.peers → route request ≡ To SignOn
    → IsAsked setup.peers (sign_on setup) request.body asked
    → ((peer : LogoutPeer) → slice_get setup.peers asked.peer ≡ Some peer → below ≡ below_of asked peer)
    → asked.passive ≡ passive → IsTold now → AsksBelow passive setup request now below
asks_below passive setup request now below asked texts all to is says passive_is told =
    let place : is.place ≡ asked.peer = sym (ap (λ (a : Asked). a.peer) is.is) in
    let known : slice_get setup.peers asked.peer ≡ Some is.peer =
    subst (λ (p : ℕ). slice_get setup.peers p ≡ Some is.peer) place is.asks.peer_is in
    let said = says is.peer known in
    let both = texts setup.peers (sign_on setup) request.body asked all is in
    let peer = all_at IsTextPeer setup.peers asked.peer is.peer all known in
    record {
      asked = asked;
      peer = is.peer;
      asks = record { to = to; is = is; known = known };
      passive_is = passive_is;
      says = said;
      texts = subst IsTextBelow (sym said) (record { request = both.0; peer = peer.entity; consumer = both.1 });
      told = told;
    }

-- ---- with a login

none_else : {X : Type 0} (o : Option X) (x y : X) → o ≡ Some x → o ≡ Some y → x ≡ y
none_else o x y a b = let both : Some x ≡ Some y = sym a ∙ b in cc

-- no request upwards waits for it
pub no_row : (setup : HubConfig) (held : Held) (request : Request) (now : ℕ) (accepted : Accepted)
    → route request ≡ To Consumer
    → IsOpening setup.upstream (rows_seen (rows_of held.records)) held.header.horizon now request.body accepted
    → routed_row (rows_of held.records) accepted.session.request now held.header.horizon ≡ None
    → Answers setup held request now (Fixed 41) None
no_row setup held request now accepted to opening none =
    let b = opening.brought in
    let same : accepted.session.request ≡ b.login.request = ap (λ (s : NewSession). s.request) opening.is.session in
    let own : routed_row (rows_of held.records) b.login.request now held.header.horizon ≡ None =
    subst (λ (id : List ℕ). routed_row (rows_of held.records) id now held.header.horizon ≡ None) same none in
    ByUnknownPeer b opening.asked (record { to = to; opens = opening.opens })
    (λ row peer is. let clash : Some row ≡ None = sym is.found ∙ own in cc) refl refl

-- or the peer that asked is not known any more
pub no_peer : (setup : HubConfig) (held : Held) (request : Request) (now : ℕ) (accepted : Accepted) (row : Route)
    → route request ≡ To Consumer
    → IsOpening setup.upstream (rows_seen (rows_of held.records)) held.header.horizon now request.body accepted
    → routed_row (rows_of held.records) accepted.session.request now held.header.horizon ≡ Some row
    → place_of row.below.peer setup.peers ≡ None → Answers setup held request now (Fixed 41) None
no_peer setup held request now accepted row to opening found none =
    let b = opening.brought in
    let same : accepted.session.request ≡ b.login.request = ap (λ (s : NewSession). s.request) opening.is.session in
    let own : routed_row (rows_of held.records) b.login.request now held.header.horizon ≡ Some row =
    subst (λ (id : List ℕ). routed_row (rows_of held.records) id now held.header.horizon ≡ Some row) same found in
    ByUnknownPeer b opening.asked (record { to = to; opens = opening.opens })
    (λ other peer is.
    let one =
    none_else (routed_row (rows_of held.records) b.login.request now held.header.horizon) other row is.found own in
    let clash : Some is.place ≡ None =
    sym is.known ∙ ap (λ (r : Route). place_of r.below.peer setup.peers) one ∙ none in
    cc) refl refl

-- ---- its page

-- what the answer with a login that is passed on is made of
pub record IsMadeOf (setup : HubConfig) (peer : LogoutPeer) (backed : Backed) (key : List ℕ) (login : Login)
    (message consumer : List ℕ) (relay : Option (List ℕ)) : Type 0 where
  pub key_is : key ≡ peer.key_out
  pub login_is : login ≡ login_of setup.upstream.entity backed
  pub message_is : message ≡ backed.message
  pub consumer_is : consumer ≡ backed.consumer
  pub relay_is : relay ≡ backed.below_relay

answer_for : (setup : HubConfig) (peer : LogoutPeer) (backed : Backed) (key : List ℕ) (login : Login)
    (message consumer : List ℕ) (relay : Option (List ℕ)) (now : ℕ) (bytes : List ℕ)
    → IsMadeOf setup peer backed key login message consumer relay
    → IsIssuedAnswer Assertion key login message consumer relay None now bytes → IsAnswerFor setup peer backed now bytes
answer_for setup peer backed key login message consumer relay now bytes of answer =
    let made = login_of setup.upstream.entity backed in
    subst (λ (k : List ℕ). IsIssuedAnswer Assertion k made backed.message backed.consumer backed.below_relay None now
    bytes) of.key_is
    (subst (λ (l : Login). IsIssuedAnswer Assertion key l backed.message backed.consumer backed.below_relay None now
    bytes) of.login_is
    (subst (λ (m : List ℕ). IsIssuedAnswer Assertion key login m backed.consumer backed.below_relay None now bytes)
    of.message_is
    (subst (λ (c : List ℕ). IsIssuedAnswer Assertion key login message c backed.below_relay None now bytes)
    of.consumer_is
    (subst (λ (r : Option (List ℕ)). IsIssuedAnswer Assertion key login message consumer r None now bytes) of.relay_is
    answer))))

the_same : (setup : HubConfig) (place : ℕ) (r : HubRecord) (backed : Backed) → HasLogin setup place r
    → Some backed ≡ backed_in r → r ≡ kinds.Backed backed
the_same setup place r backed has is =
    let both : Some backed ≡ Some has.backed = is ∙ ap backed_in has.is in
    let one : backed ≡ has.backed = cc in
    has.is ∙ ap (λ (b : Backed). kinds.Backed b) (sym one)

pub page_of : {E : Type 0} (setup : HubConfig) (place : ℕ) (r : HubRecord) (peer : LogoutPeer) (backed : Backed)
    (key : List ℕ) (login : Login) (message consumer : List ℕ) (relay : Option (List ℕ)) (now : ℕ)
    (result : Result (List ℕ) E) → HasLogin setup place r → Some backed ≡ backed_in r
    → slice_get setup.peers place ≡ Some peer → IsMadeOf setup peer backed key login message consumer relay
    → IfOk result (IsIssuedAnswer Assertion key login message consumer relay None now)
    → IfOk result (IsPassedPage setup place r now)
page_of setup place r peer backed key login message consumer relay now (Ok bytes) has is there of answer = record {
  backed = backed;
  is = the_same setup place r backed has is;
  peer = peer;
  there = there;
  answers = answer_for setup peer backed key login message consumer relay now bytes of answer;
}
page_of setup place r peer backed key login message consumer relay now (Err e) has is there of answer = answer

-- ---- the peer at a place

inside : {X : Type 0} (xs : List X) (i : ℕ) → i < length xs → (x : X) × (slice_get xs i ≡ Some x)
inside [] i less = absurd (omega (arith, less))
inside (x ∷ xs) zero less = (x, refl)
inside (x ∷ xs) (suc i) less = inside xs i (omega (arith, less))

pub row_there : (own setup : HubConfig) (place : ℕ) → own ≡ setup → place < length own.peers
    → (peer : LogoutPeer) × (slice_get setup.peers place ≡ Some peer)
row_there own setup place is less =
    inside setup.peers place (subst (λ (s : HubConfig). place < length s.peers) is less)

-- ---- a request below whose texts passed the test of a record's

pub below_stands : AllowedTextsMayStand → (below : BelowRow) → IsXmlBelow below → IsTextBelow below
below_stands law below all =
    let texts = law (below.peer ∷ below.consumer ∷ below.request ∷ []) all in
    record { request = texts.1.1.0; peer = texts.0; consumer = texts.1.0 }

-- The page that is made of a draft stands for it.
use Rattle.std.specs.Prelude.{IfOk, Result, Ok, Err, slice_get}
use Rattle.logout_answers.specs.Answers.{Ending, Leaving, end_answer}
use Rattle.protocol_messages.specs.declared.logout.LogoutRequest.{LogoutRequest}
use Rattle.peer_keys.specs.Peers.{place_of}
use Rattle.std.proofs.Common.{◌≡◌, ℕ, Bool, true, List, [], ◌∷◌, Option, None, Some, sym, subst, refl, ap, ◌∙◌}
use Rattle.assertion_model.specs.declared.login.Login.{Login}
use Rattle.http_wire.specs.declared.answer.Answer.TheVariants.{Full}
use Rattle.ledger_records.specs.declared.idp_record.Issued.{Issued}
use Rattle.ledger_records.specs.declared.idp_record.IdpRecord.{IdpRecord}
use Rattle.ledger_records.specs.declared.idp_record.IdpRecord.TheVariants as kinds
use Rattle.peer_keys.specs.declared.peers.LogoutPeer.{LogoutPeer}
use Rattle.idp_ledger.specs.Draft.{first_id, issued_in, partial_in, peer_in}
use Rattle.idp_rules.specs.declared.config.IdpConfig.{IdpConfig}
use Rattle.idp_answers.specs.Answers.{IsIssuedAnswer}
use Rattle.idp_server.specs.Logins.{login_of}
use Rattle.idp_server.specs.Replies.{HasAssertion, HasFirstTurn, HasRequest, HasResponse, IsAskingPage, IsAssertionPage, IsEndingPage, IsLastPage, IsLeavingPage, IsNextPage}
use Rattle.logout_fanout.specs.declared.plan.Plan.{Plan}
use Rattle.logout_turns.specs.declared.part.Asker.{Asker}
use Rattle.logout_turns.specs.declared.turns.Turn.{Turn}
use Rattle.idp_server.specs.Messages.{IsRequestTo, IsRoundEnd, ToAsker, ToNone, ToPeer}
use Rattle.idp_server.specs.Step.{IsAnswerFor}

-- the Issued of a record that has an Assertion
the_same : (setup : IdpConfig) (place : ℕ) (r : IdpRecord) (issued : Issued) → HasAssertion setup place r
    → Some issued ≡ issued_in r → r ≡ kinds.Issued issued
the_same setup place r issued has is =
    let both : Some issued ≡ Some has.issued = is ∙ ap issued_in has.is in
    let one : issued ≡ has.issued = cc in
    has.is ∙ ap (λ (i : Issued). kinds.Issued i) (sym one)

-- what its answer is made of
pub record IsMadeOf (setup : IdpConfig) (peer : LogoutPeer) (issued : Issued) (key : List ℕ) (login : Login)
    (message consumer : List ℕ) (relay : Option (List ℕ)) : Type 0 where
  pub key_is : key ≡ peer.key_out
  pub login_is : login ≡ login_of setup.entity issued
  pub message_is : message ≡ issued.message
  pub consumer_is : consumer ≡ issued.consumer
  pub relay_is : relay ≡ issued.relay

answer_for : (setup : IdpConfig) (peer : LogoutPeer) (issued : Issued) (key : List ℕ) (login : Login)
    (message consumer : List ℕ) (relay cookie : Option (List ℕ)) (now : ℕ) (bytes : List ℕ)
    → IsMadeOf setup peer issued key login message consumer relay
    → IsIssuedAnswer setup.mode key login message consumer relay cookie now bytes
    → IsAnswerFor setup peer issued cookie now bytes
answer_for setup peer issued key login message consumer relay cookie now bytes of answer =
    subst (λ (k : List ℕ). IsIssuedAnswer setup.mode k (login_of setup.entity issued) issued.message issued.consumer
    issued.relay cookie now bytes) of.key_is
    (subst (λ (l : Login). IsIssuedAnswer setup.mode key l issued.message issued.consumer issued.relay cookie now bytes)
    of.login_is
    (subst (λ (m : List ℕ). IsIssuedAnswer setup.mode key login m issued.consumer issued.relay cookie now bytes)
    of.message_is
    (subst (λ (c : List ℕ). IsIssuedAnswer setup.mode key login message c issued.relay cookie now bytes) of.consumer_is
    (subst (λ (r : Option (List ℕ)). IsIssuedAnswer setup.mode key login message consumer r cookie now bytes)
    of.relay_is answer))))

pub page_of : {E : Type 0} (setup : IdpConfig) (place : ℕ) (r : IdpRecord) (peer : LogoutPeer) (issued : Issued)
    (key : List ℕ) (login : Login) (message consumer : List ℕ)
    (relay cookie : Option (List ℕ)) (now : ℕ) (result : Result (List ℕ) E) → HasAssertion setup place r
    → Some issued ≡ issued_in r → slice_get setup.peers place ≡ Some peer
    → IsMadeOf setup peer issued key login message consumer relay
    → IfOk result (IsIssuedAnswer setup.mode key login message consumer relay cookie now)
    → IfOk result (λ bytes. IsAssertionPage setup place cookie r now (Full bytes))
page_of setup place r peer issued key login message consumer relay cookie now (Ok bytes) has is there of answer =
    record {
      issued = issued;
      is = the_same setup place r issued has is;
      peer = peer;
      there = there;
      bytes = bytes;
      answers = answer_for setup peer issued key login message consumer relay cookie now bytes of answer;
      full = refl;
    }
page_of setup place r peer issued key login message consumer relay cookie now (Err e) has is there of answer = answer

-- ---- of a logout

-- what the answer to a user who leaves is made of
pub record IsLeftWith (setup : IdpConfig) (user index : List ℕ) (r : IdpRecord) (id goes issuer name : List ℕ)
    (indexes : List (List ℕ)) : Type 0 where
  pub id_is : Some id ≡ first_id r
  pub goes_is : Some goes ≡ peer_in r
  pub issuer_is : issuer ≡ setup.entity
  pub name_is : name ≡ user
  pub indexes_are : indexes ≡ index ∷ []

pub some_same : (one other : List ℕ) → Some one ≡ Some other → one ≡ other
some_same one other is = cc

pub leaving_page_of : {E : Type 0} (setup : IdpConfig) (user index : List ℕ) (r : IdpRecord) (now place : ℕ)
    (peer : LogoutPeer) (id goes issuer name : List ℕ) (indexes : List (List ℕ))
    (result : Result (List ℕ) E) → HasRequest setup user index r
    → IsLeftWith setup user index r id goes issuer name indexes → place_of goes setup.peers ≡ Some place
    → slice_get setup.peers place ≡ Some peer → IfOk result (Leaving peer id issuer now name indexes)
    → IfOk result (λ bytes. IsLeavingPage setup user index r now (Full bytes))
leaving_page_of setup user index r now place peer id goes issuer name indexes (Ok bytes) has of known there leaves =
    let id_is : id ≡ has.left.request = some_same id has.left.request (of.id_is ∙ ap first_id has.is) in
    let goes_is : goes ≡ has.left.peer = some_same goes has.left.peer (of.goes_is ∙ ap peer_in has.is) in
    record {
      left = has.left;
      is = has.is;
      bytes = bytes;
      answers = ToPeer peer (place, subst (λ (e : List ℕ). place_of e setup.peers ≡ Some place) goes_is known, there)
          (subst (λ (i : List ℕ). Leaving peer i setup.entity now user (index ∷ []) bytes) id_is
          (subst (λ (e : List ℕ). Leaving peer id e now user (index ∷ []) bytes) of.issuer_is
          (subst (λ (n : List ℕ). Leaving peer id issuer now n (index ∷ []) bytes) of.name_is
          (subst (λ (xs : List (List ℕ)). Leaving peer id issuer now name xs bytes) of.indexes_are leaves))));
      full = refl;
    }
leaving_page_of setup user index r now place peer id goes issuer name indexes (Err e) has of known there leaves = leaves

-- its peer is not known any more
pub left_page_of : {E : Type 0} (setup : IdpConfig) (user index : List ℕ) (r : IdpRecord) (now : ℕ) (goes : List ℕ)
    (result : Result (List ℕ) E) → HasRequest setup user index r
    → Some goes ≡ peer_in r → place_of goes setup.peers ≡ None → IfOk result (λ bytes. bytes ≡ end_answer true)
    → IfOk result (λ bytes. IsLeavingPage setup user index r now (Full bytes))
left_page_of setup user index r now goes (Ok bytes) has goes_is none ends =
    let same : goes ≡ has.left.peer = some_same goes has.left.peer (goes_is ∙ ap peer_in has.is) in
    record {
      left = has.left;
      is = has.is;
      bytes = bytes;
      answers =
          ToNone (subst (λ (e : List ℕ). place_of e setup.peers ≡ None) same none) ends;
      full = refl;
    }
left_page_of setup user index r now goes (Err e) has goes_is none ends = ends

-- what the answer to a peer that asked to end sessions is made of
pub record IsEndedWith (setup : IdpConfig) (asked : LogoutRequest) (r : IdpRecord) (id issuer request : List ℕ)
    (partial : Bool) : Type 0 where
  pub id_is : Some id ≡ first_id r
  pub issuer_is : issuer ≡ setup.entity
  pub request_is : request ≡ asked.id
  pub partial_is : Some partial ≡ partial_in r

part_same : (one other : Bool) → Some one ≡ Some other → one ≡ other
part_same one other is = cc

pub ending_page_of : {E : Type 0} (setup : IdpConfig) (asked : LogoutRequest) (place : ℕ)
    (relay given : Option (List ℕ)) (r : IdpRecord) (now : ℕ) (peer : LogoutPeer) (id issuer request : List ℕ)
    (partial : Bool) (result : Result (List ℕ) E) → HasResponse setup asked place r
    → IsEndedWith setup asked r id issuer request partial → given ≡ relay
    → slice_get setup.peers place ≡ Some peer → IfOk result (Ending peer id issuer now request partial given)
    → IfOk result (λ bytes. IsEndingPage setup place relay r now (Full bytes))
ending_page_of setup asked place relay given r now peer id issuer request partial (Ok bytes) has of relay_is there
    ends =
    let id_is : id ≡ has.ended.message = some_same id has.ended.message (of.id_is ∙ ap first_id has.is) in
    let partial_is : partial ≡ has.ended.partial =
    part_same partial has.ended.partial (of.partial_is ∙ ap partial_in has.is) in
    record {
      ended = has.ended;
      is = has.is;
      peer = peer;
      there = there;
      bytes = bytes;
      answers =
          subst (λ (i : List ℕ). Ending peer i setup.entity now has.ended.request has.ended.partial relay bytes) id_is
          (subst (λ (e : List ℕ). Ending peer id e now has.ended.request has.ended.partial relay bytes) of.issuer_is
          (subst (λ (q : List ℕ). Ending peer id issuer now q has.ended.partial relay bytes) (of.request_is ∙ has.same)
          (subst (λ (p : Bool). Ending peer id issuer now request p relay bytes) partial_is
          (subst (λ (g : Option (List ℕ)). Ending peer id issuer now request partial g bytes) relay_is ends))));
      full = refl;
    }
ending_page_of setup asked place relay given r now peer id issuer request partial (Err e) has of relay_is there ends =
    ends

-- the page at the end of a logout
pub end_shown : {E : Type 0} (partial : Bool) (result : Result (List ℕ) E)
    → IfOk result (λ bytes. bytes ≡ end_answer partial) → IfOk result (λ bytes. Full bytes ≡ Full (end_answer partial))
end_shown partial (Ok bytes) is = ap Full is
end_shown partial (Err e) is = is

-- ---- of a round

-- a request to the peer of a turn
pub request_page_of : {E : Type 0} (setup : IdpConfig) (turn : Turn) (id : List ℕ) (now place : ℕ) (peer : LogoutPeer)
    (goes issuer name : List ℕ) (result : Result (List ℕ) E)
    → goes ≡ turn.peer → issuer ≡ setup.entity → name ≡ turn.name → place_of goes setup.peers ≡ Some place
    → slice_get setup.peers place ≡ Some peer
    → IfOk result (Leaving peer id issuer now name turn.indexes)
    → IfOk result (λ bytes. IsRequestTo setup turn.peer id turn.name turn.indexes now bytes)
request_page_of setup turn id now place peer goes issuer name (Ok bytes) goes_is issuer_is name_is known there leaves =
    ToPeer peer (place, subst (λ (e : List ℕ). place_of e setup.peers ≡ Some place) goes_is known, there)
    (subst (λ (e : List ℕ). Leaving peer id e now turn.name turn.indexes bytes) issuer_is
    (subst (λ (n : List ℕ). Leaving peer id issuer now n turn.indexes bytes) name_is leaves))
request_page_of setup turn id now place peer goes issuer name (Err e) goes_is issuer_is name_is known there leaves =
    leaves

-- a response to the provider that asked
pub end_page_of : {E : Type 0} (setup : IdpConfig) (message : List ℕ) (asked : Option Asker) (asker : Asker)
    (partial : Bool) (now place : ℕ) (peer : LogoutPeer) (goes id issuer request : List ℕ)
    (given : Option (List ℕ)) (result : Result (List ℕ) E) → asked ≡ Some asker → goes ≡ asker.peer → id ≡ message
    → issuer ≡ setup.entity → request ≡ asker.request → given ≡ asker.relay
    → place_of goes setup.peers ≡ Some place → slice_get setup.peers place ≡ Some peer
    → IfOk result (Ending peer id issuer now request partial given)
    → IfOk result (λ bytes. IsRoundEnd setup message asked partial now bytes)
end_page_of setup message asked asker partial now place peer goes id issuer request given (Ok bytes) is goes_is id_is
    issuer_is request_is relay_is known there ends =
    ToAsker asker peer is (place, subst (λ (e : List ℕ). place_of e setup.peers ≡ Some place) goes_is known, there)
    (subst (λ (i : List ℕ). Ending peer i setup.entity now asker.request partial asker.relay bytes) id_is
    (subst (λ (e : List ℕ). Ending peer id e now asker.request partial asker.relay bytes) issuer_is
    (subst (λ (q : List ℕ). Ending peer id issuer now q partial asker.relay bytes) request_is
    (subst (λ (r : Option (List ℕ)). Ending peer id issuer now request partial r bytes) relay_is ends))))
end_page_of setup message asked asker partial now place peer goes id issuer request given (Err e) is goes_is id_is
    issuer_is request_is relay_is known there ends = ends

-- the answer that begins a round
pub asking_page_of : {E : Type 0} (setup : IdpConfig) (plan : Plan) (r : IdpRecord) (now : ℕ) (turn : Turn)
    (id : List ℕ) (result : Result (List ℕ) E) → HasFirstTurn setup plan r
    → slice_get plan.turns 0 ≡ Some turn → Some id ≡ first_id r
    → IfOk result (λ bytes. IsRequestTo setup turn.peer id turn.name turn.indexes now bytes)
    → IfOk result (λ bytes. IsAskingPage setup r now (Full bytes))
asking_page_of setup plan r now turn id (Ok bytes) has there named asks =
    let id_is : id ≡ has.begun.request = some_same id has.begun.request (named ∙ ap first_id has.is) in
    record {
      begun = has.begun;
      is = has.is;
      bytes = bytes;
      asks = record {
        turn = turn;
        first = subst (λ (ts : List Turn). slice_get ts 0 ≡ Some turn) (sym has.turns_are) there;
        asks = subst (λ (i : List ℕ). IsRequestTo setup turn.peer i turn.name turn.indexes now bytes) id_is asks;
      };
      full = refl;
    }
asking_page_of setup plan r now turn id (Err e) has there named asks = asks

-- and those to a provider that answered
pub next_page_of : {E : Type 0} (setup : IdpConfig) (turn : Turn) (r : IdpRecord) (now : ℕ) (id : List ℕ)
    (result : Result (List ℕ) E) → Some id ≡ first_id r
    → IfOk result (λ bytes. IsRequestTo setup turn.peer id turn.name turn.indexes now bytes)
    → IfOk result (λ bytes. IsNextPage setup turn r now (Full bytes))
next_page_of setup turn r now id (Ok bytes) named asks =
    record { id = id; named = sym named; bytes = bytes; asks = asks; full = refl }
next_page_of setup turn r now id (Err e) named asks = asks

pub last_page_of : {E : Type 0} (setup : IdpConfig) (message : List ℕ) (asker : Option Asker) (partial : Bool) (now : ℕ)
    (result : Result (List ℕ) E)
    → IfOk result (λ bytes. IsRoundEnd setup message asker partial now bytes)
    → IfOk result (λ bytes. IsLastPage setup message asker partial now (Full bytes))
last_page_of setup message asker partial now (Ok bytes) ends = record { bytes = bytes; ends = ends; full = refl }
last_page_of setup message asker partial now (Err e) ends = ends

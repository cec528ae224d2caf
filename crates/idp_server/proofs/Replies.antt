-- What follows where a request asks for a reply.
use Rattle.std.specs.Prelude.{IsSome, is_some, not, slice_get}
use Rattle.std.proofs.Common.{◌≡◌, ℕ, ◌+◌, ◌≤◌, Bool, true, false, if◌then◌else◌, List, [], ◌∷◌, ◌++◌, Option, None, Some, refl, sym, subst, ap, ◌∙◌, arith}
use Rattle.std.specs.List.{AllByRecursion, flat_map, list_all}
use Rattle.std.specs.Option.{is_none, option_map}
use Rattle.owned_values.specs.declared.attributes.Attribute.{Attribute}
use Rattle.xml_spec.specs.Characters.{IsText}
use Rattle.xml_spec.proofs.Tests.{and_true}
use Rattle.assertion_model.specs.Assertion.{IsStatable}
use Rattle.http_wire.specs.declared.answer.Answer.{Answer}
use Rattle.http_wire.specs.declared.answer.Answer.TheVariants.{Fixed, Full}
use Rattle.http_wire.specs.Requests.{Request}
use Rattle.ledger_records.specs.declared.idp_record.Issued.{Issued}
use Rattle.ledger_records.specs.declared.idp_record.IdpRecord.{IdpRecord}
use Rattle.ledger_records.specs.declared.idp_record.IdpRecord.TheVariants as kinds
use Rattle.ledger_rules.specs.Numbers.{is_xml_text}
use Rattle.peer_keys.specs.declared.peers.LogoutPeer.{LogoutPeer}
use Rattle.idp_ledger.specs.declared.ask.Ask.{Ask}
use Rattle.idp_rows.specs.declared.row.PendingRow.{PendingRow}
use Rattle.idp_rows.specs.declared.row.SessionRow.{SessionRow}
use Rattle.idp_rows.specs.RowsOf.{rows_of}
use Rattle.idp_rows.specs.Finding.{is_empty, pending_found}
use Rattle.idp_rows.specs.Record.{LAST, of_attribute}
use Rattle.idp_ledger.specs.Ledger.{Held, next_number}
use Rattle.idp_ledger.specs.Drafts.{IsXmlAsk, confirmed, is_turn_left, issue, login, pending, round, spoke, told}
use Rattle.idp_ledger.specs.Draft.{drawn_cookie, first_id, second_id}
use Rattle.idp_ledger.specs.Laws.{AnswerAlike}
use Rattle.idp_ledger.proofs.Draftable.{text_is_allowed}
use Rattle.idp_rules.specs.Config.{IsTextPeer}
use Rattle.idp_rules.specs.declared.config.IdpConfig.{IdpConfig}
use Rattle.idp_answers.specs.Answers.{IsNoPassiveAnswer}
use Rattle.logout_answers.specs.Answers.{end_answer}
use Rattle.protocol_messages.specs.declared.logout.LogoutRequest.{LogoutRequest}
use Rattle.verdict_codes.specs.Codes.{number_of}
use Rattle.provider_node.proofs.Drafting.{some_is}
use Rattle.idp_server.specs.declared.reply.Reply.{Reply}
use Rattle.idp_server.specs.declared.reply.Reply.TheVariants as replies
use Rattle.idp_server.specs.Replies.{AsksAnew, AsksForAnEnd, AsksInSession, CanBeShown, HasAssertion, HasCookie, HasRefusal, HasRequest, HasResponse, IsIssuable, IsPage, IsTextAsk, IsTold, IsXmlReply, Leaves, LogsIn, Wants, found_record, is_nothing, record_for, refusal_of, turn_of}
use Rattle.idp_server.specs.Rounds.{asks_others, round_waiting}
use Rattle.idp_server.specs.Step.{Answers, ByIssuing, ByPassive, ByAsking, ByLogin, ByLeaving, ByEnding, ByConfirming, ByNothingToEnd, ByUnknownLogout, IsAnswerFor, IsEndingAnswer, IsLeavingAnswer, asker_of, ended_by, ending_by, is_awaited, left_by, session_used}
use Rattle.idp_server.proofs.Alike.{session_alike}
use Rattle.idp_server.proofs.Asking.{asks_still, ending_live, one_live, waiting_still}
use Rattle.idp_server.proofs.Ids.{drawn_line, drawn_named, drawn_text}
use Rattle.idp_server.proofs.Peers.{there_inside}
use Rattle.idp_server.proofs.Sessions.{all_at}
use Rattle.idp_server.proofs.Telling.{asker_xml, asking_answers, asks_all_still, first_turn_of, next_step_of, telling_answers, tells_still, turns_xml}

-- ---- the record

-- what an option holds
the_one : {X : Type 0} (one other : X) (o : Option X) → o ≡ Some one → o ≡ Some other → one ≡ other
the_one one other o a b = let c : Some one ≡ Some other = sym a ∙ b in cc

not_so : (b : Bool) → not b ≡ false → b ≡ true
not_so true is = refl
not_so false is = cc

not_then : (b : Bool) → not b ≡ true → b ≡ false
not_then true is = cc
not_then false is = refl

session_record : (setup : IdpConfig) (held : Held) (request : Request) (now : ℕ) (key cookie : List ℕ) (ask : Ask)
    (peer : ℕ) (r : IdpRecord)
    → (w : AsksInSession setup held request now cookie ask peer)
    → record_for key held now (replies.InSession cookie ask peer) ≡ Some r
    → issue key (next_number held) now w.row ask ≡ r
session_record setup held request now key cookie ask peer r w is =
    the_one (issue key (next_number held) now w.row ask) r _
    (ap (option_map (λ (row : SessionRow). issue key (next_number held) now row ask)) w.found) is

login_record : (setup : IdpConfig) (held : Held) (request : Request) (now : ℕ) (key id user : List ℕ)
    (attributes : List Attribute) (peer : ℕ) (r : IdpRecord)
    → (w : LogsIn setup held request now id user attributes peer)
    → record_for key held now (replies.Login id user attributes peer) ≡ Some r
    → login key (next_number held) now w.row user attributes ≡ r
login_record setup held request now key id user attributes peer r w is =
    the_one (login key (next_number held) now w.row user attributes) r _
    (ap (option_map (λ (row : PendingRow). login key (next_number held) now row user attributes)) w.found) is

left_record : (setup : IdpConfig) (held : Held) (request : Request) (now : ℕ) (key cookie user index : List ℕ)
    (r : IdpRecord) → (w : Leaves setup held request now cookie user index)
    → record_for key held now (replies.Leave cookie user index) ≡ Some r → left_by key held now cookie ≡ r
left_record setup held request now key cookie user index r w is =
    the_one (left_by key held now cookie) r _ (ap (option_map (λ (row : SessionRow). left_by key held now cookie))
    w.found) is

ended_record : (held : Held) (now : ℕ) (key : List ℕ) (asked : LogoutRequest) (peer : ℕ) (name : List ℕ)
    (relay : Option (List ℕ)) (r : IdpRecord)
    → record_for key held now (replies.End asked peer name relay) ≡ Some r
    → (is_empty (ending_by held now name asked) ≡ false) × (ended_by key held now name asked ≡ r)
ended_record held now key asked peer name relay r is =
    some_is (is_empty (ending_by held now name asked)) (ended_by key held now name asked) r is

confirmed_record : (held : Held) (now : ℕ) (key of : List ℕ) (partial : Bool) (r : IdpRecord)
    → record_for key held now (replies.Confirm of partial) ≡ Some r
    → (is_awaited held now of ≡ true) × (confirmed now of ≡ r)
confirmed_record held now key of partial r is =
    let own = some_is (not (is_awaited held now of)) (confirmed now of) r is in
    (not_so (is_awaited held now of) own.0, own.1)

-- ---- its texts

are_allowed : (texts : List (List ℕ)) → AllByRecursion IsText texts → list_all is_xml_text texts ≡ true
are_allowed [] all = refl
are_allowed (text ∷ texts) all =
    and_true (is_xml_text text) (list_all is_xml_text texts) (text_is_allowed text all.0) (are_allowed texts all.1)

all_both : (one other : List (List ℕ)) → AllByRecursion IsText one → AllByRecursion IsText other
    → AllByRecursion IsText (one ++ other)
all_both [] other a b = b
all_both (text ∷ one) other a b = (a.0, all_both one other a.1 b)

of_attributes : (attributes : List Attribute) → AllByRecursion IsStatable attributes
    → AllByRecursion IsText (flat_map of_attribute attributes)
of_attributes [] all = tt
of_attributes (a ∷ attributes) all =
    all_both (of_attribute a) (flat_map of_attribute attributes) (all.0.name, all.0.values)
    (of_attributes attributes all.1)

ask_allowed : (ask : Ask) → IsTextAsk ask → IsXmlAsk ask
ask_allowed ask texts =
    are_allowed (ask.request ∷ ask.peer ∷ ask.consumer ∷ []) (texts.request, (texts.peer, (texts.consumer, tt)))

pub reply_allowed : (setup : IdpConfig) (held : Held) (request : Request) (now : ℕ) (reply : Reply)
    → Wants setup held request now reply → IsXmlReply reply
reply_allowed setup held request now (replies.InSession cookie ask peer) w = ask_allowed ask w.asks.texts
reply_allowed setup held request now (replies.Passive ask) w = ask_allowed ask w.asks.texts
reply_allowed setup held request now (replies.Question ask) w = ask_allowed ask w.asks.texts
reply_allowed setup held request now (replies.Login id user attributes peer) w = (
  text_is_allowed user w.user_text,
  are_allowed (flat_map of_attribute attributes)
      (of_attributes attributes w.stated),
)
reply_allowed setup held request now (replies.Leave cookie user index) w = tt
reply_allowed setup held request now (replies.End asked peer name relay) w =
    let who = all_at IsTextPeer setup.peers peer w.peer w.peers w.there in
    (text_is_allowed asked.id w.id_text, text_is_allowed name (subst IsText (sym w.name_is) who.entity))
reply_allowed setup held request now (replies.Confirm of partial) w = tt
reply_allowed setup held request now (replies.AskAll cookies asker plan) w =
    (asker_xml asker w.asker_text, turns_xml plan.turns w.turn_texts)
reply_allowed setup held request now (replies.Told of peer confirms next) w = tt

-- ---- it can be shown

-- an issued record that can be shown, with the written forms of its moments
pub record CanBeIssued (r : IdpRecord) : Type 0 where
  pub issued : Issued
  pub is : r ≡ kinds.Issued issued
  pub issuable : IsIssuable issued
  pub made : IsTold issued.moment
  pub until : IsTold issued.until
  pub ends : IsTold issued.session_end

pub issued_in_session : (setup : IdpConfig) (held : Held) (request : Request) (now : ℕ) (key cookie : List ℕ)
    (ask : Ask) (peer : ℕ) (r : IdpRecord) → now ≤ LAST
    → AsksInSession setup held request now cookie ask peer
    → record_for key held now (replies.InSession cookie ask peer) ≡ Some r → CanBeIssued r
issued_in_session setup held request now key cookie ask peer r moment w is =
    let n = next_number held in
    subst CanBeIssued (session_record setup held request now key cookie ask peer r w is) (record {
      issued = _;
      is = refl;
      issuable = record {
        states = record {
          assertion = drawn_text key _ n;
          named = drawn_named key _ n;
          index = w.texts.index;
          user = w.texts.user;
          attributes = w.texts.attributes;
          peer = w.asks.texts.peer;
          consumer = w.asks.texts.consumer;
          request = w.asks.texts.request;
          moment = moment;
          until = omega arith;
          session_end = w.texts.until;
        };
        message = drawn_text key _ (n + 1);
        message_named = drawn_named key _ (n + 1);
      };
      made = w.told.issued;
      until = w.told.until;
      ends = w.told.ends;
    })

pub issued_at_login : (setup : IdpConfig) (held : Held) (request : Request) (now : ℕ) (key id user : List ℕ)
    (attributes : List Attribute) (peer : ℕ) (r : IdpRecord) → now ≤ LAST
    → LogsIn setup held request now id user attributes peer
    → record_for key held now (replies.Login id user attributes peer) ≡ Some r → CanBeIssued r × HasCookie r
issued_at_login setup held request now key id user attributes peer r moment w is =
    let n = next_number held in
    subst (λ (x : IdpRecord). CanBeIssued x × HasCookie x)
    (login_record setup held request now key id user attributes peer r w is) (
      record {
        issued = _;
        is = refl;
        issuable = record {
          states = record {
            assertion = drawn_text key _ n;
            named = drawn_named key _ n;
            index = drawn_text key _ (n + 3);
            user = w.user_text;
            attributes = w.stated;
            peer = w.texts.peer;
            consumer = w.texts.consumer;
            request = w.texts.request;
            moment = moment;
            until = omega arith;
            session_end = omega arith;
          };
          message = drawn_text key _ (n + 1);
          message_named = drawn_named key _ (n + 1);
        };
        made = w.told.issued;
        until = w.told.until;
        ends = w.told.ends;
      },
      record { cookie = _; named = refl; line = drawn_line key _ (n + 2) },
    )

shown_with : (setup : IdpConfig) (place : ℕ) (peer : LogoutPeer) (r : IdpRecord)
    → slice_get setup.peers place ≡ Some peer → CanBeIssued r → HasAssertion setup place r
shown_with setup place peer r there can =
    record {
      issued = can.issued;
      is = can.is;
      issuable = can.issuable;
      known =
          there_inside setup.peers place peer there;
    }

-- the peer of a reply
pub placed_peer : (setup : IdpConfig) (held : Held) (request : Request) (now : ℕ) (cookie : List ℕ) (ask : Ask)
    (peer : ℕ) → (w : AsksInSession setup held request now cookie ask peer)
    → slice_get setup.peers peer ≡ Some w.peer
placed_peer setup held request now cookie ask peer w =
    subst (λ (place : ℕ). slice_get setup.peers place ≡ Some w.peer) (sym w.placed) w.asks.is.known

pub has_refusal : (setup : IdpConfig) (held : Held) (request : Request) (now : ℕ) (key : List ℕ) (ask : Ask)
    (r : IdpRecord) → AsksAnew true setup held request now ask
    → record_for key held now (replies.Passive ask) ≡ Some r → HasRefusal ask r
has_refusal setup held request now key ask r w is =
    subst (HasRefusal ask) (the_one (spoke key (next_number held) now ask) r
    (record_for key held now (replies.Passive ask)) refl is) (record {
      message = _;
      named = refl;
      text = drawn_text key _ (next_number held);
      request = w.asks.texts.request;
      consumer = w.asks.texts.consumer;
    })

pub request_of : (setup : IdpConfig) (held : Held) (request : Request) (now : ℕ) (key cookie user index : List ℕ)
    (r : IdpRecord) → Leaves setup held request now cookie user index
    → record_for key held now (replies.Leave cookie user index) ≡ Some r → HasRequest setup user index r
request_of setup held request now key cookie user index r w is =
    subst (HasRequest setup user index) (left_record setup held request now key cookie user index r w is) (record {
      left = _;
      is = refl;
      request = drawn_text key _ (next_number held);
      named = drawn_named key _ (next_number held);
      user_text = w.user_text;
      index_text = w.index_text;
      peers = w.peers;
    })

pub response_of : (setup : IdpConfig) (held : Held) (request : Request) (now : ℕ) (key : List ℕ) (asked : LogoutRequest)
    (peer : ℕ) (name : List ℕ) (relay : Option (List ℕ)) (r : IdpRecord)
    → AsksForAnEnd setup held request now asked peer name relay
    → record_for key held now (replies.End asked peer name relay) ≡ Some r → HasResponse setup asked peer r
response_of setup held request now key asked peer name relay r w is =
    subst (HasResponse setup asked peer) (ended_record held now key asked peer name relay r is).1 (record {
      ended = _;
      is = refl;
      message = drawn_text key _ (next_number held);
      named = drawn_named key _ (next_number held);
      same = refl;
      request = w.id_text;
      known = there_inside setup.peers peer w.peer w.there;
      peers = w.peers;
    })

pub shown_of : (setup : IdpConfig) (held : Held) (request : Request) (now : ℕ) (key : List ℕ) (reply : Reply)
    (r : IdpRecord) → now ≤ LAST → Wants setup held request now reply
    → record_for key held now reply ≡ Some r → CanBeShown setup reply r
shown_of setup held request now key (replies.InSession cookie ask peer) r moment w is =
    shown_with setup peer w.peer r (placed_peer setup held request now cookie ask peer w)
    (issued_in_session setup held request now key cookie ask peer r moment w is)
shown_of setup held request now key (replies.Passive ask) r moment w is =
    has_refusal setup held request now key ask r w is
shown_of setup held request now key (replies.Question ask) r moment w is =
    subst (λ (x : IdpRecord). IsSome (first_id x)) (the_one (pending key (next_number held) now ask) r
    (record_for key held now (replies.Question ask)) refl is) refl
shown_of setup held request now key (replies.Login id user attributes peer) r moment w is =
    let can = issued_at_login setup held request now key id user attributes peer r moment w is in
    (shown_with setup peer w.peer r w.there can.0, can.1)
shown_of setup held request now key (replies.Leave cookie user index) r moment w is =
    request_of setup held request now key cookie user index r w is
shown_of setup held request now key (replies.End asked peer name relay) r moment w is =
    response_of setup held request now key asked peer name relay r w is
shown_of setup held request now key (replies.Confirm of partial) r moment w is = tt
shown_of setup held request now key (replies.AskAll cookies asker plan) r moment w is =
    first_turn_of setup held request now key cookies asker plan r w is
shown_of setup held request now key (replies.Told of peer confirms next) r moment w is =
    next_step_of setup held request now key of peer confirms next r w is

-- ---- the page stands for it

-- two peers at one place are one
same_peer : (peers : List LogoutPeer) (place : ℕ) (one other : LogoutPeer) → slice_get peers place ≡ Some one
    → slice_get peers place ≡ Some other → one ≡ other
same_peer peers place one other a b = the_one one other (slice_get peers place) a b

-- the cookie that a record draws is its cookie
cookie_drawn : (pending : Option (List ℕ)) (cookie one : List ℕ) → drawn_cookie pending cookie ≡ Some one
    → Some one ≡ Some cookie
cookie_drawn None cookie one is = absurd (cc)
cookie_drawn (Some pending) cookie one is = sym is

pub page_answers : (setup : IdpConfig) (held : Held) (request : Request) (now : ℕ) (reply : Reply) (r : IdpRecord)
    (answer : Answer) → Wants setup held request now reply
    → record_for setup.id_key held now reply ≡ Some r → IsPage setup reply r now answer
    → Answers setup held request now answer (Some r)
page_answers setup held request now (replies.InSession cookie ask peer) r answer w is page =
    let same = session_record setup held request now setup.id_key cookie ask peer r w is in
    let who =
    same_peer setup.peers peer page.peer w.peer page.there (placed_peer setup held request now cookie ask peer w) in
    ByIssuing w.asked w.peer w.row page.issued page.bytes w.asks.is w.used
    (ap (λ (a : Ask). issue setup.id_key (next_number held) now w.row a) (sym w.asks.says) ∙ same ∙ page.is)
    (ap Some page.is)
    (subst (λ (p : LogoutPeer). IsAnswerFor setup p page.issued None now page.bytes) who page.answers) page.full
page_answers setup held request now (replies.Passive ask) r answer w is page =
    let same =
    the_one (spoke setup.id_key (next_number held) now ask) r (record_for setup.id_key held now (replies.Passive ask))
    refl is in
    let spoken = ap (λ (a : Ask). spoke setup.id_key (next_number held) now a) w.asks.says in
    ByPassive w.asked w.peer page.message page.bytes w.asks.is w.none w.passive_is
    (ap Some (sym same ∙ spoken))
    (ap first_id (sym spoken ∙ same) ∙ page.named)
    (subst (λ (a : Ask). IsNoPassiveAnswer setup.entity page.message a.request a.consumer a.relay now page.bytes)
    w.asks.says page.answers) page.full
page_answers setup held request now (replies.Question ask) r answer w is page =
    let same =
    the_one (pending setup.id_key (next_number held) now ask) r
    (record_for setup.id_key held now (replies.Question ask)) refl is in
    let asked = ap (λ (a : Ask). pending setup.id_key (next_number held) now a) w.asks.says in
    ByAsking w.asked w.peer page.id w.asks.is w.none w.passive_is (ap Some (sym same ∙ asked))
    (ap first_id (sym asked ∙ same) ∙ page.named) page.full
page_answers setup held request now (replies.Login id user attributes peer) r answer w is page =
    let same = login_record setup held request now setup.id_key id user attributes peer r w is in
    let who = same_peer setup.peers peer page.page.peer w.peer page.page.there w.there in
    let named = ap (λ (u : List ℕ). login setup.id_key (next_number held) now w.row u attributes) (sym w.user_is) in
    let stated =
    ap (λ (given : List Attribute). login setup.id_key (next_number held) now w.row w.who.name given)
    (sym w.attributes_are) in
    let drawn =
    cookie_drawn page.page.issued.pending page.page.issued.cookie page.cookie
    (sym (ap second_id page.page.is) ∙ page.draws) in
    ByLogin w.fields w.row w.peer w.who page.page.issued page.page.bytes w.to w.posted (
      subst (λ (i : List ℕ). pending_found (rows_of held.records).pendings i now held.header.horizon ≡ Some w.row) w.same
          w.found,
      (peer, w.known, w.there),
    )
    w.checks (stated ∙ named ∙ same ∙ page.page.is) (ap Some page.page.is)
    (subst (λ (c : Option (List ℕ)). IsAnswerFor setup w.peer page.page.issued c now page.page.bytes) drawn
    (subst (λ (p : LogoutPeer). IsAnswerFor setup p page.page.issued (Some page.cookie) now page.page.bytes) who
    page.page.answers)) page.page.full
page_answers setup held request now (replies.Leave cookie user index) r answer w is page =
    let same = left_record setup held request now setup.id_key cookie user index r w is in
    ByLeaving w.row page.left page.bytes w.to w.live (subst
    (λ (c : List ℕ). asks_others setup held None (c ∷ []) ≡ false) w.cookie_is w.alone)
    (ap (left_by setup.id_key held now) (sym w.cookie_is) ∙ same ∙ page.is) (ap Some page.is)
    (subst (λ (u : List ℕ). IsLeavingAnswer setup page.left u w.row.index now page.bytes) w.user_is
    (subst (λ (i : List ℕ). IsLeavingAnswer setup page.left user i now page.bytes) w.index_is page.answers)) page.full
page_answers setup held request now (replies.End asked peer name relay) r answer w is page =
    let own = ended_record held now setup.id_key asked peer name relay r is in
    let who = same_peer setup.peers peer page.peer w.peer page.there w.there in
    ByEnding asked w.peer relay page.ended page.bytes w.to (record { place = peer; there = w.there; obeyed = w.obeyed })
    (subst (λ (n : List ℕ). is_empty (ending_by held now n asked) ≡ false) w.name_is own.0)
    (subst (λ (n : List ℕ). asks_others setup held (Some (asker_of w.peer asked relay))
    (ending_by held now n asked) ≡ false) w.name_is w.alone)
    (ap (λ (n : List ℕ). ended_by setup.id_key held now n asked) (sym w.name_is) ∙ own.1 ∙ page.is) (ap Some page.is)
    (subst (λ (p : LogoutPeer). IsEndingAnswer setup p page.ended relay now page.bytes) who page.answers) page.full
page_answers setup held request now (replies.Confirm of partial) r answer w is page =
    let own = confirmed_record held now setup.id_key of partial r is in
    ByConfirming w.response w.peer w.to w.replies (subst
    (λ (q : List ℕ). round_waiting setup held now q w.peer.peer.entity ≡ None) w.of_is w.none)
    (subst (λ (q : List ℕ). is_awaited held now q ≡ true) w.of_is own.0)
    (ap Some (sym own.1 ∙ ap (confirmed now) w.of_is)) (page ∙ ap (λ (b : Bool). Full (end_answer b)) w.partial_is)
page_answers setup held request now (replies.AskAll cookies asker plan) r answer w is page =
    asking_answers setup held request now cookies asker plan r answer w is page
page_answers setup held request now (replies.Told of peer confirms next) r answer w is page =
    telling_answers setup held request now of peer confirms next r answer w is page

-- ---- behind a compaction it is asked for as before

pub wants_still : (setup : IdpConfig) (anew old : Held) (request : Request) (now : ℕ) (reply : Reply)
    → AnswerAlike now anew old → Wants setup old request now reply
    → Wants setup anew request now reply
wants_still setup anew old request now (replies.InSession cookie ask peer) like w = record {
  asked = w.asked;
  peer = w.peer;
  asks = w.asks;
  placed = w.placed;
  row = w.row;
  used = ap (session_used w.asked) (session_alike now anew old request like) ∙ w.used;
  found = like.session cookie ∙ w.found;
  texts = w.texts;
  told = w.told;
}
wants_still setup anew old request now (replies.Passive ask) like w = record {
  asked = w.asked;
  peer = w.peer;
  asks = w.asks;
  none = ap (session_used w.asked) (session_alike now anew old request like) ∙ w.none;
  passive_is = w.passive_is;
  told = w.told;
}
wants_still setup anew old request now (replies.Question ask) like w = record {
  asked = w.asked;
  peer = w.peer;
  asks = w.asks;
  none = ap (session_used w.asked) (session_alike now anew old request like) ∙ w.none;
  passive_is = w.passive_is;
  told = w.told;
}
wants_still setup anew old request now (replies.Login id user attributes peer) like w = record {
  to = w.to;
  fields = w.fields;
  posted = w.posted;
  same = w.same;
  row = w.row;
  found = like.pending id ∙ w.found;
  peer = w.peer;
  known = w.known;
  there = w.there;
  who = w.who;
  checks = w.checks;
  user_is = w.user_is;
  attributes_are = w.attributes_are;
  texts = w.texts;
  user_text = w.user_text;
  stated = w.stated;
  told = w.told;
}
wants_still setup anew old request now (replies.Leave cookie user index) like w = record {
  to = w.to;
  row = w.row;
  live = session_alike now anew old request like ∙ w.live;
  found = like.session cookie ∙ w.found;
  cookie_is = w.cookie_is;
  alone = asks_still setup now anew old None (cookie ∷ []) like (one_live old now cookie w.row w.found) ∙ w.alone;
  user_is = w.user_is;
  index_is = w.index_is;
  user_text = w.user_text;
  index_text = w.index_text;
  peers = w.peers;
  told = w.told;
}
wants_still setup anew old request now (replies.End asked peer name relay) like w = record {
  to = w.to;
  obeyed = w.obeyed;
  peer = w.peer;
  there = w.there;
  name_is = w.name_is;
  alone = ap (λ (cs : List (List ℕ)). asks_others setup anew (Some (asker_of w.peer asked relay)) cs)
      (like.ending name asked.name asked.indexes)
      ∙ asks_still setup now anew old (Some (asker_of w.peer asked relay)) (ending_by old now name asked) like
      (ending_live old now name asked) ∙ w.alone;
  id_text = w.id_text;
  peers = w.peers;
  told = w.told;
}
wants_still setup anew old request now (replies.Confirm of partial) like w = record {
  to = w.to;
  response = w.response;
  peer = w.peer;
  replies = w.replies;
  of_is = w.of_is;
  none = waiting_still setup now anew old of w.peer.peer.entity like ∙ w.none;
  partial_is = w.partial_is;
}
wants_still setup anew old request now (replies.AskAll cookies asker plan) like w =
    asks_all_still setup anew old request now cookies asker plan like w
wants_still setup anew old request now (replies.Told of peer confirms next) like w =
    tells_still setup anew old request now of peer confirms next like w

-- ---- in the words of a step

-- a record is found for each reply that is wanted
pub found_record_of : (setup : IdpConfig) (held : Held) (request : Request) (now : ℕ) (key : List ℕ) (reply : Reply)
    → Wants setup held request now reply
    → (r : IdpRecord) × (found_record key held now reply ≡ Some r)
found_record_of setup held request now key (replies.InSession cookie ask peer) w = (
  issue key (next_number held) now w.row ask,
  ap (option_map
      (λ (row : SessionRow). issue key (next_number held) now row ask)) w.found,
)
found_record_of setup held request now key (replies.Passive ask) w = (spoke key (next_number held) now ask, refl)
found_record_of setup held request now key (replies.Question ask) w = (pending key (next_number held) now ask, refl)
found_record_of setup held request now key (replies.Login id user attributes peer) w = (
  login key (next_number held) now w.row user attributes,
  ap (option_map (λ (row : PendingRow). login key (next_number held) now row user attributes)) w.found,
)
found_record_of setup held request now key (replies.Leave cookie user index) w =
    (left_by key held now cookie, ap (option_map (λ (row : SessionRow). left_by key held now cookie)) w.found)
found_record_of setup held request now key (replies.End asked peer name relay) w =
    (ended_by key held now name asked, refl)
found_record_of setup held request now key (replies.Confirm of partial) w = (confirmed now of, refl)
found_record_of setup held request now key (replies.AskAll cookies asker plan) w =
    (round key (next_number held) now cookies asker plan.turns plan.skipped, refl)
found_record_of setup held request now key (replies.Told of peer confirms next) w =
    (told key (next_number held) now of confirms (is_turn_left (turn_of held now of peer)), refl)

pub record_found : (setup : IdpConfig) (held : Held) (request : Request) (now : ℕ) (key : List ℕ) (reply : Reply)
    → Wants setup held request now reply
    → IsSome (found_record key held now reply)
record_found setup held request now key reply w =
    subst (λ (o : Option IdpRecord). IsSome o) (sym (found_record_of setup held request now key reply w).1) refl

-- where there is nothing to record
pub nothing_where : (nothing : Bool) (found : Option IdpRecord) (own : IdpRecord) → found ≡ Some own
    → (if nothing then None else found) ≡ None → nothing ≡ true
nothing_where true found own some none = refl
nothing_where false found own some none = let clash = sym some ∙ none in cc

pub refused_at : (setup : IdpConfig) (held : Held) (request : Request) (now : ℕ) (reply : Reply)
    → Wants setup held request now reply → is_nothing held now reply ≡ true
    → Answers setup held request now (Fixed (number_of (refusal_of reply))) None
refused_at setup held request now (replies.End asked peer name relay) w none =
    ByNothingToEnd asked w.peer relay w.to (record { place = peer; there = w.there; obeyed = w.obeyed })
    (subst (λ (n : List ℕ). is_empty (ending_by held now n asked) ≡ true) w.name_is none) refl refl
refused_at setup held request now (replies.Confirm of partial) w none =
    ByUnknownLogout w.response w.peer w.to w.replies (subst
    (λ (q : List ℕ). round_waiting setup held now q w.peer.peer.entity ≡ None) w.of_is w.none)
    (subst (λ (q : List ℕ). is_awaited held now q ≡ false) w.of_is (not_then (is_awaited held now of) none)) refl refl
refused_at setup held request now (replies.Told of peer confirms next) w none =
    absurd (let clash : false ≡ true = sym (ap is_none w.waits) ∙ none in cc)
refused_at setup held request now other w none = absurd (let clash : false ≡ true = none in cc)

pub nothing_alike : (anew old : Held) (now : ℕ) (reply : Reply) → AnswerAlike now anew old
    → is_nothing anew now reply ≡ is_nothing old now reply
nothing_alike anew old now (replies.End asked peer name relay) like =
    ap is_empty (like.ending name asked.name asked.indexes)
nothing_alike anew old now (replies.Confirm of partial) like = ap not (like.waiting of)
nothing_alike anew old now (replies.Told of peer confirms next) like = ap is_none (like.turn of peer)
nothing_alike anew old now other like = refl

pub is_some_where : (nothing : Bool) (found : Option IdpRecord) (own : IdpRecord) → found ≡ Some own
    → is_some (if nothing then None else found) ≡ not nothing
is_some_where true found own is = refl
is_some_where false found own is = ap is_some is

-- What follows where a request asks for a reply.
use Rattle.std.specs.Prelude.{IsSome, slice_get}
use Rattle.std.proofs.Common.{◌≡◌, ◌≢◌, ℕ, zero, suc, ◌+◌, ◌≤◌, ◌<◌, true, List, [], ◌∷◌, length, Option, None, Some, refl, sym, subst, ap, ◌∙◌, arith}
use Rattle.std.specs.List.{list_all}
use Rattle.std.specs.Option.{option_map}
use Rattle.xml_spec.specs.Characters.{IsText}
use Rattle.xml_spec.proofs.Tests.{and_true}
use Rattle.http_wire.specs.Answers.{answer}
use Rattle.http_wire.specs.declared.answer.Answer.TheVariants.{Full}
use Rattle.http_wire.specs.Requests.{Request}
use Rattle.saml_ids.specs.IdText.{id_text}
use Rattle.saml_ids.specs.Names.{IsIdForm}
use Rattle.saml_ids.specs.declared.Kind.{Kind}
use Rattle.saml_ids.proofs.IdForm.{every_id_is_a_name}
use Rattle.ledger_records.specs.declared.hub_record.HubRecord.{HubRecord}
use Rattle.ledger_rules.specs.Numbers.{is_xml_text}
use Rattle.record_ledger.proofs.Draftable.{text_is_allowed}
use Rattle.request_rows.specs.declared.row.NewSession.{NewSession}
use Rattle.peer_keys.specs.Peers.{place_of}
use Rattle.hub_ledger.specs.declared.row.BelowRow.{BelowRow}
use Rattle.hub_ledger.specs.Draft.{first_id}
use Rattle.hub_ledger.specs.Drafts.{IsXmlBelow, backed, passed_with, routed, spoke}
use Rattle.hub_ledger.specs.Ids.{login_ids}
use Rattle.hub_ledger.specs.Finding.{routed_row}
use Rattle.hub_ledger.specs.Laws.{AnswerAlike}
use Rattle.hub_ledger.specs.Ledger.{Held, next_number}
use Rattle.hub_ledger.specs.Record.{LAST}
use Rattle.hub_ledger.specs.RowsOf.{Route, rows_of}
use Rattle.sp_rules.specs.declared.accepted.Accepted.{Accepted}
use Rattle.sp_answers.specs.Answers.{ask_page}
use Rattle.sp_answers.specs.Judging.{LikeRowsOpenAlike}
use Rattle.idp_answers.specs.Answers.{IsNoPassiveAnswer}
use Rattle.idp_answers.specs.Stating.{CanBeStated, EachLoginHasAnAnswer, EachRefusalHasAnAnswer}
use Rattle.identity_hub.specs.declared.config.HubConfig.{HubConfig}
use Rattle.identity_hub.specs.declared.reply.Reply.{Reply}
use Rattle.identity_hub.specs.declared.reply.Reply.TheVariants as replies
use Rattle.identity_hub.specs.Logins.{stated_by}
use Rattle.identity_hub.specs.Replies.{CanBeShown, CanDraft, IsPage, IsTextBelow, PassesOn, Wants, record_for}
use Rattle.identity_hub.specs.Step.{Answers, ByAsking, ByPassing, BySpeaking, below_of, routed_for, spoken_for}
use Rattle.identity_hub.proofs.Alike.{opening_alike}

-- ---- the record

-- what an option holds
the_one : {X : Type 0} (one other : X) → Some one ≡ Some other → one ≡ other
the_one one other is = cc

pub record_there : (setup : HubConfig) (held : Held) (request : Request) (now : ℕ) (key : List ℕ) (reply : Reply)
    → Wants setup held request now reply → (r : HubRecord) × (record_for key held now reply ≡ Some r)
record_there setup held request now key (replies.Speak below) w = (spoke key (next_number held) now below, refl)
record_there setup held request now key (replies.Ask below) w = (routed key (next_number held) now below, refl)
record_there setup held request now key (replies.Pass accepted peer) w = (
  backed key (next_number held) now w.row.below accepted.session,
  ap (option_map (λ (row : Route). backed key (next_number held) now row.below accepted.session)) w.is_for.found,
)

-- the record of a login that is passed on
passed_record : (setup : HubConfig) (held : Held) (request : Request) (now : ℕ) (key : List ℕ) (accepted : Accepted)
    (peer : ℕ) (r : HubRecord) → (w : PassesOn setup held request now accepted peer)
    → record_for key held now (replies.Pass accepted peer) ≡ Some r
    → backed key (next_number held) now w.row.below accepted.session ≡ r
unfolding record_there
passed_record setup held request now key accepted peer r w is =
    the_one (backed key (next_number held) now w.row.below accepted.session) r
    (sym (record_there setup held request now key (replies.Pass accepted peer) w).1 ∙ is)

-- ---- it can be drafted

below_allowed : (below : BelowRow) → IsTextBelow below → IsXmlBelow below
below_allowed below texts =
    and_true (is_xml_text below.peer) (list_all is_xml_text (below.consumer ∷ below.request ∷ []))
    (text_is_allowed below.peer texts.peer)
    (and_true (is_xml_text below.consumer) (list_all is_xml_text (below.request ∷ []))
    (text_is_allowed below.consumer texts.consumer)
    (and_true (is_xml_text below.request) true (text_is_allowed below.request texts.request) refl))

pub can_draft : (setup : HubConfig) (held : Held) (request : Request) (now : ℕ) (reply : Reply)
    → Wants setup held request now reply → CanDraft held now reply
can_draft setup held request now (replies.Speak below) w = below_allowed below w.texts
can_draft setup held request now (replies.Ask below) w = below_allowed below w.texts
can_draft setup held request now (replies.Pass accepted peer) w = record {
  texts = w.recordable.texts;
  key = w.recordable.key;
  routed = subst (λ (o : Option Route). IsSome o) (sym w.is_for.found) refl;
}

-- ---- it can be shown

id_named : (id : List ℕ) → IsIdForm id → id ≢ []
id_named id form none = subst IsIdForm none form

drawn_named : (key : List ℕ) (kind : Kind) (n : ℕ) → id_text key kind n ≢ []
drawn_named key kind n = id_named (id_text key kind n) (every_id_is_a_name key kind n).form

drawn_text : (key : List ℕ) (kind : Kind) (n : ℕ) → IsText (id_text key kind n)
drawn_text key kind n = (every_id_is_a_name key kind n).text

there_inside : {X : Type 0} (xs : List X) (i : ℕ) (x : X) → slice_get xs i ≡ Some x → i < length xs
there_inside [] i x is = absurd (cc)
there_inside (y ∷ xs) zero x is = omega arith
there_inside (y ∷ xs) (suc i) x is = omega (arith, there_inside xs i x is)

-- what is stated by the record of a login that is passed on
passed_stated : (setup : HubConfig) (held : Held) (request : Request) (now : ℕ) (key : List ℕ) (accepted : Accepted)
    (peer : ℕ) → now ≤ LAST → (w : PassesOn setup held request now accepted peer)
    → CanBeStated (stated_by (passed_with (next_number held) now (login_ids key (next_number held)) w.row.below
    accepted.session))
passed_stated setup held request now key accepted peer moment w =
    let n = next_number held in
    record {
      assertion = drawn_text key _ n;
      named = drawn_named key _ n;
      index = drawn_text key _ (n + 2);
      user = w.recordable.name;
      attributes = w.recordable.attributes;
      peer = w.texts.peer;
      consumer = w.texts.consumer;
      request = w.texts.request;
      moment = moment;
      until = omega arith;
      session_end = omega arith;
    }

shown_own : (setup : HubConfig) (held : Held) (request : Request) (now : ℕ) (key : List ℕ) (reply : Reply) → now ≤ LAST
    → (w : Wants setup held request now reply) → CanBeShown setup reply
    (record_there setup held request now key reply w).0
unfolding record_there
shown_own setup held request now key (replies.Speak below) moment w = record {
  message = _;
  named = refl;
  text = drawn_text key _ (next_number held);
  request = w.texts.request;
  consumer = w.texts.consumer;
}
shown_own setup held request now key (replies.Ask below) moment w = record {
  routed = _;
  is = refl;
  request = drawn_text key _ (next_number held);
  named = drawn_named key _ (next_number held);
}
shown_own setup held request now key (replies.Pass accepted peer) moment w = record {
  backed = _;
  is = refl;
  states = passed_stated setup held request now key accepted peer moment w;
  message = drawn_text key _ (next_number held + 1);
  message_named = drawn_named key _ (next_number held + 1);
  known =
      subst (λ (place : ℕ). place < length setup.peers) w.placed
      (there_inside setup.peers w.is_for.place w.peer w.is_for.there);
}

pub shown_of : (setup : HubConfig) (held : Held) (request : Request) (now : ℕ) (key : List ℕ) (reply : Reply)
    (r : HubRecord) → now ≤ LAST → Wants setup held request now reply → record_for key held now reply ≡ Some r
    → CanBeShown setup reply r
shown_of setup held request now key reply r moment w is =
    let own = record_there setup held request now key reply w in
    subst (CanBeShown setup reply) (the_one own.0 r (sym own.1 ∙ is))
    (shown_own setup held request now key reply moment w)

-- ---- its page is the answer

pub page_answers : (setup : HubConfig) (held : Held) (request : Request) (now : ℕ) (reply : Reply) (r : HubRecord)
    (bytes : List ℕ) → Wants setup held request now reply
    → record_for setup.upstream.id_key held now reply ≡ Some r → IsPage setup reply r now bytes
    → Answers setup held request now (Full bytes) (Some r)
page_answers setup held request now (replies.Speak below) r bytes w is page =
    let own : spoken_for setup held now (below_of w.asked w.peer) ≡ r =
    ap (spoken_for setup held now) (sym w.says) ∙ the_one (spoken_for setup held now below) r is in
    BySpeaking w.asked w.peer page.message bytes w.asks w.passive_is (ap Some (sym own)) (ap first_id own ∙ page.named)
    (subst (λ (b : BelowRow). IsNoPassiveAnswer setup.upstream.entity page.message b.request b.consumer b.relay now
    bytes)
    w.says page.answers) refl
page_answers setup held request now (replies.Ask below) r bytes w is page =
    let own : routed_for setup held now (below_of w.asked w.peer) ≡ r =
    ap (routed_for setup held now) (sym w.says) ∙ the_one (routed_for setup held now below) r is in
    ByAsking w.asked w.peer page.routed bytes w.asks w.passive_is (own ∙ page.is) (ap Some page.is) page.asks refl
page_answers setup held request now (replies.Pass accepted place) r bytes w is page =
    let opening = w.opens in
    let key = setup.upstream.id_key in
    let own = passed_record setup held request now key accepted place r w is in
    let session = opening.is.session in
    ByPassing opening.brought opening.asked w.row page.peer page.backed bytes
    (record { to = w.to; opens = opening.opens })
    (record {
      found =
          subst (λ (s : NewSession). routed_row (rows_of held.records) s.request now held.header.horizon ≡ Some w.row)
          session w.is_for.found;
      place = place;
      known = subst (λ (p : ℕ). place_of w.row.below.peer setup.peers ≡ Some p) w.placed w.is_for.known;
      there = page.there;
    })
    (ap (backed key (next_number held) now w.row.below) (sym session) ∙ own ∙ page.is) (ap Some page.is) page.answers
    refl

-- ---- there is one

pub some_page : EachLoginHasAnAnswer → EachRefusalHasAnAnswer
    → (setup : HubConfig) (held : Held) (request : Request) (now : ℕ) (key : List ℕ) (reply : Reply)
    → IsText setup.upstream.entity → now ≤ LAST → (w : Wants setup held request now reply)
    → (bytes : List ℕ) × IsPage setup reply (record_there setup held request now key reply w).0 now bytes
unfolding record_there shown_own
some_page logins refusals setup held request now key (replies.Speak below) name moment w =
    let shown = shown_own setup held request now key (replies.Speak below) moment w in
    let some = refusals setup.upstream.entity shown.message below.request below.consumer below.relay now name shown.text
    shown.request shown.consumer w.told in
    (some.0, record { message = shown.message; named = shown.named; answers = some.1 })
some_page logins refusals setup held request now key (replies.Ask below) name moment w =
    let shown = shown_own setup held request now key (replies.Ask below) moment w in (
      answer 200 None None (ask_page setup.upstream w.told.text shown.routed.request shown.routed.relay),
      record {
        routed = shown.routed;
        is = shown.is;
        asks = record { instant = w.told.text; told = w.told.tells; is = refl };
      },
    )
some_page logins refusals setup held request now key (replies.Pass accepted place) name moment w =
    let shown = shown_own setup held request now key (replies.Pass accepted place) moment w in
    let some = logins Rattle.provider_config.specs.declared.idp_config.SignMode.TheVariants.Assertion w.peer.key_out
    setup.upstream.entity shown.backed.message (stated_by shown.backed) shown.backed.below_relay None now name
    shown.message shown.states w.told.issued w.told.issued w.told.until w.told.ends in (
      some.0,
      record {
        backed = shown.backed;
        is = shown.is;
        peer = w.peer;
        there = subst (λ (p : ℕ). slice_get setup.peers p ≡ Some w.peer) w.placed w.is_for.there;
        answers = some.1;
      },
    )

-- ---- behind a compaction it is asked for as before

pub wants_still : LikeRowsOpenAlike → (setup : HubConfig) (anew old : Held) (request : Request) (now : ℕ)
    (reply : Reply)
    → AnswerAlike now anew old → Wants setup old request now reply → Wants setup anew request now reply
wants_still law setup anew old request now (replies.Speak below) like w = w
wants_still law setup anew old request now (replies.Ask below) like w = w
wants_still law setup anew old request now (replies.Pass accepted peer) like w = record {
  to = w.to;
  opens = opening_alike law setup.upstream now anew old request.body accepted like w.opens;
  recordable = w.recordable;
  row = w.row;
  peer = w.peer;
  is_for =
      record {
        found = like.routed accepted.session.request ∙ w.is_for.found;
        place = w.is_for.place;
        known = w.is_for.known;
        there = w.is_for.there;
      };
  placed = w.placed;
  texts = w.texts;
  told = w.told;
}

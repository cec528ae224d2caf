-- What follows where a reply is wanted.
use Rattle.std.specs.Prelude.{IsSome, Option, None, Some, not, is_some, Result}
use Rattle.std.proofs.Common.{◌≡◌, ℕ, ◌+◌, Bool, true, false, if◌then◌else◌, List, sym, subst, refl, ap, ◌∙◌}
use Rattle.std.specs.Option.{option_to_list}
use Rattle.http_wire.specs.Answers.{answer}
use Rattle.http_wire.specs.declared.answer.Answer.TheVariants.{Full, Fixed}
use Rattle.http_wire.specs.Requests.{Request}
use Rattle.ledger_records.specs.declared.sp_record.SpRecord.{SpRecord}
use Rattle.ledger_rules.specs.declared.fault.DraftFault.{DraftFault}
use Rattle.request_rows.specs.declared.row.OpenedRow.{OpenedRow}
use Rattle.request_rows.specs.Rows.{session_row}
use Rattle.request_ledger.specs.Drafts.{asked, is_empty, DraftsSome}
use Rattle.record_ledger.specs.Drafts.{SameLedger}
use Rattle.request_ledger.specs.Laws.{AnswerAlike, CompactionsChangeNoAnswer}
use Rattle.record_ledger.specs.Ledger.{CanCommit}
use Rattle.request_ledger.specs.Ledger.{Held, OpenedLedger, next_number}
use Rattle.request_ledger.specs.Record.{request_rules}
use Rattle.request_ledger.specs.RowsOf.{rows_of}
use Rattle.request_ledger.specs.Standing.{request_row_rules}
use Rattle.request_ledger.proofs.Draftable.{text_is_allowed}
use Rattle.saml_ids.specs.IdText.{id_text}
use Rattle.saml_ids.specs.declared.Kind.TheVariants.{Cookie, Request as RequestKind, Relay, Message}
use Rattle.saml_ids.proofs.IdForm.{every_id_is_a_name}
use Rattle.logout_answers.specs.Answers.{Leaving, end_answer, is_in_part}
use Rattle.logout_answers.specs.Laws.{EachUserIsAnswered, EachPeerIsAnswered}
use Rattle.sp_rules.specs.declared.config.SpConfig.{SpConfig}
use Rattle.sp_server.specs.declared.reply.Reply.{Reply}
use Rattle.sp_server.specs.declared.reply.Reply.TheVariants as kinds
use Rattle.sp_server.specs.Config.{IsUsable}
use Rattle.sp_server.specs.Peer.{idp_at}
use Rattle.sp_server.specs.Step.{Setup, Answers, ByAsking, ByLeaving, ByEnding, ByNothingToEnd, ByConfirming, ByUnknownLogout, HasId, HasIds, is_awaited, left_record}
use Rattle.sp_answers.specs.Answers.{ask_page, opened_answer}
use Rattle.ledger_rules.specs.Numbers.{is_xml_text}
use Rattle.saml_time.specs.Instant.{TellsInFull}
use Rattle.verdict_codes.specs.Codes.{number_of}
use Rattle.provider_node.specs.Drafted.{drafted_of}
use Rattle.provider_node.specs.Replies.{AreReplies, IsDrafted, IsWanted}
use Rattle.provider_node.proofs.Drafting.{drafted_some, some_is}
use Rattle.sp_server.specs.Replies.{CanDraft, IsAnswerTo, IsAnswerable, Wants, is_nothing, record_for, refusal_of, sp_replies, stands_for}
use Rattle.provider_node.proofs.Sessions.{found_itself}
use Rattle.sp_server.proofs.Alike.{alike, session_alike}
use Rattle.sp_server.proofs.StayingClosed.{opened_sessions}
use Rattle.sp_server.proofs.Opening.{its_request, its_unspent, opens_own, opens_still}
use Rattle.sp_server.proofs.Targets.{path_is_text}

not_false : (x : Bool) → not x ≡ false → x ≡ true
not_false true h = refl
not_false false h = cc

not_true : (x : Bool) → not x ≡ true → x ≡ false
not_true true h = cc
not_true false h = refl

-- ---- the answer with a reply

-- of a user who leaves
leaves_row : (setup : Setup) (now : ℕ) (id bytes name : List ℕ) (indexes : List (List ℕ)) (row : OpenedRow)
    → name ≡ row.name → indexes ≡ option_to_list row.index
    → Leaving (idp_at setup.config now) id setup.config.entity now name indexes bytes
    → Leaving (idp_at setup.config now) id setup.config.entity now row.name (option_to_list row.index) bytes
leaves_row setup now id bytes name indexes row name_is indexes_are leaves =
    subst (λ (n : List ℕ). Leaving (idp_at setup.config now) id setup.config.entity now n (option_to_list row.index)
    bytes) name_is
    (subst (λ (i : List (List ℕ)). Leaving (idp_at setup.config now) id setup.config.entity now name i bytes)
    indexes_are leaves)

replies_own : (setup : Setup) (held : Held) (request : Request) (now : ℕ) (reply : Reply) (bytes : List ℕ)
    → Wants setup held request now reply
    → is_nothing setup.config held now reply ≡ false → IsAnswerTo setup.config
    (record_for setup.config.id_key setup.config held now reply) now reply bytes
    → Answers setup held request now (Full bytes) (Some (record_for setup.config.id_key setup.config held now reply))
replies_own setup held request now (kinds.Ask target) bytes asks some page =
    ByAsking bytes asks.to asks.none asks.unexpired page.id page.relay page.asks
    (ap (λ (t : List ℕ). Some (asked setup.config.id_key (next_number held) now t)) asks.target_is)
    (subst (λ (t : List ℕ). HasIds (asked setup.config.id_key (next_number held) now t) page.id page.relay)
    asks.target_is page.has) refl
replies_own setup held request now (kinds.Open accepted) bytes asks some page =
    opens_own setup held request now accepted bytes asks page
replies_own setup held request now (kinds.Leave token name indexes) bytes asks some page =
    ByLeaving asks.row page.id bytes asks.to asks.unexpired asks.live
    (ap (λ (t : List ℕ). Some (left_record setup.config held now t)) asks.token_is)
    (subst (λ (t : List ℕ). HasId (left_record setup.config held now t) page.id) asks.token_is page.has)
    (leaves_row setup now page.id bytes name indexes asks.row asks.name_is asks.indexes_are page.leaves) refl
replies_own setup held request now (kinds.End asked relay) bytes asks some page =
    ByEnding asked relay page.id bytes asks.0.to asks.0.unexpired asks.0.obeyed some refl page.has page.ends refl
replies_own setup held request now (kinds.Confirm response) bytes asks some page =
    ByConfirming response asks.to asks.unexpired asks.obeyed (not_false (is_awaited held now response.request) some)
    refl (ap Full page)

-- and where there is nothing to reply
unanswered : (setup : Setup) (held : Held) (request : Request) (now : ℕ) (reply : Reply)
    → Wants setup held request now reply → is_nothing setup.config held now reply ≡ true
    → Answers setup held request now (Fixed (number_of (refusal_of reply))) None
unanswered setup held request now (kinds.End asked relay) asks none =
    ByNothingToEnd asked relay asks.0.to asks.0.unexpired asks.0.obeyed none refl refl
unanswered setup held request now (kinds.Confirm response) asks none =
    ByUnknownLogout response asks.to asks.unexpired asks.obeyed (not_true (is_awaited held now response.request) none)
    refl refl
unanswered setup held request now other asks none = absurd (let clash : false ≡ true = none in cc)

-- there is an answer to each
pub record AreAnswered (now : ℕ) : Type 0 where
  pub asking : (text : List ℕ) × TellsInFull text now
  pub leaving : EachUserIsAnswered now
  pub ending : EachPeerIsAnswered now

page_of : (setup : Setup) (held : Held) (request : Request) (now : ℕ) (reply : Reply) → AreAnswered now
    → IsUsable setup.config → Wants setup held request now reply
    → (bytes : List ℕ) × IsAnswerTo setup.config (record_for setup.config.id_key setup.config held now reply) now reply
    bytes
page_of setup held request now (kinds.Ask target) law usable asks =
    let id = id_text setup.config.id_key RequestKind (next_number held) in
    let relay = id_text setup.config.id_key Relay (next_number held + 1) in (
      answer 200 None None (ask_page setup.config law.asking.0 id relay),
      record {
        id = id;
        relay = relay;
        has = (refl, refl);
        asks =
            record { instant = law.asking.0; told = law.asking.1; is = refl };
      },
    )
page_of setup held request now (kinds.Open accepted) law usable asks =
    let token = id_text setup.config.id_key Cookie (next_number held) in
    (opened_answer accepted.target token, record { token = token; has = refl; is = refl })
page_of setup held request now (kinds.Leave token name indexes) law usable asks =
    let id = id_text setup.config.id_key RequestKind (next_number held) in
    let made =
    law.leaving (idp_at setup.config now) id setup.config.entity name indexes usable.logout
    (every_id_is_a_name setup.config.id_key RequestKind (next_number held)).text usable.texts.entity
    asks.name_text asks.index_texts in
    (made.0, record { id = id; has = refl; leaves = made.1 })
page_of setup held request now (kinds.End asked relay) law usable asks =
    let id = id_text setup.config.id_key Message (next_number held) in
    let made =
    law.ending (idp_at setup.config now) id setup.config.entity asked.id false relay usable.logout
    (every_id_is_a_name setup.config.id_key Message (next_number held)).text usable.texts.entity
    asks.1 in
    (made.0, record { id = id; has = refl; ends = made.1 })
page_of setup held request now (kinds.Confirm response) law usable asks =
    (end_answer (is_in_part response.outcome), refl)

-- ---- it can be drafted and answered

pub can_draft : (setup : Setup) (held : Held) (request : Request) (now : ℕ) (reply : Reply)
    → Wants setup held request now reply → CanDraft held now reply
can_draft setup held request now (kinds.Ask target) asks =
    subst (λ (t : List ℕ). is_xml_text t ≡ true) (sym asks.target_is) (path_is_text request asks.to)
can_draft setup held request now (kinds.Open accepted) asks =
    record {
      texts = asks.recordable.texts;
      key = asks.recordable.key;
      asked =
          its_request setup held request now accepted asks;
      unspent = its_unspent setup held request now accepted asks;
    }
can_draft setup held request now (kinds.Leave token name indexes) asks =
    subst (λ (t : List ℕ). IsSome (session_row (rows_of held.records).opened t now held.header.horizon))
    (sym asks.token_is)
    (subst (λ (o : Option OpenedRow). IsSome o)
    (sym (found_itself opened_sessions (rows_of held.records).opened now held.header.horizon _ asks.row
    asks.live).again)
    refl)
can_draft setup held request now (kinds.End asked relay) asks = text_is_allowed asked.id asks.1
can_draft setup held request now (kinds.Confirm response) asks = tt

answerable_as : (setup : Setup) (held : Held) (request : Request) (now : ℕ) (key : List ℕ) (reply : Reply)
    → Wants setup held request now reply
    → IsAnswerable (record_for key setup.config held now reply) reply
answerable_as setup held request now key (kinds.Ask target) asks =
    (every_id_is_a_name key RequestKind (next_number held), refl)
answerable_as setup held request now key (kinds.Open accepted) asks = every_id_is_a_name key Cookie (next_number held)
answerable_as setup held request now key (kinds.Leave token name indexes) asks =
    (every_id_is_a_name key RequestKind (next_number held), asks.name_text, asks.index_texts)
answerable_as setup held request now key (kinds.End asked relay) asks =
    (every_id_is_a_name key Message (next_number held), asks.1)
answerable_as setup held request now key (kinds.Confirm response) asks = tt

-- ---- behind a compaction it is asked for as before

asks_still : (setup : Setup) (anew old : Held) (request : Request) (now : ℕ) (reply : Reply) → AnswerAlike now anew old
    → Wants setup old request now reply → Wants setup anew request now reply
asks_still setup anew old request now (kinds.Ask target) like asks =
    record {
      to = asks.to;
      unexpired = asks.unexpired;
      none = session_alike now anew old request like ∙ asks.none;
      target_is = asks.target_is;
    }
asks_still setup anew old request now (kinds.Open accepted) like asks =
    opens_still setup anew old request now accepted like asks
asks_still setup anew old request now (kinds.Leave token name indexes) like asks = record {
  to = asks.to;
  unexpired = asks.unexpired;
  row = asks.row;
  live = session_alike now anew old request like ∙ asks.live;
  token_is = asks.token_is;
  name_is = asks.name_is;
  indexes_are = asks.indexes_are;
  name_text = asks.name_text;
  index_texts = asks.index_texts;
}
asks_still setup anew old request now (kinds.End asked relay) like asks = asks
asks_still setup anew old request now (kinds.Confirm response) like asks = asks

nothing_alike : (config : SpConfig) (anew old : Held) (now : ℕ) (reply : Reply) → AnswerAlike now anew old
    → is_nothing config anew now reply ≡ is_nothing config old now reply
nothing_alike config anew old now (kinds.End asked relay) like =
    ap is_empty (like.ending config.idp.entity asked.name asked.indexes)
nothing_alike config anew old now (kinds.Confirm response) like = ap not (like.waiting response.request)
nothing_alike config anew old now other like = refl

-- ---- in the words of a step

none_is : (nothing : Bool) (own : SpRecord) → (if nothing then None else Some own) ≡ None → nothing ≡ true
none_is true own is = refl
none_is false own is = cc

is_some_where : (nothing : Bool) (own : SpRecord) → is_some (if nothing then None else Some own) ≡ not nothing
is_some_where true own = refl
is_some_where false own = refl

pub sp_laws : (setup : Setup) (now : ℕ) → AreAnswered now → IsUsable setup.config → CompactionsChangeNoAnswer
    → AreReplies sp_replies request_rules Answers setup now
sp_laws setup now law usable compactions = record {
  answers = λ held request reply r bytes wants is shows.
      let own =
      some_is (is_nothing setup.config held now reply) (record_for setup.config.id_key setup.config held now reply) r
      is in
      subst (λ (x : SpRecord). Answers setup held request now (Full bytes) (Some x)) own.1
      (replies_own setup held request now reply bytes wants own.0
      (subst (λ (x : SpRecord). IsAnswerTo setup.config x now reply bytes) (sym own.1) shows));
  has_page = λ held request reply r wants is.
      let own =
      some_is (is_nothing setup.config held now reply) (record_for setup.config.id_key setup.config held now reply) r
      is in
      let page = page_of setup held request now reply law usable wants in
      (page.0, subst (λ (x : SpRecord). IsAnswerTo setup.config x now reply page.0) own.1 page.1);
  refused = λ held request reply wants none.
      unanswered setup held request now reply wants (none_is (is_nothing setup.config held now reply)
      (record_for setup.config.id_key setup.config held now reply) none);
  still = λ old new request reply are made wants. asks_still setup new old request now reply
      (alike now old new compactions are made) wants;
  stands = λ old new request reply are made wants.
      is_some_where (is_nothing setup.config new now reply) _
      ∙ ap not (nothing_alike setup.config new old now reply (alike now old new compactions are made))
      ∙ sym (is_some_where (is_nothing setup.config old now reply) _);
}

-- what became of a draft
pub sp_drafted : (setup : Setup) (old new : OpenedLedger) (now : ℕ) (reply : Reply)
    (result : Result (Option SpRecord) DraftFault) → old.key ≡ setup.config.id_key → SameLedger old new
    → DraftsSome old new (is_nothing setup.config old.held now reply)
    (record_for old.key setup.config old.held now reply) result
    → IsDrafted request_rules old.held (CanCommit request_rules request_row_rules new)
    (stands_for setup old.held now reply) (drafted_of result)
sp_drafted setup old new now reply result key same drafts =
    let own = record_for setup.config.id_key setup.config old.held now reply in
    drafted_some request_rules request_row_rules old new (is_nothing setup.config old.held now reply)
    (record_for old.key setup.config old.held now reply) (stands_for setup old.held now reply) result same
    (ap (λ (b : Bool). if b then None else Some own))
    (λ some. ap (λ (b : Bool). if b then None else Some own) some
    ∙ ap (λ (k : List ℕ). Some (record_for k setup.config old.held now reply)) (sym key)) drafts

-- what was drafted can be answered
pub sp_answerable : (setup : Setup) (now : ℕ) (reply : Reply) (r : SpRecord) → IsWanted sp_replies setup now reply r
    → IsAnswerable r reply
sp_answerable setup now reply r wanted =
    let own =
    some_is (is_nothing setup.config wanted.held now reply)
    (record_for setup.config.id_key setup.config wanted.held now reply) r wanted.is in
    subst (λ (x : SpRecord). IsAnswerable x reply) own.1
    (answerable_as setup wanted.held wanted.request now setup.config.id_key reply wanted.wants)

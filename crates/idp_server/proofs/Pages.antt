-- There is a page for each reply that is asked for.
use Rattle.std.specs.Prelude.{IsSome, slice_get}
use Rattle.std.proofs.Common.{◌≡◌, ℕ, ◌≤◌, List, [], ◌∷◌, Option, None, Some, refl, subst, sym, Bool}
use Rattle.xml_spec.specs.Characters.{IsText}
use Rattle.http_wire.specs.Requests.{Request}
use Rattle.http_wire.specs.declared.answer.Answer.TheVariants.{Full}
use Rattle.ledger_records.specs.declared.idp_record.Issued.{Issued}
use Rattle.ledger_records.specs.declared.idp_record.IdpRecord.{IdpRecord}
use Rattle.peer_keys.specs.declared.peers.LogoutPeer.{LogoutPeer}
use Rattle.idp_ledger.specs.declared.ask.Ask.{Ask}
use Rattle.idp_rows.specs.Record.{LAST}
use Rattle.idp_ledger.specs.Ledger.{Held}
use Rattle.idp_ledger.specs.Draft.{first_id}
use Rattle.idp_rules.specs.Config.{IsTextPeer}
use Rattle.idp_rules.specs.declared.config.IdpConfig.{IdpConfig}
use Rattle.logout_answers.specs.Answers.{end_answer}
use Rattle.idp_answers.specs.Answers.{IsNoPassiveAnswer, login_answer}
use Rattle.idp_answers.specs.Stating.{EachLoginHasAnAnswer, EachRefusalHasAnAnswer}
use Rattle.idp_server.specs.declared.reply.Reply.{Reply}
use Rattle.idp_server.specs.declared.reply.Reply.TheVariants as replies
use Rattle.idp_server.specs.Logins.{stated_by}
use Rattle.logout_turns.specs.declared.turns.Turn.{Turn}
use Rattle.idp_server.specs.declared.reply.Follows.{Follows}
use Rattle.idp_server.specs.declared.reply.Follows.TheVariants as follows
use Rattle.idp_server.specs.Replies.{IsIssuable, IsPage, IsTold, IsToldPage, Tells, Wants, record_for}
use Rattle.idp_server.specs.Step.{IsAnswerFor}
use Rattle.idp_server.proofs.Replies.{issued_at_login, issued_in_session, has_refusal, placed_peer, request_of, response_of, shown_of}
use Rattle.idp_server.proofs.Requests.{ends_alike, some_end, some_request, some_response}
use Rattle.idp_server.proofs.Telling.{first_turn_of, next_step_of}
use Rattle.idp_server.proofs.Sessions.{all_at}

-- an answer with the Assertion of an issued record, and one without
some_issued : EachLoginHasAnAnswer → (setup : IdpConfig) (peer : LogoutPeer) (r : Issued) (cookie : Option (List ℕ))
    (now : ℕ) → IsText setup.entity → IsIssuable r → IsTold now
    → IsTold r.moment → IsTold r.until → IsTold r.session_end → (bytes : List ℕ)
    × IsAnswerFor setup peer r cookie now bytes
some_issued law setup peer r cookie now name is at issued until ends =
    law setup.mode peer.key_out setup.entity r.message (stated_by r) r.relay cookie now name is.message is.states at
    issued until ends

some_refusal : EachRefusalHasAnAnswer → (issuer message : List ℕ) (ask : Ask) (now : ℕ) → IsText issuer → IsText message
    → IsText ask.request → IsText ask.consumer → IsTold now
    → (bytes : List ℕ) × IsNoPassiveAnswer issuer message ask.request ask.consumer ask.relay now bytes
some_refusal law issuer message ask now name text request consumer at =
    law issuer message ask.request ask.consumer ask.relay now name text request consumer at

some_id : (o : Option (List ℕ)) → IsSome o → (id : List ℕ) × (o ≡ Some id)
some_id None is = absurd (cc)
some_id (Some id) is = (id, refl)

-- the page of each reply
pub some_page : EachLoginHasAnAnswer → EachRefusalHasAnAnswer
    → (setup : IdpConfig) (held : Held) (request : Request) (now : ℕ) (key : List ℕ) (reply : Reply) (r : IdpRecord)
    → IsText setup.entity → now ≤ LAST
    → Wants setup held request now reply → record_for key held now reply ≡ Some r → (bytes : List ℕ)
    × IsPage setup reply r now (Full bytes)
some_page logins refusals setup held request now key (replies.InSession cookie ask peer) r name moment w is =
    let can = issued_in_session setup held request now key cookie ask peer r moment w is in
    let some =
    some_issued logins setup w.peer can.issued None now name can.issuable w.told.issued can.made can.until can.ends in (
      some.0,
      record {
        issued = can.issued;
        is = can.is;
        peer = w.peer;
        there =
            placed_peer setup held request now cookie ask peer w;
        bytes = some.0;
        answers = some.1;
        full = refl;
      },
    )
some_page logins refusals setup held request now key (replies.Passive ask) r name moment w is =
    let has = has_refusal setup held request now key ask r w is in
    let some = some_refusal refusals setup.entity has.message ask now name has.text has.request has.consumer w.told in
    (some.0, record { message = has.message; named = has.named; bytes = some.0; answers = some.1; full = refl })
some_page logins refusals setup held request now key (replies.Question ask) r name moment w is =
    let id = some_id (first_id r) (shown_of setup held request now key (replies.Question ask) r moment w is) in
    (login_answer id.0, record { id = id.0; named = id.1; full = refl })
some_page logins refusals setup held request now key (replies.Login id user attributes peer) r name moment w is =
    let can = issued_at_login setup held request now key id user attributes peer r moment w is in
    let some =
    some_issued logins setup w.peer can.0.issued (Some can.1.cookie) now name can.0.issuable w.told.issued can.0.made
    can.0.until can.0.ends in (
      some.0,
      record {
        cookie = can.1.cookie;
        draws = can.1.named;
        page =
            record {
              issued = can.0.issued;
              is = can.0.is;
              peer = w.peer;
              there = w.there;
              bytes = some.0;
              answers =
                  some.1;
              full = refl;
            };
      },
    )
some_page logins refusals setup held request now key (replies.Leave cookie user index) r name moment w is =
    let has = request_of setup held request now key cookie user index r w is in
    let some =
    some_request setup has.left.peer has.left.request user (index ∷ []) now name w.peers has.request w.user_text
    (w.index_text, tt) w.told.issued (subst IsTold (ends_alike now) w.told.until) in
    (some.0, record { left = has.left; is = has.is; bytes = some.0; answers = some.1; full = refl })
some_page logins refusals setup held request now key (replies.End asked peer other relay) r name moment w is =
    let has = response_of setup held request now key asked peer other relay r w is in
    let some =
    some_response setup has.ended.message has.ended.request has.ended.partial relay now w.peer name has.message
    (subst IsText has.same has.request) w.told w.peer.peer.logout refl
    (all_at IsTextPeer setup.peers peer w.peer w.peers w.there).logout in (
      some.0,
      record {
        ended = has.ended;
        is = has.is;
        peer = w.peer;
        there = w.there;
        bytes = some.0;
        answers = some.1;
        full = refl;
      },
    )
some_page logins refusals setup held request now key (replies.Confirm of partial) r name moment w is =
    (end_answer partial, refl)
some_page logins refusals setup held request now key (replies.AskAll cookies asker plan) r name moment w is =
    let has = first_turn_of setup held request now key cookies asker plan r w is in
    let some =
    some_request setup has.turn.peer has.begun.request has.turn.name has.turn.indexes now name w.peers has.can.id_text
    has.can.name has.can.indexes w.told.issued
    (subst IsTold (ends_alike now) w.told.until) in (
      some.0,
      record {
        begun = has.begun;
        is = has.is;
        bytes = some.0;
        asks = record {
          turn = has.turn;
          first = subst (λ (ts : List Turn). slice_get ts 0 ≡ Some has.turn) (sym has.turns_are) has.first;
          asks = some.1;
        };
        full = refl;
      },
    )
some_page logins refusals setup held request now key (replies.Told of peer confirms next) r name moment w is =
    told_page_of setup held request now key of peer confirms next r name w is
  where
    told_page_of : (setup : IdpConfig) (held : Held) (request : Request) (now : ℕ) (key of peer : List ℕ)
        (confirms : Bool) (next : Follows) (r : IdpRecord) → IsText setup.entity
        → Tells setup held request now of peer confirms next
        → record_for key held now (replies.Told of peer confirms next) ≡ Some r
        → (bytes : List ℕ) × IsToldPage setup next r now (Full bytes)
    told_page_of setup held request now key of peer confirms (follows.Turn turn) r name w is =
        let has = next_step_of setup held request now key of peer confirms (follows.Turn turn) r w is in
        let some =
        some_request setup turn.peer has.id turn.name turn.indexes now name w.peers has.can.id_text has.can.name
        has.can.indexes w.told.issued
        (subst IsTold (ends_alike now) w.told.until) in
        (some.0, record { id = has.id; named = has.named; bytes = some.0; asks = some.1; full = refl })
    told_page_of setup held request now key of peer confirms (follows.End message asker partial) r name w is =
        let has = next_step_of setup held request now key of peer confirms (follows.End message asker partial) r w is in
        let some = some_end setup message asker partial now name has w.told.issued in
        (some.0, record { bytes = some.0; ends = some.1; full = refl })

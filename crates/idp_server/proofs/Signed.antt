-- Each signed element of an answer is of its record.
use Rattle.std.specs.Prelude.{not, slice_get, if◌then◌else◌}
use Rattle.std.proofs.Common.{◌≡◌, ℕ, Bool, true, false, List, [], ◌∷◌, ◌++◌, Option, None, Some, inl, inr, refl, sym, subst, ap, ◌∙◌}
use Rattle.std.specs.List.{AllByRecursion}
use Rattle.std.specs.Option.{option_map}
use Rattle.saml_time.specs.Instant.{TellsInFull}
use Rattle.element_make.specs.Made.{Made, alone, written}
use Rattle.sig_reference.specs.Signing.{signed}
use Rattle.saml_ids.specs.IdText.{id_text}
use Rattle.saml_ids.specs.declared.Kind.TheVariants.{Message, Pending as PendingId}
use Rattle.saml_names.specs.Uris.{partial_logout}
use Rattle.protocol_messages.specs.Making.{IsMadeAt, IsMadeFrom, failed, logged_out, logout_request, request_end, response, session_indexes, succeeded}
use Rattle.post_binding.specs.Pages.{auto_form}
use Rattle.post_binding.specs.declared.posted.Field.TheVariants as fields
use Rattle.http_wire.specs.Answers.{answer}
use Rattle.provider_config.specs.declared.idp_config.SignMode.{SignMode}
use Rattle.provider_config.specs.declared.idp_config.SignMode.TheVariants as modes
use Rattle.http_wire.specs.declared.answer.Answer.{Answer}
use Rattle.http_wire.specs.declared.answer.Answer.TheVariants.{Full}
use Rattle.http_wire.specs.Requests.{Request}
use Rattle.ledger_records.specs.declared.idp_record.Ended.{Ended}
use Rattle.ledger_records.specs.declared.idp_record.Issued.{Issued}
use Rattle.ledger_records.specs.declared.idp_record.Left.{Left}
use Rattle.ledger_records.specs.declared.idp_round.Round.{Round}
use Rattle.ledger_records.specs.declared.idp_round.Told.{Told}
use Rattle.ledger_records.specs.declared.idp_record.IdpRecord.{IdpRecord}
use Rattle.ledger_records.specs.declared.idp_record.IdpRecord.TheVariants as kinds
use Rattle.peer_keys.specs.Peers.{place_of}
use Rattle.peer_keys.specs.declared.peers.LogoutPeer.{LogoutPeer}
use Rattle.idp_rows.specs.declared.row.SessionRow.{SessionRow}
use Rattle.idp_rows.specs.Finding.{session_found, turn_found}
use Rattle.idp_rows.specs.RowsOf.{rows_of}
use Rattle.idp_ledger.specs.Ledger.{Held, next_number}
use Rattle.idp_ledger.specs.Drafts.{confirmed, issue, login, pending, spoke}
use Rattle.idp_rules.specs.Asking.{IsAsked}
use Rattle.idp_rules.specs.declared.asked.Asked.{Asked}
use Rattle.idp_rules.specs.declared.config.IdpConfig.{IdpConfig}
use Rattle.idp_answers.specs.Answers.{IsNoPassiveAnswer, login_answer, response_form, session_cookie, signed_assertion}
use Rattle.idp_answers.specs.Answers.{signed_response, signs_assertion, signs_response}
use Rattle.logout_answers.specs.Answers.{ByEnding, BySending, Ending, Leaving, end_answer, is_in_part}
use Rattle.logout_turns.specs.declared.part.Asker.{Asker}
use Rattle.round_rows.specs.declared.row.RoundRow.{RoundRow}
use Rattle.round_rows.specs.Rounds.{is_turn_left}
use Rattle.idp_answers.specs.SignedElements.{signed_by}
use Rattle.idp_answers.proofs.SignedElements.{elements_are}
use Rattle.idp_server.specs.Logins.{stated_by}
use Rattle.idp_server.specs.Messages.{AsksFirst, AsksNext, EndsRound, IsRequestTo, IsRoundEnd, IsToldAnswer, ToAsker, ToNone, ToPeer, ToUser}
use Rattle.idp_server.specs.Rounds.{next_in, round_by, round_waiting}
use Rattle.idp_server.specs.Signed.{AFirstRequest, ALastReply, ALogin, ALogout, ANextRequest, AQuestion, ARefusal}
use Rattle.idp_server.specs.Signed.{AReply, ARequest, AResponse, AnAssertion, AnEnd, Carries, cookie_set}
use Rattle.idp_server.specs.Signed.{EachSignedElementIsOfARecord, IsOfAMessage, IsOfAnEnd, IsSignedFor, IsSignedOf}
use Rattle.idp_server.specs.Signed.{Waits, signed_elements}
use Rattle.idp_server.specs.Step as steps
use Rattle.idp_server.specs.Step.{Answers, IsAnswerFor, IsEndingAnswer, IsLeavingAnswer, IsPeer, ask_of, asker_of, ended_by, ending_by, left_by, session_for}
use Rattle.idp_server.proofs.Ending.{IsAtItsPlace, asking_peer}
use Rattle.idp_server.proofs.Issues.{found_itself, the_issued}
use Rattle.idp_server.proofs.Logouts.{has_answer, the_ended, the_left, the_round}
use Rattle.idp_server.proofs.Peers.{place_names}
use Rattle.idp_server.proofs.Told.{said}

-- ---- what is signed of a Response

each_expected : (P : Made → Type 0) (mode : SignMode) (one other : Made) → (signs_assertion mode ≡ true → P one)
    → (signs_response mode ≡ true → P other)
    → AllByRecursion P (signed_by mode one other)
each_expected P modes.Assertion one other first second = (first refl, tt)
each_expected P modes.Response one other first second = (second refl, tt)
each_expected P modes.Both one other first second = (second refl, (first refl, tt))

-- ---- of an answer

carries_issued : (setup : IdpConfig) (held : Held) (request : Request) (peer : LogoutPeer) (r : Issued)
    (cookie : Option (List ℕ)) (now : ℕ) (bytes : List ℕ) → IsPeer setup r.peer peer → r.moment ≡ now
    → option_map session_cookie cookie ≡ cookie_set r → IsAnswerFor setup peer r cookie now bytes
    → Carries setup held request bytes (kinds.Issued r)
carries_issued setup held request peer r cookie now bytes known at sets a =
    let key = peer.key_out in
    let i = a.issued in
    let P : Made → Type 0 = IsSignedOf setup held (kinds.Issued r) in
    let built =
    response r.message setup.entity r.consumer r.request (Some (signed_assertion setup.mode key i.assertion))
    i.answers.instant in
    let response_is : signs_response setup.mode ≡ true → P (signed key built) = λ signs. record {
      key = key;
      made = built;
      stands =
          AResponse r peer i.assertion built known signs i.of_login
          (record {
            instant = i.answers.instant;
            told = subst (TellsInFull i.answers.instant) (sym at) i.answers.told;
            is = refl;
          });
      is = refl;
    } in
    let assertion_is : signs_assertion setup.mode ≡ true → P (signed key i.assertion) = λ signs. record {
      key = key;
      made = i.assertion;
      stands = AnAssertion r peer i.assertion known signs i.of_login;
      is = refl;
    } in
    let all : AllByRecursion P (signed_elements (alone (signed_response setup.mode key built))) =
    subst (AllByRecursion P) (sym (elements_are setup.mode key setup.entity r.message r.consumer r.request
    i.answers.instant (stated_by r) i.assertion i.of_login))
    (each_expected P setup.mode (signed key i.assertion) (signed key built) assertion_is response_is) in
    let sent : a.sent ≡ signed_response setup.mode key built =
    i.is ∙ ap (signed_response setup.mode key) i.answers.is in
    ALogin r a.sent (record {
      is = a.is ∙ ap (λ (c : Option (List ℕ)). answer 200 None c (response_form a.sent r.consumer r.relay)) sets;
    })
    (subst (λ (m : Made). AllByRecursion P (signed_elements (alone m))) (sym sent) all)

-- in a Response without an Assertion nothing is signed
refusal_unsigned : (issuer message request consumer : List ℕ) (relay : Option (List ℕ)) (now : ℕ) (bytes : List ℕ)
    (page : IsNoPassiveAnswer issuer message request consumer relay now bytes)
    → signed_elements (alone page.sent) ≡ []
refusal_unsigned issuer message request consumer relay now bytes page =
    ap (λ (m : Made). signed_elements (alone m)) page.answers.is

-- ---- of an answer in a logout

-- one element is signed of a LogoutRequest, and of a LogoutResponse
indexes_unsigned : (indexes : List (List ℕ)) → signed_elements (session_indexes indexes) ≡ []
indexes_unsigned [] = refl
indexes_unsigned (index ∷ indexes) = indexes_unsigned indexes

request_signed : (key id issuer address name : List ℕ) (indexes : List (List ℕ)) (at end : List ℕ)
    → signed_elements (alone (signed key (logout_request id issuer address name indexes at end))) ≡ signed key
    (logout_request id issuer address name indexes at end) ∷ []
request_signed key id issuer address name indexes at end =
    ap (λ (xs : List Made). signed key (logout_request id issuer address name indexes at end) ∷ (xs ++ []))
    (indexes_unsigned indexes)

response_signed : (key id issuer address request : List ℕ) (partial : Bool) (at : List ℕ)
    → signed_elements (alone (signed key (logged_out id issuer address request
    (if partial then failed partial_logout else succeeded) at)))
    ≡ signed key (logged_out id issuer address request (if partial then failed partial_logout else succeeded) at) ∷ []
response_signed key id issuer address request true at = refl
response_signed key id issuer address request false at = refl

-- the session that a record left
abbrev IsLeft : Held → Left → SessionRow → Type 0
IsLeft held r row = session_found (rows_of held.records).sessions r.cookie r.moment held.header.horizon ≡ Some row

is_left : (held : Held) (r : Left) (row : SessionRow) (request : Request) (now : ℕ) → now ≡ r.moment
    → row.cookie ≡ r.cookie → session_for held now request ≡ Some row → IsLeft held r row
is_left held r row request now at cookie live =
    let rows = (rows_of held.records).sessions in
    subst (λ (c : List ℕ). session_found rows c r.moment held.header.horizon ≡ Some row) cookie
    (subst (λ (t : ℕ). session_found rows row.cookie t held.header.horizon ≡ Some row) at
    (found_itself held request now row live))

-- a request that a record stands for, where it goes to a peer with an address
module _ (setup : IdpConfig) (held : Held) (request : Request) (r : IdpRecord) (sends : IsOfAMessage r) (moment now : ℕ)
    (at : moment ≡ now) where
  request_sent : (id name : List ℕ) (indexes : List (List ℕ)) (bytes : List ℕ) (peer : LogoutPeer)
      → IsOfAnEnd held r true
      → ((address : List ℕ) (made : Made) → peer.peer.logout ≡ Some address
      → IsMadeFrom moment (request_end moment) (logout_request id setup.entity address name indexes) made
      → IsSignedFor setup held r peer.key_out made)
      → Leaving peer id setup.entity now name indexes bytes → Carries setup held request bytes r
  request_sent id name indexes bytes peer ends stands (ByEnding none is) = AnEnd r true ends is
  request_sent id name indexes bytes peer ends stands (BySending a) =
      let q = a.request in
      let key = peer.key_out in
      let built = logout_request id setup.entity q.address name indexes q.made.instant q.made.until in
      let P : Made → Type 0 = IsSignedOf setup held r in
      let one : P (signed key built) = record {
        key = key;
        made = built;
        stands = stands q.address built q.given (record {
          instant = q.made.instant;
          until = q.made.until;
          told = subst (TellsInFull q.made.instant) (sym at) q.made.told;
          ended = subst (λ (m : ℕ). TellsInFull q.made.until (request_end m)) (sym at) q.made.ended;
          is = refl;
        });
        is = refl;
      } in
      ALogout r (signed key built) sends
      (record {
        address = q.address;
        field = fields.Request;
        relay = None;
        is = a.is
            ∙ ap (λ (m : List ℕ). answer 200 None None (auto_form q.address fields.Request m None))
            (q.signed.is ∙ ap (λ (m : Made). written (signed key m)) q.made.is);
      })
      (subst (AllByRecursion P) (sym (request_signed key id setup.entity q.address name indexes q.made.instant
      q.made.until)) (one, tt))

  carries_request : (entity id name : List ℕ) (indexes : List (List ℕ)) (bytes : List ℕ) → IsOfAnEnd held r true
      → ((peer : LogoutPeer) (address : List ℕ) (made : Made) → IsPeer setup entity peer
      → peer.peer.logout ≡ Some address
      → IsMadeFrom moment (request_end moment) (logout_request id setup.entity address name indexes) made
      → IsSignedFor setup held r peer.key_out made)
      → IsRequestTo setup entity id name indexes now bytes → Carries setup held request bytes r
  carries_request entity id name indexes bytes ends stands (ToPeer peer known answers) =
      request_sent id name indexes bytes peer ends
      (λ address made given is. stands peer address made known given is) answers
  carries_request entity id name indexes bytes ends stands (ToNone none is) = AnEnd r true ends is

  -- and a response
  carries_response : (message of : List ℕ) (partial : Bool) (relay : Option (List ℕ)) (bytes : List ℕ)
      (peer : LogoutPeer) → IsOfAnEnd held r partial
      → ((address : List ℕ) (made : Made) → peer.peer.logout ≡ Some address
      → IsMadeAt moment (logged_out message setup.entity address of
      (if partial then failed partial_logout else succeeded)) made → IsSignedFor setup held r peer.key_out made)
      → Ending peer message setup.entity now of partial relay bytes → Carries setup held request bytes r
  carries_response message of partial relay bytes peer ends stands (ByEnding none is) = AnEnd r partial ends is
  carries_response message of partial relay bytes peer ends stands (BySending a) =
      let q = a.response in
      let key = peer.key_out in
      let built =
      logged_out message setup.entity q.address of (if partial then failed partial_logout else succeeded)
      q.made.instant in
      let P : Made → Type 0 = IsSignedOf setup held r in
      let one : P (signed key built) = record {
        key = key;
        made = built;
        stands =
            stands q.address built q.given (record {
              instant = q.made.instant;
              told =
                  subst (TellsInFull q.made.instant) (sym at) q.made.told;
              is = refl;
            });
        is = refl;
      } in
      ALogout r (signed key built) sends
      (record {
        address = q.address;
        field = fields.Response;
        relay = relay;
        is = a.is
            ∙ ap (λ (m : List ℕ). answer 200 None None (auto_form q.address fields.Response m relay))
            (q.signed.is ∙ ap (λ (m : Made). written (signed key m)) q.made.is);
      })
      (subst (AllByRecursion P) (sym (response_signed key message setup.entity q.address of partial q.made.instant))
      (one, tt))

  -- the end of a round
  carries_end : (message : List ℕ) (asked : Option Asker) (partial : Bool) (bytes : List ℕ) → IsOfAnEnd held r partial
      → ((asker : Asker) (peer : LogoutPeer) (address : List ℕ) (made : Made) → asked ≡ Some asker
      → IsPeer setup asker.peer peer → peer.peer.logout ≡ Some address
      → IsMadeAt moment (logged_out message setup.entity address asker.request
      (if partial then failed partial_logout else succeeded)) made → IsSignedFor setup held r peer.key_out made)
      → IsRoundEnd setup message asked partial now bytes → Carries setup held request bytes r
  carries_end message asked partial bytes ends stands (ToAsker asker peer is known answers) =
      carries_response message asker.request partial asker.relay bytes peer ends
      (λ address made given made_is. stands asker peer address made is known given made_is) answers
  carries_end message asked partial bytes ends stands (ToUser none is) = AnEnd r partial ends is

module _ (setup : IdpConfig) (held : Held) (request : Request) where
  carries_leaving : (r : Left) (row : SessionRow) (now : ℕ) (bytes : List ℕ) → r.moment ≡ now → IsLeft held r row
      → IsLeavingAnswer setup r row.user row.index now bytes → Carries setup held request bytes (kinds.Left r)
  carries_leaving r row now bytes at live answers =
      carries_request setup held request (kinds.Left r) tt r.moment now at r.peer r.request row.user (row.index ∷ [])
      bytes refl (λ peer address made known given is. ARequest r peer row address made known given live is) answers

  carries_ending : (r : Ended) (relay : Option (List ℕ)) (now : ℕ) (bytes : List ℕ) (peer : LogoutPeer)
      → IsPeer setup r.peer peer → r.moment ≡ now → IsEndingAnswer setup peer r relay now bytes
      → Carries setup held request bytes (kinds.Ended r)
  carries_ending r relay now bytes peer known at answers =
      carries_response setup held request (kinds.Ended r) tt r.moment now at r.message r.request r.partial relay bytes
      peer refl (λ address made given is. AReply r peer address made known given is) answers

  carries_first : (r : Round) (now : ℕ) (bytes : List ℕ) → r.moment ≡ now → AsksFirst setup r now bytes
      → Carries setup held request bytes (kinds.Round r)
  carries_first r now bytes at asks =
      carries_request setup held request (kinds.Round r) tt r.moment now at asks.turn.peer r.request asks.turn.name
      asks.turn.indexes bytes refl
      (λ peer address made known given is. AFirstRequest r asks.turn peer address made asks.first known given is)
      asks.asks

  carries_told : (r : Told) (row : RoundRow) (confirms : Bool) (now : ℕ) (bytes : List ℕ) → r.moment ≡ now
      → confirms ≡ r.confirmed → Waits held r row → IsToldAnswer setup row confirms r now bytes
      → Carries setup held request bytes (kinds.Told r)
  carries_told r row confirms now bytes at same waits (AsksNext place turn id next there named asks) =
      carries_request setup held request (kinds.Told r) tt r.moment now at turn.peer id turn.name turn.indexes bytes
      (inl refl) (λ peer address made known given is. ANextRequest r row place turn id peer address made waits
      (sym (ap (next_in row) same) ∙ next) there named known given is) asks
  carries_told r row confirms now bytes at same waits (EndsRound partial next ends) =
      carries_end setup held request (kinds.Told r) tt r.moment now at row.message row.asker partial bytes
      (inr (row, waits, sym (ap (next_in row) same) ∙ next))
      (λ asker peer address made asked known given is. ALastReply r row partial asker peer address made waits
      (sym (ap (next_in row) same) ∙ next) asked known given is) ends

-- ---- the peer of a record

known_peer : (setup : IdpConfig) (address body : List ℕ) (asked : Asked) (peer : LogoutPeer)
    → IsAsked setup.peers address body asked → slice_get setup.peers asked.peer ≡ Some peer
    → IsPeer setup peer.peer.entity peer
known_peer setup address body asked peer is there =
    let same : asked.peer ≡ is.place = ap (λ (a : Asked). a.peer) is.is in
    let at : slice_get setup.peers is.place ≡ Some peer =
    subst (λ (p : ℕ). slice_get setup.peers p ≡ Some peer) same there in
    let named = place_names is.carried.request.issuer setup.peers is.place peer is.asks.known at in
    (is.place, subst (λ (e : List ℕ). place_of e setup.peers ≡ Some is.place) (sym named) is.asks.known, at)

-- a round that waits is found
pub waiting_turn : (setup : IdpConfig) (held : Held) (now : ℕ) (of peer : List ℕ) (row : RoundRow)
    → round_waiting setup held now of peer ≡ Some row
    → turn_found (rows_of held.records).rounds of peer now held.header.horizon ≡ Some row
waiting_turn setup held now of peer row waits = by_line setup.fanout waits
  where
    by_line : (b : Bool) → (if b then turn_found (rows_of held.records).rounds of peer now held.header.horizon else
        None) ≡ Some row
        → turn_found (rows_of held.records).rounds of peer now held.header.horizon ≡ Some row
    by_line true is = is
    by_line false is = absurd (cc)

-- what is carried for a record that is this one, by a page that is this one
carried_to : (setup : IdpConfig) (held : Held) (request : Request) (other r : IdpRecord) (sent bytes : List ℕ)
    → other ≡ r → sent ≡ bytes → Carries setup held request sent other → Carries setup held request bytes r
carried_to setup held request other r sent bytes same spelled carries =
    subst (Carries setup held request bytes) same
    (subst (λ (page : List ℕ). Carries setup held request page other) spelled carries)

carried : IsAtItsPlace → (setup : IdpConfig) (held : Held) (request : Request) (now : ℕ) (answer : Answer)
    (bytes : List ℕ) (adds : Option IdpRecord) (r : IdpRecord) → answer ≡ Full bytes → adds ≡ Some r
    → Answers setup held request now answer adds → Carries setup held request bytes r
carried law setup held request now answer bytes adds r shown some
    (steps.ByIssuing asked peer row other sent asks used drafted adding answers full) =
    let same : kinds.Issued other ≡ r = (let e = sym adding ∙ some in cc) in
    let spelled : sent ≡ bytes = (let e = sym full ∙ shown in cc) in
    let made = the_issued other (issue setup.id_key (next_number held) now row (ask_of asked peer)) _ drafted refl in
    let known_as =
    subst (λ (e : List ℕ). IsPeer setup e peer) (ap (λ (i : Issued). i.peer) made)
    (known_peer setup _ request.body asked peer asks.is asks.known) in
    carried_to setup held request (kinds.Issued other) r sent bytes same spelled
    (carries_issued setup held request peer other None now sent known_as (sym (ap (λ (i : Issued). i.moment) made))
    (ap (option_map (λ (p : List ℕ). session_cookie other.cookie)) (ap (λ (i : Issued). i.pending) made)) answers)
carried law setup held request now answer bytes adds r shown some
    (steps.ByPassive asked peer message sent asks none passive adding named answers full) =
    let ask = ask_of asked peer in
    let same : spoke setup.id_key (next_number held) now ask ≡ r = (let e = sym adding ∙ some in cc) in
    let spelled : sent ≡ bytes = (let e = sym full ∙ shown in cc) in
    let first : id_text setup.id_key Message (next_number held) ≡ message = (let e = named in cc) in
    let page = subst (λ (m : List ℕ). IsNoPassiveAnswer setup.entity m asked.request asked.consumer asked.relay now sent)
    (sym first) answers in
    carried_to setup held request (spoke setup.id_key (next_number held) now ask) r sent bytes same spelled
    (ARefusal _ (record {
      asked = asked;
      peer = peer;
      asks = asks;
      passive = passive;
      peer_is = refl;
      request_is = refl;
    }) page (refusal_unsigned _ _ _ _ _ now sent page))
carried law setup held request now answer bytes adds r shown some
    (steps.ByAsking asked peer id asks none passive adding named full) =
    let ask = ask_of asked peer in
    let same : pending setup.id_key (next_number held) now ask ≡ r = (let e = sym adding ∙ some in cc) in
    let spelled : login_answer id ≡ bytes = (let e = sym full ∙ shown in cc) in
    let first : id ≡ id_text setup.id_key PendingId (next_number held) = (let e = named in cc) in
    carried_to setup held request (pending setup.id_key (next_number held) now ask) r (login_answer id) bytes same
    spelled (AQuestion _ (ap login_answer first))
carried law setup held request now answer bytes adds r shown some
    (steps.ByLogin t row peer user other sent to posted pends accepted drafted adding answers full) =
    let same : kinds.Issued other ≡ r = (let e = sym adding ∙ some in cc) in
    let spelled : sent ≡ bytes = (let e = sym full ∙ shown in cc) in
    let made =
    the_issued other (login setup.id_key (next_number held) now row user.name user.attributes) _ drafted refl in
    let known_as = subst (λ (e : List ℕ). IsPeer setup e peer) (ap (λ (i : Issued). i.peer) made) pends.1 in
    carried_to setup held request (kinds.Issued other) r sent bytes same spelled
    (carries_issued setup held request peer other (Some other.cookie) now sent known_as
    (sym (ap (λ (i : Issued). i.moment) made))
    (ap (option_map (λ (p : List ℕ). session_cookie other.cookie)) (ap (λ (i : Issued). i.pending) made)) answers)
carried law setup held request now answer bytes adds r shown some
    (steps.ByLeaving row left sent to live alone drafted adding answers full) =
    let same : kinds.Left left ≡ r = (let e = sym adding ∙ some in cc) in
    let spelled : sent ≡ bytes = (let e = sym full ∙ shown in cc) in
    let made = the_left left (left_by setup.id_key held now row.cookie) _ drafted refl in
    carried_to setup held request (kinds.Left left) r sent bytes same spelled
    (carries_leaving setup held request left row now sent (sym (ap (λ (l : Left). l.moment) made))
    (is_left held left row request now (ap (λ (l : Left). l.moment) made) (ap (λ (l : Left). l.cookie) made) live)
    answers)
carried law setup held request now answer bytes adds r shown some
    (steps.ByLeavingAll row begun sent to live others drafted adding first full) =
    let same : kinds.Round begun ≡ r = (let e = sym adding ∙ some in cc) in
    let spelled : sent ≡ bytes = (let e = sym full ∙ shown in cc) in
    let made = the_round begun (round_by setup held now None (row.cookie ∷ [])) _ drafted refl in
    carried_to setup held request (kinds.Round begun) r sent bytes same spelled
    (carries_first setup held request begun now sent (sym (ap (λ (b : Round). b.moment) made)) first)
carried law setup held request now answer bytes adds r shown some
    (steps.ByEnding asked peer relay ended sent to asks some_end alone drafted adding answers full) =
    let same : kinds.Ended ended ≡ r = (let e = sym adding ∙ some in cc) in
    let spelled : sent ≡ bytes = (let e = sym full ∙ shown in cc) in
    let made = the_ended ended (ended_by setup.id_key held now peer.peer.entity asked) _ drafted refl in
    let known_as =
    subst (λ (e : List ℕ). IsPeer setup e peer) (ap (λ (l : Ended). l.peer) made)
    (asking_peer law setup request now asked peer relay asks) in
    carried_to setup held request (kinds.Ended ended) r sent bytes same spelled
    (carries_ending setup held request ended relay now sent peer known_as (sym (ap (λ (l : Ended). l.moment) made))
    answers)
carried law setup held request now answer bytes adds r shown some
    (steps.ByEndingAll asked peer relay begun sent to asks some_end others drafted adding first full) =
    let same : kinds.Round begun ≡ r = (let e = sym adding ∙ some in cc) in
    let spelled : sent ≡ bytes = (let e = sym full ∙ shown in cc) in
    let made =
    the_round begun (round_by setup held now (Some (asker_of peer asked relay))
    (ending_by held now peer.peer.entity asked)) _ drafted refl in
    carried_to setup held request (kinds.Round begun) r sent bytes same spelled
    (carries_first setup held request begun now sent (sym (ap (λ (b : Round). b.moment) made)) first)
carried law setup held request now answer bytes adds r shown some
    (steps.ByTold response peer row told sent to replies waits drafted adding answers full) =
    let same : kinds.Told told ≡ r = (let e = sym adding ∙ some in cc) in
    let spelled : sent ≡ bytes = (let e = sym full ∙ shown in cc) in
    let confirms = not (is_in_part response.outcome) in
    let has =
    has_answer setup.id_key (next_number held) now response.request confirms (is_turn_left row) told drafted in
    let found = waiting_turn setup held now response.request peer.peer.entity row waits in
    carried_to setup held request (kinds.Told told) r sent bytes same spelled
    (carries_told setup held request told row confirms now sent has.moment_is (sym has.confirms_is) (
      peer.peer.entity,
      subst (λ (q : List ℕ). turn_found (rows_of held.records).rounds q peer.peer.entity told.moment
          held.header.horizon ≡ Some row) (sym has.request_is)
          (subst (λ (m : ℕ). turn_found (rows_of held.records).rounds response.request peer.peer.entity m
          held.header.horizon ≡ Some row) (sym has.moment_is) found),
    ) answers)
carried law setup held request now answer bytes adds r shown some
    (steps.ByConfirming response peer to replies no_round waits adding full) =
    let same : confirmed now response.request ≡ r = (let e = sym adding ∙ some in cc) in
    let partial = is_in_part response.outcome in
    let spelled : end_answer partial ≡ bytes = (let e = sym full ∙ shown in cc) in
    carried_to setup held request (confirmed now response.request) r (end_answer partial) bytes same spelled
    (AnEnd (confirmed now response.request) partial tt refl)
carried law setup held request now answer bytes adds r shown some other =
    absurd (let says = (said setup held request now answer adds other).is in cc)

pub each_signed : IsAtItsPlace → EachSignedElementIsOfARecord
each_signed law setup held request now bytes r answers =
    carried law setup held request now (Full bytes) bytes (Some r) r refl refl answers

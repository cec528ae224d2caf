-- Wherever sessions are ended.
use Rattle.std.specs.Prelude.{slice_get}
use Rattle.std.proofs.Common.{◌≡◌, ◌⊎◌, inl, inr, ℕ, Bool, true, false, ◌||◌, if◌then◌else◌, List, [], ◌∷◌, Option, None, Some, sym, subst, refl, ap, ◌∙◌}
use Rattle.std.specs.List.{list_any}
use Rattle.std.specs.Str.{bytes_eq}
use Rattle.std.proofs.lemmas.Bool.{false≢true, or_cases}
use Rattle.crash_disk.specs.Counts.{Rose}
use Rattle.http_wire.specs.declared.answer.Answer.{Answer}
use Rattle.http_wire.specs.declared.answer.Answer.TheVariants.{Full}
use Rattle.http_wire.specs.Requests.{Request}
use Rattle.ledger_records.specs.declared.idp_record.IdpRecord.{IdpRecord}
use Rattle.ledger_records.specs.declared.idp_record.IdpRecord.TheVariants as kinds
use Rattle.logout_profile.specs.declared.logout.Logout.{Logout as Message}
use Rattle.logout_profile.specs.declared.logout.Logout.TheVariants as messages
use Rattle.logout_profile.specs.Verdict.{IsAccepted, IsRefused}
use Rattle.peer_keys.specs.declared.peers.LogoutPeer.{LogoutPeer}
use Rattle.protocol_messages.specs.declared.logout.LogoutRequest.{LogoutRequest}
use Rattle.protocol_messages.specs.declared.logout.LogoutResponse.{LogoutResponse}
use Rattle.verdict_codes.specs.declared.codes.Verdict.{Verdict}
use Rattle.idp_rows.specs.declared.row.SessionRow.{SessionRow}
use Rattle.idp_rows.specs.Finding.{is_empty, is_ending}
use Rattle.idp_ledger.specs.Laws.{AnswerAlike, CompactionsChangeNoAnswer}
use Rattle.idp_ledger.specs.Ledger.{Held}
use Rattle.record_ledger.specs.Ledger.{held_with}
use Rattle.idp_rows.specs.RowsOf.{ends, is_among, issued_rows, session_rows}
use Rattle.idp_ledger.specs.Record.{idp_rules}
use Rattle.record_ledger.proofs.Words.{same_text, text_itself}
use Rattle.idp_ledger.proofs.RowTexts.{any_there}
use Rattle.idp_rules.specs.declared.config.IdpConfig.{IdpConfig}
use Rattle.provider_node.proofs.Sessions.{chosen_there, found_itself, shut_among, shut_one, some_among}
use Rattle.provider_node.proofs.Wanted.{IsBehind, alike_behind, holds_of_wanted}
use Rattle.idp_server.specs.Histories.{IsEnded}
use Rattle.logout_turns.specs.declared.part.Asker.{Asker}
use Rattle.idp_server.specs.Logouts.{AnswersEndExactly, EndsOver, IsOfLogoutIfEnding, LeavesOver, SessionsEndBeforeTheAnswer, WhereverAPeerEnds, WhereverAUserLeaves, ending_record, leaving_record}
use Rattle.idp_server.specs.Replies.{OfPeer, OfUser}
use Rattle.idp_server.specs.Rounds.{asks_others, round_by}
use Rattle.idp_server.specs.Step as steps
use Rattle.idp_server.specs.Step.{Answers, AsksToEnd, RepliesTo, asker_of, ended_by, ending_by, left_by, session_for}
use Rattle.idp_server.proofs.Alike.{alike_self, session_alike}
use Rattle.idp_server.proofs.StayingEnded.{begun_sessions, ended_behind}
use Rattle.idp_server.proofs.Told.{said}
use Rattle.idp_server.specs.Issues.{IsPosted}
use Rattle.provider_node.specs.Recorded.{WhatIsAnsweredIsRecorded}

-- ---- a user who leaves

-- the session of a row that lives is there
there_is : (held : Held) (now : ℕ) (request : Request) (row : SessionRow) → session_for held now request ≡ Some row
    → list_any (λ (s : SessionRow). bytes_eq s.cookie row.cookie) (session_rows held.records) ≡ true
there_is held now request row live =
    (found_itself begun_sessions (session_rows held.records) now held.header.horizon _ row live).there

-- it is ended behind a record that ends its cookie, and behind one that lists it
left_ends : (key : List ℕ) (held : Held) (now : ℕ) (request : Request) (row : SessionRow)
    → session_for held now request ≡ Some row → IsEnded (held_with (left_by key held now row.cookie) held) row.cookie
left_ends key held now request row live =
    ended_behind held (left_by key held now row.cookie) row.cookie
    (shut_one begun_sessions (session_rows held.records) _ row.cookie refl (there_is held now request row live))

pub round_ends : (setup : IdpConfig) (held : Held) (now : ℕ) (asker : Option Asker) (cookies : List (List ℕ))
    (cookie : List ℕ) → list_any (λ (s : SessionRow). bytes_eq s.cookie cookie) (session_rows held.records) ≡ true
    → is_among cookie cookies ≡ true → IsEnded (held_with (round_by setup held now asker cookies) held) cookie
round_ends setup held now asker cookies cookie there among =
    ended_behind held (round_by setup held now asker cookies) cookie
    (shut_among begun_sessions (session_rows held.records) _ cookie cookies refl there among)

itself_among : (cookie : List ℕ) → is_among cookie (cookie ∷ []) ≡ true
itself_among cookie = ap (λ (b : Bool). b || false) (text_itself cookie)

leaving_ends : (setup : IdpConfig) (held : Held) (now : ℕ) (request : Request) (row : SessionRow)
    → session_for held now request ≡ Some row
    → IsEnded (held_with (leaving_record setup held now row.cookie) held) row.cookie
leaving_ends setup held now request row live = by_others (asks_others setup held None (row.cookie ∷ []))
  where
    by_others : (b : Bool) → IsEnded (held_with (if b then round_by setup held now None (row.cookie ∷ []) else left_by
        setup.id_key held now row.cookie) held) row.cookie
    by_others true =
        round_ends setup held now None (row.cookie ∷ []) row.cookie (there_is held now request row live)
        (itself_among row.cookie)
    by_others false = left_ends setup.id_key held now request row live

chosen_where : (b : Bool) (one other : IdpRecord) → b ≡ true → (if b then one else other) ≡ one
chosen_where true one other is = refl
chosen_where false one other is = absurd (cc)

other_where : (b : Bool) (one other : IdpRecord) → b ≡ false → (if b then one else other) ≡ other
other_where true one other is = absurd (cc)
other_where false one other is = refl

left_added : (setup : IdpConfig) (held : Held) (request : Request) (now : ℕ) (answer : Answer) (adds : Option IdpRecord)
    (row : SessionRow) → LeavesOver held request now row
    → Answers setup held request now answer adds → adds ≡ Some (leaving_record setup held now row.cookie)
left_added setup held request now answer adds row over (steps.ByNoSession to none is nothing) =
    absurd (let e = sym none ∙ over.live in cc)
left_added setup held request now answer adds row over (steps.ByLeaving other r bytes to live alone drafted adding
    answers full) =
    let some : Some other ≡ Some row = sym live ∙ over.live in
    let same : other ≡ row = cc in
    let chosen =
    other_where (asks_others setup held None (other.cookie ∷ [])) (round_by setup held now None (other.cookie ∷ []))
    (left_by setup.id_key held now other.cookie) alone in
    adding ∙ ap Some (sym drafted) ∙ ap Some (sym chosen)
    ∙ ap (λ (s : SessionRow). Some (leaving_record setup held now s.cookie)) same
left_added setup held request now answer adds row over (steps.ByLeavingAll other r bytes to live asks drafted adding
    first full) =
    let some : Some other ≡ Some row = sym live ∙ over.live in
    let same : other ≡ row = cc in
    let chosen =
    chosen_where (asks_others setup held None (other.cookie ∷ [])) (round_by setup held now None (other.cookie ∷ []))
    (left_by setup.id_key held now other.cookie) asks in
    adding ∙ ap Some (sym drafted) ∙ ap Some (sym chosen)
    ∙ ap (λ (s : SessionRow). Some (leaving_record setup held now s.cookie)) same
left_added setup held request now answer adds row over other =
    absurd (let says = (said setup held request now answer adds other).is in cc)

pub wherever_left : CompactionsChangeNoAnswer → WhereverAUserLeaves
wherever_left same found request now faults later answer old new row serves over room calm =
    holds_of_wanted idp_rules Answers found request now (Rose faults later) answer old new
    (λ held. leaving_record old.setup held now row.cookie)
    (λ held behind other adds answers. left_added old.setup held request now other adds row (leaves held behind)
    answers)
    (λ held. IsEnded held row.cookie)
    (λ held behind. leaving_ends old.setup held now request row (leaves held behind).live) room calm serves
  where
    leaves : (held : Held) → IsBehind idp_rules found now held → LeavesOver held request now row
    leaves held behind = record {
      posted = over.posted;
      live =
          session_alike now held found request (alike_behind idp_rules found now AnswerAlike alike_self same held
          behind)
          ∙ over.live;
    }

-- ---- a peer that asks

-- a form that is obeyed asks one thing, and is not refused
pub record IsOneLogout : Type 0 where
  pub obeyed : (peers : List LogoutPeer) (second : Option (List ℕ)) (address : List ℕ) (skew now : ℕ) (body : List ℕ)
      (logout : Message) (verdict : Verdict)
      → IsAccepted peers second address skew now body logout → ¬ (IsRefused peers second address skew now body verdict)
  pub once : (peers : List LogoutPeer) (second : Option (List ℕ)) (address : List ℕ) (skew now : ℕ) (body : List ℕ)
      (one other : Message)
      → IsAccepted peers second address skew now body one → IsAccepted peers second address skew now body other
      → one ≡ other

ending_there : (held : Held) (now : ℕ) (peer : List ℕ) (asked : LogoutRequest) (cookie : List ℕ)
    → is_among cookie (ending_by held now peer asked) ≡ true
    → list_any (λ (s : SessionRow). bytes_eq s.cookie cookie) (session_rows held.records) ≡ true
ending_there held now peer asked cookie among =
    chosen_there begun_sessions (session_rows held.records) cookie
    (is_ending now held.header.horizon peer asked.name asked.indexes (issued_rows held.records)) among

ended_ends : (key : List ℕ) (held : Held) (now : ℕ) (peer : List ℕ) (asked : LogoutRequest) (cookie : List ℕ)
    → is_among cookie (ending_by held now peer asked) ≡ true
    → IsEnded (held_with (ended_by key held now peer asked) held) cookie
ended_ends key held now peer asked cookie among =
    ended_behind held (ended_by key held now peer asked) cookie
    (shut_among begun_sessions (session_rows held.records) _ cookie (ending_by held now peer asked) refl
    (ending_there held now peer asked cookie among) among)

ending_ends : (setup : IdpConfig) (held : Held) (now : ℕ) (peer : LogoutPeer) (asked : LogoutRequest)
    (relay : Option (List ℕ)) (cookie : List ℕ)
    → is_among cookie (ending_by held now peer.peer.entity asked) ≡ true
    → IsEnded (held_with (ending_record setup held now peer asked relay) held) cookie
ending_ends setup held now peer asked relay cookie among =
    by_others (asks_others setup held (Some (asker_of peer asked relay)) (ending_by held now peer.peer.entity asked))
  where
    by_others : (b : Bool)
        → IsEnded (held_with (if b then round_by setup held now (Some (asker_of peer asked relay))
        (ending_by held now peer.peer.entity asked)
        else ended_by setup.id_key held now peer.peer.entity asked) held) cookie
    by_others true =
        round_ends setup held now (Some (asker_of peer asked relay)) (ending_by held now peer.peer.entity asked) cookie
        (ending_there held now peer.peer.entity asked cookie among) among
    by_others false = ended_ends setup.id_key held now peer.peer.entity asked cookie among

-- ---- what a record ends that is added

only_one : (one cookie : List ℕ) → is_among cookie (one ∷ []) ≡ true → one ≡ cookie
only_one one cookie among = elim (or_cases (bytes_eq one cookie) false among) [
  | inl here ↦ same_text one cookie here
  | inr none ↦ absurd (false≢true none)
]

pub ends_behind : (setup : IdpConfig) (held : Held) (request : Request) (now : ℕ) (r : IdpRecord) (cookie : List ℕ)
    → IsOfLogoutIfEnding setup held request now r → ends cookie r ≡ true
    → IsEnded (held_with r held) cookie
ends_behind setup held request now (kinds.Ended r) cookie of ending =
    let among = subst (λ (cs : List (List ℕ)). is_among cookie cs ≡ true) of.cookies_are ending in
    ended_behind held (kinds.Ended r) cookie
    (shut_among begun_sessions (session_rows held.records) _ cookie r.cookies refl
    (ending_there held now of.peer.peer.entity of.asked cookie among) ending)
ends_behind setup held request now (kinds.Left r) cookie of ending =
    let rows = session_rows held.records in
    let own = subst (λ (c : List ℕ). bytes_eq of.row.cookie c ≡ true) of.named (text_itself of.row.cookie) in
    subst (IsEnded (held_with (kinds.Left r) held)) (same_text r.cookie cookie ending)
    (ended_behind held (kinds.Left r) r.cookie
    (shut_one begun_sessions rows _ r.cookie refl
    (any_there (λ (s : SessionRow). bytes_eq s.cookie r.cookie) rows of.place of.row of.there own)))
ends_behind setup held request now (kinds.Round r) cookie of ending =
    ended_behind held (kinds.Round r) cookie
    (shut_among begun_sessions (session_rows held.records) _ cookie r.cookies refl (there of.of) ending)
  where
    there : OfUser held request now r.cookies r.asker ⊎ OfPeer setup held request now r.cookies r.asker
        → list_any (λ (s : SessionRow). bytes_eq s.cookie cookie) (session_rows held.records) ≡ true
    there (inl u) =
        let same =
        only_one u.row.cookie cookie (subst (λ (cs : List (List ℕ)). is_among cookie cs ≡ true) u.cookies_are ending) in
        subst (λ (c : List ℕ). list_any (λ (s : SessionRow). bytes_eq s.cookie c) (session_rows held.records) ≡ true)
        same (there_is held now request u.row u.live)
    there (inr p) =
        ending_there held now p.peer.peer.entity p.asked cookie
        (subst (λ (cs : List (List ℕ)). is_among cookie cs ≡ true) p.cookies_are ending)
ends_behind setup held request now other cookie of ending = absurd (false≢true ending)

pub sessions_end_before : AnswersEndExactly → WhatIsAnsweredIsRecorded idp_rules Answers IsPosted
    → SessionsEndBeforeTheAnswer
sessions_end_before only law old new disk later request now before after bytes does own of =
    let is = law old new disk later request now before after bytes does own (inr (inr of)) in
    record {
      recorded = is;
      ended = λ cookie ending.
          ends_behind old.setup is.held request now is.r cookie
          (only old.setup is.held request now (Full bytes) is.r is.stands) ending;
    }

-- one request of one peer, with one relay
record AreSame (one other : LogoutRequest) (peer another : LogoutPeer) (relay more : Option (List ℕ)) : Type 0 where
  asked : one ≡ other
  peers : peer ≡ another
  relays : relay ≡ more

abbrev asked_in : Message → Option LogoutRequest
asked_in (messages.Ask request place relay) = Some request
asked_in (messages.Reply response place) = None

abbrev place_in : Message → Option ℕ
place_in (messages.Ask request place relay) = Some place
place_in (messages.Reply response place) = None

abbrev relay_in : Message → Option (Option (List ℕ))
relay_in (messages.Ask request place relay) = Some relay
relay_in (messages.Reply response place) = None

module _ (law : IsOneLogout) where
  one_asks : (setup : IdpConfig) (request : Request) (now : ℕ) (one other : LogoutRequest) (peer another : LogoutPeer)
      (relay more : Option (List ℕ))
      → AsksToEnd setup request now one peer relay → AsksToEnd setup request now other another more
      → AreSame one other peer another relay more
  one_asks setup request now one other peer another relay more first second =
      let same = law.once _ _ _ _ now request.body _ _ first.obeyed second.obeyed in
      let asked : Some one ≡ Some other = ap asked_in same in
      let placed : Some first.place ≡ Some second.place = ap place_in same in
      let place : first.place ≡ second.place = cc in
      let both : Some peer ≡ Some another =
      sym first.there ∙ ap (λ (p : ℕ). slice_get setup.peers p) place ∙ second.there in
      let relays : Some relay ≡ Some more = ap relay_in same in
      record { asked = cc; peers = cc; relays = cc }

  no_reply : (setup : IdpConfig) (request : Request) (now : ℕ) (asked : LogoutRequest) (peer : LogoutPeer)
      (relay : Option (List ℕ)) (response : LogoutResponse)
      (who : LogoutPeer) → AsksToEnd setup request now asked peer relay → RepliesTo setup request now response who → ⊥
  no_reply setup request now asked peer relay response who asks replies =
      let same = law.once _ _ _ _ now request.body _ _ asks.obeyed replies.obeyed in
      let clash : Some asked ≡ None = ap asked_in same in
      cc

  one_record : (setup : IdpConfig) (held : Held) (now : ℕ) (one other : LogoutRequest) (peer another : LogoutPeer)
      (relay more : Option (List ℕ)) → AreSame one other peer another relay more
      → Some (ending_record setup held now peer one relay) ≡ Some (ending_record setup held now another other more)
  one_record setup held now one other peer another relay more same =
      ap (λ (p : LogoutPeer). Some (ending_record setup held now p one relay)) same.peers
      ∙ ap (λ (x : LogoutRequest). Some (ending_record setup held now another x relay)) same.asked
      ∙ ap (λ (r : Option (List ℕ)). Some (ending_record setup held now another other r)) same.relays

  ended_added : (setup : IdpConfig) (held : Held) (request : Request) (now : ℕ) (answer : Answer)
      (adds : Option IdpRecord) (asked : LogoutRequest) (peer : LogoutPeer) (cookie : List ℕ)
      → (over : EndsOver setup request now asked peer) → is_among cookie
      (ending_by held now peer.peer.entity asked) ≡ true → Answers setup held request now answer adds
      → adds ≡ Some (ending_record setup held now peer asked over.relay)
  ended_added setup held request now answer adds asked peer cookie over among
      (steps.ByLogoutVerdict verdict to refused is none) =
      absurd (law.obeyed _ _ _ _ now request.body _ verdict over.asks.obeyed refused)
  ended_added setup held request now answer adds asked peer cookie over among
      (steps.ByNothingToEnd other another more to asks nothing is none) =
      let same = one_asks setup request now other asked another peer more over.relay asks over.asks in
      absurd (some_among cookie (ending_by held now peer.peer.entity asked) among
      (subst (λ (p : LogoutPeer). is_empty (ending_by held now p.peer.entity asked) ≡ true) same.peers
      (subst (λ (x : LogoutRequest). is_empty (ending_by held now another.peer.entity x) ≡ true) same.asked nothing)))
  ended_added setup held request now answer adds asked peer cookie over among
      (steps.ByEnding other another more r bytes to asks some alone drafted adding answers full) =
      let same = one_asks setup request now other asked another peer more over.relay asks over.asks in
      let chosen =
      other_where (asks_others setup held (Some (asker_of another other more))
      (ending_by held now another.peer.entity other))
      (round_by setup held now (Some (asker_of another other more)) (ending_by held now another.peer.entity other))
      (ended_by setup.id_key held now another.peer.entity other) alone in
      adding ∙ ap Some (sym drafted) ∙ ap Some (sym chosen)
      ∙ one_record setup held now other asked another peer more over.relay same
  ended_added setup held request now answer adds asked peer cookie over among
      (steps.ByEndingAll other another more r bytes to asks some others drafted adding first full) =
      let same = one_asks setup request now other asked another peer more over.relay asks over.asks in
      let chosen =
      chosen_where (asks_others setup held (Some (asker_of another other more))
      (ending_by held now another.peer.entity other))
      (round_by setup held now (Some (asker_of another other more)) (ending_by held now another.peer.entity other))
      (ended_by setup.id_key held now another.peer.entity other) others in
      adding ∙ ap Some (sym drafted) ∙ ap Some (sym chosen)
      ∙ one_record setup held now other asked another peer more over.relay same
  ended_added setup held request now answer adds asked peer cookie over among
      (steps.ByTold response who row r bytes to replies waits drafted adding answers full) =
      absurd (no_reply setup request now asked peer over.relay response who over.asks replies)
  ended_added setup held request now answer adds asked peer cookie over among
      (steps.ByUnknownLogout response who to replies no_round unknown is none) =
      absurd (no_reply setup request now asked peer over.relay response who over.asks replies)
  ended_added setup held request now answer adds asked peer cookie over among
      (steps.ByConfirming response who to replies no_round waits adding full) =
      absurd (no_reply setup request now asked peer over.relay response who over.asks replies)
  ended_added setup held request now answer adds asked peer cookie over among other =
      absurd (let says = (said setup held request now answer adds other).is in cc)

  pub wherever_ended : CompactionsChangeNoAnswer → WhereverAPeerEnds
  wherever_ended same found request now faults later answer old new asked peer cookie serves over among room calm =
      holds_of_wanted idp_rules Answers found request now (Rose faults later) answer old new
      (λ held. ending_record old.setup held now peer asked over.relay)
      (λ held behind other adds answers. ended_added old.setup held request now other adds asked peer cookie over
      (still held behind) answers)
      (λ held. IsEnded held cookie)
      (λ held behind. ending_ends old.setup held now peer asked over.relay cookie (still held behind)) room calm serves
    where
      still : (held : Held) → IsBehind idp_rules found now held
          → is_among cookie (ending_by held now peer.peer.entity asked) ≡ true
      still held behind =
          let like = alike_behind idp_rules found now AnswerAlike alike_self same held behind in
          subst (λ (cookies : List (List ℕ)). is_among cookie cookies ≡ true)
          (sym (like.ending peer.peer.entity asked.name asked.indexes)) among

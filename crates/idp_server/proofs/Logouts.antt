-- For what a session is ended.
use Rattle.std.proofs.Common.{◌≡◌, inl, inr, ℕ, true, false, not, Bool, List, [], ◌∷◌, Option, None, Some, refl, sym, subst, ap, ◌∙◌}
use Rattle.crash_disk.specs.Counts.{Rose}
use Rattle.http_wire.specs.declared.answer.Answer.{Answer}
use Rattle.http_wire.specs.Requests.{Request}
use Rattle.ledger_records.specs.declared.idp_record.Ended.{Ended}
use Rattle.ledger_records.specs.declared.idp_record.Left.{Left}
use Rattle.ledger_records.specs.declared.idp_round.Round.{Round}
use Rattle.ledger_records.specs.declared.idp_round.Told.{Told}
use Rattle.ledger_records.specs.declared.idp_record.IdpRecord.{IdpRecord}
use Rattle.ledger_records.specs.declared.idp_record.IdpRecord.TheVariants as kinds
use Rattle.idp_rows.specs.declared.row.SessionRow.{SessionRow}
use Rattle.idp_rows.specs.Finding.{is_empty, last_peer}
use Rattle.idp_rows.specs.RowsOf.{rows_of}
use Rattle.idp_ledger.specs.Record.{idp_rules}
use Rattle.idp_ledger.specs.Drafts.{confirmed, pending, spoke, told}
use Rattle.idp_ledger.specs.Ledger.{Held, next_number}
use Rattle.idp_rules.specs.declared.config.IdpConfig.{IdpConfig}
use Rattle.provider_node.proofs.Changes.{changes}
use Rattle.provider_node.proofs.Sessions.{found_itself}
use Rattle.service_routes.specs.declared.route.Route.TheVariants.{To}
use Rattle.idp_server.specs.declared.route.Service.TheVariants.{Logout}
use Rattle.idp_server.specs.Routes.{route}
use Rattle.idp_server.specs.Step as steps
use Rattle.idp_server.specs.Step.{Answers, ask_of, asker_of, ended_by, ending_by, left_by, session_for}
use Rattle.round_rows.specs.Rounds.{is_turn_left}
use Rattle.idp_server.specs.Rounds.{asks_others, round_by}
use Rattle.idp_server.specs.Logouts.{AnswersEndExactly, AsksAllOthers, IsOfLogoutIfEnding, IsOfPeerThatAsks, IsOfProviderInTurn, IsOfPeerThatReplies, IsOfUserWhoLeaves, ServicesEndExactly}
use Rattle.idp_server.proofs.StayingEnded.{begun_sessions}
use Rattle.idp_server.proofs.Told.{said}
use Rattle.logout_answers.specs.Answers.{is_in_part}

-- ---- the record of a kind

abbrev left_in : IdpRecord → Option Left
left_in (kinds.Left r) = Some r
left_in other = None

abbrev ended_in : IdpRecord → Option Ended
ended_in (kinds.Ended r) = Some r
ended_in other = None

abbrev pub round_in : IdpRecord → Option Round
round_in (kinds.Round r) = Some r
round_in other = None

abbrev told_in : IdpRecord → Option Told
told_in (kinds.Told r) = Some r
told_in other = None

pub the_left : (r : Left) (x : IdpRecord) (made : Left) → x ≡ kinds.Left r → left_in x ≡ Some made → made ≡ r
the_left r x made is has = let both : Some made ≡ Some r = sym has ∙ ap left_in is in cc

pub the_round : (r : Round) (x : IdpRecord) (made : Round) → x ≡ kinds.Round r → round_in x ≡ Some made → made ≡ r
the_round r x made is has = let both : Some made ≡ Some r = sym has ∙ ap round_in is in cc

pub the_told : (r : Told) (x : IdpRecord) (made : Told) → x ≡ kinds.Told r → told_in x ≡ Some made → made ≡ r
the_told r x made is has = let both : Some made ≡ Some r = sym has ∙ ap told_in is in cc

-- the fields of the record of an answer
pub record HasAnswer (now : ℕ) (request : List ℕ) (confirms : Bool) (r : Told) : Type 0 where
  pub moment_is : r.moment ≡ now
  pub request_is : r.request ≡ request
  pub confirms_is : r.confirmed ≡ confirms

pub has_answer : (key : List ℕ) (next now : ℕ) (request : List ℕ) (confirms left : Bool) (r : Told)
    → told key next now request confirms left ≡ kinds.Told r → HasAnswer now request confirms r
has_answer key next now request confirms true r is =
    let same = the_told r (told key next now request confirms true) _ is refl in
    record {
      moment_is = sym (ap (λ (t : Told). t.moment) same);
      request_is = sym (ap (λ (t : Told). t.request) same);
      confirms_is = sym (ap (λ (t : Told). t.confirmed) same);
    }
has_answer key next now request confirms false r is =
    let same = the_told r (told key next now request confirms false) _ is refl in
    record {
      moment_is = sym (ap (λ (t : Told). t.moment) same);
      request_is = sym (ap (λ (t : Told). t.request) same);
      confirms_is = sym (ap (λ (t : Told). t.confirmed) same);
    }

pub the_ended : (r : Ended) (x : IdpRecord) (made : Ended) → x ≡ kinds.Ended r → ended_in x ≡ Some made → made ≡ r
the_ended r x made is has = let both : Some made ≡ Some r = sym has ∙ ap ended_in is in cc

-- ---- why

of_user : (setup : IdpConfig) (held : Held) (request : Request) (now : ℕ) (row : SessionRow) (r : Left)
    → route request ≡ To Logout → session_for held now request ≡ Some row
    → asks_others setup held None (row.cookie ∷ []) ≡ false
    → left_by setup.id_key held now row.cookie ≡ kinds.Left r → IsOfUserWhoLeaves setup held request now r
of_user setup held request now row r to live alone drafted =
    let same = the_left r (left_by setup.id_key held now row.cookie) _ drafted refl in
    let found = found_itself begun_sessions (rows_of held.records).sessions now held.header.horizon _ row live in
    let left : row.cookie ≡ r.cookie = ap (λ (l : Left). l.cookie) same in
    record {
      to = to;
      cookie = found.named ∙ ap Some left;
      place = found.place;
      row = row;
      there = found.at;
      named = left;
      unended = found.unshut;
      seen = found.seen;
      alone = subst (λ (c : List ℕ). asks_others setup held None (c ∷ []) ≡ false) left alone;
      peer_is = sym (ap (λ (l : Left). l.peer) same) ∙ ap (last_peer (rows_of held.records).issues) left;
    }

ends_so : (setup : IdpConfig) (held : Held) (request : Request) (now : ℕ) (answer : Answer) (adds : Option IdpRecord)
    (r : IdpRecord) → adds ≡ Some r
    → Answers setup held request now answer adds → IsOfLogoutIfEnding setup held request now r
ends_so setup held request now answer adds r some (steps.ByIssuing asked peer row other bytes asks used drafted
    adding answers full) =
    let same : kinds.Issued other ≡ r = (let e = sym adding ∙ some in cc) in
    subst (IsOfLogoutIfEnding setup held request now) same tt
ends_so setup held request now answer adds r some (steps.ByPassive asked peer message bytes asks none passive
    adding named answers full) =
    let same : spoke setup.id_key (next_number held) now (ask_of asked peer) ≡ r = (let e = sym adding ∙ some in cc) in
    subst (IsOfLogoutIfEnding setup held request now) same tt
ends_so setup held request now answer adds r some (steps.ByAsking asked peer id asks none passive adding named
    full) =
    let same : pending setup.id_key (next_number held) now (ask_of asked peer) ≡ r =
    (let e = sym adding ∙ some in cc) in
    subst (IsOfLogoutIfEnding setup held request now) same tt
ends_so setup held request now answer adds r some (steps.ByLogin t row peer user other bytes to posted pending accepted
    drafted adding answers full) =
    let same : kinds.Issued other ≡ r = (let e = sym adding ∙ some in cc) in
    subst (IsOfLogoutIfEnding setup held request now) same tt
ends_so setup held request now answer adds r some (steps.ByLeaving row left bytes to live alone drafted adding answers
    full) =
    let same : kinds.Left left ≡ r = (let e = sym adding ∙ some in cc) in
    subst (IsOfLogoutIfEnding setup held request now) same (of_user setup held request now row left to live alone drafted)
ends_so setup held request now answer adds r some (steps.ByLeavingAll row begun bytes to live asks drafted adding first
    full) =
    let same : kinds.Round begun ≡ r = (let e = sym adding ∙ some in cc) in
    let made = the_round begun (round_by setup held now None (row.cookie ∷ [])) _ drafted refl in
    let of : AsksAllOthers setup held request now begun = subst (AsksAllOthers setup held request now) made (record {
      of = inl (record { to = to; row = row; live = live; cookies_are = refl; asker_is = refl });
      asks = asks;
      turns_are = refl;
      skips = refl;
    }) in
    subst (IsOfLogoutIfEnding setup held request now) same of
ends_so setup held request now answer adds r some (steps.ByEnding asked peer relay ended bytes to asks some_end alone
    drafted adding answers full) =
    let same : kinds.Ended ended ≡ r = (let e = sym adding ∙ some in cc) in
    let made = the_ended ended (ended_by setup.id_key held now peer.peer.entity asked) _ drafted refl in
    let of : IsOfPeerThatAsks setup held request now ended = record {
      to = to;
      asked = asked;
      peer = peer;
      relay = relay;
      asks = asks;
      cookies_are = sym (ap (λ (l : Ended). l.cookies) made);
      some = subst (λ (l : Ended). is_empty l.cookies ≡ false) made some_end;
      request_is = sym (ap (λ (l : Ended). l.request) made);
      peer_is = sym (ap (λ (l : Ended). l.peer) made);
      alone = subst (λ (l : Ended). asks_others setup held (Some (asker_of peer asked relay)) l.cookies ≡ false) made
          alone;
      partial_is = sym (ap (λ (l : Ended). l.partial) made);
    } in
    subst (IsOfLogoutIfEnding setup held request now) same of
ends_so setup held request now answer adds r some (steps.ByEndingAll asked peer relay begun bytes to asks some_end
    others drafted adding first full) =
    let same : kinds.Round begun ≡ r = (let e = sym adding ∙ some in cc) in
    let asker = Some (asker_of peer asked relay) in
    let made =
    the_round begun (round_by setup held now asker (ending_by held now peer.peer.entity asked)) _ drafted refl in
    let of : AsksAllOthers setup held request now begun = subst (AsksAllOthers setup held request now) made (record {
      of = inr (record {
        to = to;
        asked = asked;
        peer = peer;
        relay = relay;
        asks = asks;
        cookies_are = refl;
        some =
            some_end;
        asker_is = refl;
      });
      asks = others;
      turns_are = refl;
      skips = refl;
    }) in
    subst (IsOfLogoutIfEnding setup held request now) same of
ends_so setup held request now answer adds r some (steps.ByTold response peer row other bytes to replies waits drafted
    adding answers full) =
    let same : kinds.Told other ≡ r = (let e = sym adding ∙ some in cc) in
    let has =
    has_answer setup.id_key (next_number held) now response.request (not (is_in_part response.outcome))
    (is_turn_left row) other drafted in
    let of : IsOfProviderInTurn setup held request now other =
    record {
      to = to;
      response = response;
      peer = peer;
      replies = replies;
      row = row;
      waits = waits;
      request_is =
          has.request_is;
      confirms = has.confirms_is;
    } in
    subst (IsOfLogoutIfEnding setup held request now) same of
ends_so setup held request now answer adds r some (steps.ByConfirming response peer to replies no_round waits adding
    full) =
    let of : IsOfPeerThatReplies setup held request now (record { moment = now; request = response.request }) =
    record { to = to; response = response; peer = peer; replies = replies; request_is = refl; awaited = waits } in
    let same : confirmed now response.request ≡ r = (let e = sym adding ∙ some in cc) in
    subst (IsOfLogoutIfEnding setup held request now) same of
ends_so setup held request now answer adds r some other =
    absurd (let says = (said setup held request now answer adds other).is in cc)

pub answers_end_exactly : AnswersEndExactly
answers_end_exactly setup held request now answer r answers =
    ends_so setup held request now answer (Some r) r refl answers

pub services_end_exactly : ServicesEndExactly
services_end_exactly found request now before after answer old new serves unbroken =
    changes idp_rules Answers found request now (Rose before after) answer old new
    (λ held r. IsOfLogoutIfEnding old.setup held request now r)
    (λ held r answers. answers_end_exactly old.setup held request now answer r answers) unbroken serves

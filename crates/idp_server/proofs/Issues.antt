-- For what an Assertion is issued, for what a user is asked, and what stands behind an answer.
use Rattle.std.proofs.Common.{◌≡◌, inl, inr, ℕ, Bool, true, false, cond, not, ◌&&◌, List, Option, None, Some, refl, sym, ap, ◌∙◌}
use Rattle.std.specs.Option.{option_and_then}
use Rattle.std.specs.Str.{bytes_eq}
use Rattle.std.proofs.lemmas.Bool.{and_parts}
use Rattle.std.proofs.lemmas.Slice.Eq.{bytes_eq-Decides}
use Rattle.crash_disk.specs.Counts.{Rose}
use Rattle.http_wire.specs.declared.answer.Answer.{Answer}
use Rattle.http_wire.specs.declared.answer.Answer.TheVariants.{Full}
use Rattle.http_wire.specs.Requests.{Request}
use Rattle.ledger_records.specs.declared.idp_record.Issued.{Issued}
use Rattle.ledger_records.specs.declared.idp_record.Pending.{Pending}
use Rattle.ledger_records.specs.declared.idp_record.Spoke.{Spoke}
use Rattle.ledger_records.specs.declared.idp_record.IdpRecord.{IdpRecord}
use Rattle.ledger_records.specs.declared.idp_record.IdpRecord.TheVariants as kinds
use Rattle.peer_keys.specs.declared.peers.LogoutPeer.{LogoutPeer}
use Rattle.idp_rules.specs.declared.asked.Asked.{Asked}
use Rattle.idp_rows.specs.declared.row.PendingRow.{PendingRow}
use Rattle.idp_rows.specs.declared.row.SessionRow.{SessionRow}
use Rattle.idp_rows.specs.RowsOf.{rows_of}
use Rattle.idp_rows.specs.Finding.{session_found, visible}
use Rattle.idp_ledger.specs.Ledger.{Held, next_number}
use Rattle.idp_ledger.specs.Record.{idp_rules}
use Rattle.idp_ledger.specs.Draft.{issued_in}
use Rattle.idp_ledger.specs.Drafts.{issue, login, pending, spoke}
use Rattle.idp_rules.specs.declared.config.IdpConfig.{IdpConfig}
use Rattle.provider_node.proofs.Changes.{changes}
use Rattle.provider_node.proofs.Sessions as any
use Rattle.provider_node.proofs.Sessions.{found_at}
use Rattle.service_routes.specs.declared.route.Route.TheVariants.{To}
use Rattle.idp_server.specs.declared.route.Service.TheVariants.{Metadata}
use Rattle.idp_server.specs.Routes.{route}
use Rattle.idp_server.specs.Step as steps
use Rattle.idp_server.specs.Step.{Answers, AsksFor, ask_of, session_for, session_used}
use Rattle.idp_server.specs.Issues.{AnswersHaveAskers, AnswersHaveUsers, IsOfItsCause, IsOfSession, IsPosted}
use Rattle.idp_server.specs.Issues.{RefusalsHaveAskers, ServicesHaveUsers}
use Rattle.idp_server.specs.Signed.{NoOtherPageIsUnrecorded}
use Rattle.idp_server.proofs.StayingEnded.{begun_sessions}
use Rattle.idp_server.proofs.Told.{said}
use Rattle.provider_node.specs.Recorded.{WhatIsAnsweredIsRecorded}
use Rattle.provider_node.proofs.Recorded.{answered_recorded}

-- ---- what is found

pub off : (b : Bool) → not b ≡ true → b ≡ false
off true h = sym h
off false h = refl

-- an option that is followed
pub followed : {A B : Type 0} (f : A → Option B) (o : Option A) (b : B) → option_and_then f o ≡ Some b → (a : A)
    × (o ≡ Some a) × (f a ≡ Some b)
followed f None b is = absurd (cc)
followed f (Some a) b is = (a, refl, is)

-- the session that is used is that of the cookie
pub used_is : (force : Bool) (o : Option SessionRow) (row : SessionRow) → cond force None o ≡ Some row → o ≡ Some row
used_is true o row is = absurd (cc)
used_is false o row is = is

-- and none is used where the user has to be authenticated anew
unforced : (force : Bool) (o : Option SessionRow) (row : SessionRow) → cond force None o ≡ Some row → force ≡ false
unforced true o row is = absurd (cc)
unforced false o row is = refl

-- the session of a request is found by its own cookie
pub found_itself : (held : Held) (request : Request) (now : ℕ) (row : SessionRow)
    → session_for held now request ≡ Some row
    → session_found (rows_of held.records).sessions row.cookie now held.header.horizon ≡ Some row
found_itself held request now row live =
    (any.found_itself begun_sessions (rows_of held.records).sessions now held.header.horizon _ row live).again

-- ---- why a record is issued

-- the Issued that a record is
pub the_issued : (r : Issued) (x : IdpRecord) (made : Issued) → x ≡ kinds.Issued r → issued_in x ≡ Some made → made ≡ r
the_issued r x made is has = let both : Some made ≡ Some r = sym has ∙ ap issued_in is in cc

of_session : (setup : IdpConfig) (held : Held) (request : Request) (now : ℕ) (asked : Asked) (peer : LogoutPeer)
    (row : SessionRow) (r : Issued) → AsksFor setup request asked peer → session_used asked (session_for held now request) ≡ Some row
    → issue setup.id_key (next_number held) now row (ask_of asked peer) ≡ kinds.Issued r
    → IsOfSession setup held request now r
of_session setup held request now asked peer row r asks used is =
    let live = used_is asked.force (session_for held now request) row used in
    let same = the_issued r (issue setup.id_key (next_number held) now row (ask_of asked peer)) _ is refl in
    let found = any.found_itself begun_sessions (rows_of held.records).sessions now held.header.horizon _ row live in
    let drawn : row.cookie ≡ r.cookie = ap (λ (i : Issued). i.cookie) same in
    record {
      asked = asked;
      peer = peer;
      asks = asks;
      unforced = unforced asked.force (session_for held now request) row used;
      peer_is = sym (ap (λ (i : Issued). i.peer) same);
      request_is = sym (ap (λ (i : Issued). i.request) same);
      consumer_is = sym (ap (λ (i : Issued). i.consumer) same);
      relay_is = sym (ap (λ (i : Issued). i.relay) same);
      cookie = found.named ∙ ap Some drawn;
      place = found.place;
      row = row;
      there = found.at;
      named = drawn;
      unended = found.unshut;
      seen = found.seen;
      none_pending = sym (ap (λ (i : Issued). i.pending) same);
      user_is = sym (ap (λ (i : Issued). i.user) same);
      attributes_are = sym (ap (λ (i : Issued). i.attributes) same);
      index_is = sym (ap (λ (i : Issued). i.index) same);
      end_is = sym (ap (λ (i : Issued). i.session_end) same);
    }

pub answers_have_users : AnswersHaveUsers
answers_have_users setup held request now answer r (steps.ByIssuing asked peer row other bytes asks used drafted
    adding answers full) =
    let same : kinds.Issued other ≡ kinds.Issued r = cc in
    inr (of_session setup held request now asked peer row r asks used (drafted ∙ same))
answers_have_users setup held request now answer r (steps.ByLogin t row peer user other bytes to posted pending accepted
    drafted adding answers full) =
    let added : kinds.Issued other ≡ kinds.Issued r = cc in
    let same =
    the_issued r (login setup.id_key (next_number held) now row user.name user.attributes) _ (drafted ∙ added) refl in
    let found =
    found_at (λ (p : PendingRow). bytes_eq p.pending t.pending && not p.used && visible p.until now held.header.horizon)
    (rows_of held.records).pendings row pending.0 in
    let first =
    and_parts (bytes_eq row.pending t.pending && not row.used) (visible row.until now held.header.horizon) found.2 in
    let second = and_parts (bytes_eq row.pending t.pending) (not row.used) first.0 in
    inl (record {
      to = to;
      fields = t;
      posted = posted;
      place = found.0;
      row = row;
      there = found.1;
      named = (bytes_eq-Decides row.pending t.pending).0 second.0;
      unused = off row.used second.1;
      seen = first.1;
      user = user;
      accepted = accepted;
      pending_is = sym (ap (λ (i : Issued). i.pending) same);
      peer_is = sym (ap (λ (i : Issued). i.peer) same);
      request_is = sym (ap (λ (i : Issued). i.request) same);
      consumer_is = sym (ap (λ (i : Issued). i.consumer) same);
      relay_is = sym (ap (λ (i : Issued). i.relay) same);
      user_is = sym (ap (λ (i : Issued). i.user) same);
      attributes_are = sym (ap (λ (i : Issued). i.attributes) same);
    })
answers_have_users setup held request now answer r other =
    absurd (let says = (said setup held request now answer (Some (kinds.Issued r)) other).is in cc)

-- ---- who asked for it

-- the Pending or the Spoke that a record is
abbrev pending_in : IdpRecord → Option Pending
pending_in (kinds.Pending r) = Some r
pending_in other = None

abbrev spoke_in : IdpRecord → Option Spoke
spoke_in (kinds.Spoke r) = Some r
spoke_in other = None

the_pending : (r : Pending) (x : IdpRecord) (made : Pending) → x ≡ kinds.Pending r → pending_in x ≡ Some made → made ≡ r
the_pending r x made is has = let both : Some made ≡ Some r = sym has ∙ ap pending_in is in cc

the_spoke : (r : Spoke) (x : IdpRecord) (made : Spoke) → x ≡ kinds.Spoke r → spoke_in x ≡ Some made → made ≡ r
the_spoke r x made is has = let both : Some made ≡ Some r = sym has ∙ ap spoke_in is in cc

pub answers_have_askers : AnswersHaveAskers
answers_have_askers setup held request now answer r
    (steps.ByAsking asked peer id asks none askable adding named full) =
    let added : pending setup.id_key (next_number held) now (ask_of asked peer) ≡ kinds.Pending r = cc in
    let same = the_pending r (pending setup.id_key (next_number held) now (ask_of asked peer)) _ added refl in
    record {
      asked = asked;
      peer = peer;
      asks = asks;
      askable = askable;
      peer_is = sym (ap (λ (p : Pending). p.peer) same);
      request_is = sym (ap (λ (p : Pending). p.request) same);
      consumer_is = sym (ap (λ (p : Pending). p.consumer) same);
      relay_is = sym (ap (λ (p : Pending). p.relay) same);
    }
answers_have_askers setup held request now answer r other =
    absurd (let says = (said setup held request now answer (Some (kinds.Pending r)) other).is in cc)

pub refusals_have_askers : RefusalsHaveAskers
refusals_have_askers setup held request now answer r
    (steps.ByPassive asked peer message bytes asks none passive adding named answers full) =
    let added : spoke setup.id_key (next_number held) now (ask_of asked peer) ≡ kinds.Spoke r = cc in
    let same = the_spoke r (spoke setup.id_key (next_number held) now (ask_of asked peer)) _ added refl in
    record {
      asked = asked;
      peer = peer;
      asks = asks;
      passive = passive;
      peer_is = sym (ap (λ (s : Spoke). s.peer) same);
      request_is = sym (ap (λ (s : Spoke). s.request) same);
    }
refusals_have_askers setup held request now answer r other =
    absurd (let says = (said setup held request now answer (Some (kinds.Spoke r)) other).is in cc)

-- ---- what is behind each record

of_its_cause : (setup : IdpConfig) (held : Held) (request : Request) (now : ℕ) (answer : Answer) (r : IdpRecord)
    → Answers setup held request now answer (Some r)
    → IsOfItsCause setup held request now r
of_its_cause setup held request now answer (kinds.Pending r) answers =
    answers_have_askers setup held request now answer r answers
of_its_cause setup held request now answer (kinds.Issued r) answers =
    answers_have_users setup held request now answer r answers
of_its_cause setup held request now answer (kinds.Spoke r) answers =
    refusals_have_askers setup held request now answer r answers
of_its_cause setup held request now answer other answers = tt

pub services_have_users : ServicesHaveUsers
services_have_users found request now before after answer old new serves unbroken =
    changes idp_rules Answers found request now (Rose before after) answer old new
    (λ held r. IsOfItsCause old.setup held request now r)
    (λ held r answers. of_its_cause old.setup held request now answer r answers) unbroken serves

-- ---- what stands behind an answer

-- a page stands for a record, unless it is the metadata
none_plain : (setup : IdpConfig) (held : Held) (request : Request) (now : ℕ) (bytes : List ℕ) (adds : Option IdpRecord)
    → adds ≡ None
    → (route request ≡ To Metadata → ⊥) → Answers setup held request now (Full bytes) adds → ⊥
none_plain setup held request now bytes adds empty routed (steps.ByMetadata to is none) = routed to
none_plain setup held request now bytes adds empty routed other =
    let says = (said setup held request now (Full bytes) adds other).is in cc

-- and that it is
pub unrecorded : NoOtherPageIsUnrecorded
unrecorded setup held request now bytes (steps.ByMetadata to is none) = record { to = to; is = cc }
unrecorded setup held request now bytes other =
    absurd (let says = (said setup held request now (Full bytes) None other).is in cc)

not_metadata : (request : Request) → IsPosted request → route request ≡ To Metadata → ⊥
not_metadata request (inl at) to = let clash = sym at ∙ to in cc
not_metadata request (inr (inl at)) to = let clash = sym at ∙ to in cc
not_metadata request (inr (inr (inl at))) to = let clash = sym at ∙ to in cc
not_metadata request (inr (inr (inr at))) to = let clash = sym at ∙ to in cc

pub posted_recorded : WhatIsAnsweredIsRecorded idp_rules Answers IsPosted
posted_recorded =
    answered_recorded idp_rules Answers IsPosted (λ setup held request now bytes posted answers.
    none_plain setup held request now bytes None refl (not_metadata request posted) answers)

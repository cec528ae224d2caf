-- What an identity provider does at one request.
use Rattle.std.specs.Prelude.{◌≡◌, ℕ, Bool, true, false, not, List, [], ◌∷◌, codes, Option, None, Some, if◌then◌else◌, slice_get}
use Rattle.http_wire.specs.declared.answer.Answer.{Answer}
use Rattle.http_wire.specs.declared.answer.Answer.TheVariants.{Fixed, Full}
use Rattle.http_wire.specs.Requests.{Request}
use Rattle.http_wire.specs.Cookies.{cookie_value}
use Rattle.post_binding.specs.Form.{fields}
use Rattle.verdict_codes.specs.Codes.{number_of}
use Rattle.protocol_messages.specs.declared.logout.LogoutRequest.{LogoutRequest}
use Rattle.protocol_messages.specs.declared.logout.LogoutResponse.{LogoutResponse}
use Rattle.verdict_codes.specs.declared.codes.Verdict.{Verdict}
use Rattle.verdict_codes.specs.declared.codes.Verdict.TheVariants as verdicts
use Rattle.ledger_records.specs.declared.idp_record.Ended.{Ended}
use Rattle.ledger_records.specs.declared.idp_record.Issued.{Issued}
use Rattle.ledger_records.specs.declared.idp_record.Left.{Left}
use Rattle.ledger_records.specs.declared.idp_round.Round.{Round}
use Rattle.ledger_records.specs.declared.idp_round.Told.{Told}
use Rattle.logout_turns.specs.declared.part.Asker.{Asker}
use Rattle.round_rows.specs.declared.row.RoundRow.{RoundRow}
use Rattle.ledger_records.specs.declared.idp_record.IdpRecord.{IdpRecord}
use Rattle.ledger_records.specs.declared.idp_record.IdpRecord.TheVariants as kinds
use Rattle.peer_keys.specs.declared.peers.LogoutPeer.{LogoutPeer}
use Rattle.user_store.specs.Store.{checked}
use Rattle.user_store.specs.declared.user.User.{User}
use Rattle.idp_ledger.specs.declared.ask.Ask.{Ask}
use Rattle.idp_rows.specs.declared.row.PendingRow.{PendingRow}
use Rattle.idp_rows.specs.declared.row.SessionRow.{SessionRow}
use Rattle.idp_rows.specs.RowsOf.{rows_of}
use Rattle.idp_rows.specs.Finding.{ending, is_empty, is_partial, is_waiting_now, last_peer, pending_found, session_found}
use Rattle.idp_ledger.specs.Ledger.{Held, next_number}
use Rattle.idp_ledger.specs.Draft.{first_id}
use Rattle.idp_ledger.specs.Drafts.{confirmed, ended, issue, left, login, pending, spoke}
use Rattle.idp_rules.specs.Asking.{IsAsked}
use Rattle.idp_rules.specs.Config.{logout, sign_on}
use Rattle.idp_rules.specs.Verdict.{IsRefused}
use Rattle.idp_rules.specs.declared.asked.Asked.{Asked}
use Rattle.idp_rules.specs.declared.config.IdpConfig.{IdpConfig}
use Rattle.idp_answers.specs.Answers.{IsIssuedAnswer, IsNoPassiveAnswer, login_answer, metadata_answer}
use Rattle.logout_answers.specs.Answers.{end_answer, is_in_part}
use Rattle.logout_profile.specs.Verdict as logouts
use Rattle.logout_profile.specs.declared.logout.Logout.{Logout as Message}
use Rattle.logout_profile.specs.declared.logout.Logout.TheVariants as messages
use Rattle.provider_node.specs.Step as any
use Rattle.idp_server.specs.Logins.{login_of}
pub use Rattle.idp_server.specs.Messages.{IsPeer, IsLeavingAnswer, IsEndingAnswer}
use Rattle.idp_server.specs.Messages.{AsksFirst, IsToldAnswer}
use Rattle.idp_server.specs.Rounds.{asks_others, round_by, round_waiting, told_by}
use Rattle.service_routes.specs.declared.route.Route.TheVariants.{To, Refused}
use Rattle.idp_server.specs.declared.route.Service.TheVariants.{SignOn, Login, Metadata, Logout, SingleLogout}
use Rattle.idp_server.specs.Routes.{route}
use Rattle.owned_values.specs.Options.{◌>>=◌}

-- a provider: what it is set up with, and its ledger
abbrev pub Provider : Type 0
Provider = any.Provider IdpConfig IdpRecord

-- ---- what a request brings

-- the live session of the request's cookie
abbrev pub session_for : Held → ℕ → Request → Option SessionRow
session_for held now request = do
  cookie ← request.cookie >>= λ header. cookie_value header (codes "idp_sid")
  session_found (rows_of held.records).sessions cookie now held.header.horizon

-- the session in which an Assertion is issued at once: there is none where the user has to be authenticated anew (SAML
-- Core, 3.4.1, ForceAuthn)
abbrev pub session_used : Asked → Option SessionRow → Option SessionRow
session_used asked session = if asked.force then None else session

-- what is asked of the ledger for a request of this peer
abbrev pub ask_of : Asked → LogoutPeer → Ask
ask_of asked peer =
    record { request = asked.request; peer = peer.peer.entity; consumer = asked.consumer; relay = asked.relay }

-- the fields of the page of a pending login
pub record Typed : Type 0 where
  pub pending : List ℕ
  pub user : List ℕ
  pub password : List ℕ

abbrev pub typed_in : Option (List (List ℕ)) → Option Typed
typed_in (Some (pending ∷ user ∷ password ∷ [])) = Some (record { pending = pending; user = user; password = password })
typed_in _ = None

abbrev pub typed : List ℕ → Option Typed
typed body = typed_in (fields body (codes "pending" ∷ codes "user" ∷ codes "password" ∷ []))

-- the login that is pending, of a peer that is still known
abbrev pub IsPending : IdpConfig → Held → ℕ → List ℕ → PendingRow → LogoutPeer → Type 0
IsPending setup held now id row peer =
    (pending_found (rows_of held.records).pendings id now held.header.horizon ≡ Some row) × IsPeer setup row.peer peer

-- ---- what a request brings of a logout: SAML Profiles, 4.4

-- a posted form asks or replies this, or is refused with this verdict
abbrev pub IsObeyed : IdpConfig → ℕ → (body : List ℕ) → Message → Type 0
IsObeyed setup now body message = logouts.IsAccepted setup.peers None (logout setup) setup.skew now body message

abbrev pub IsNotObeyed : IdpConfig → ℕ → (body : List ℕ) → Verdict → Type 0
IsNotObeyed setup now body verdict = logouts.IsRefused setup.peers None (logout setup) setup.skew now body verdict

-- a posted form asks for a login of this peer
pub record AsksFor (setup : IdpConfig) (request : Request) (asked : Asked) (peer : LogoutPeer) : Type 0 where
  pub to : route request ≡ To SignOn
  pub is : IsAsked setup.peers (sign_on setup) request.body asked
  pub known : slice_get setup.peers asked.peer ≡ Some peer

-- a peer asks by a posted form to end sessions, and the form had this relay
pub record AsksToEnd (setup : IdpConfig) (request : Request) (now : ℕ) (asked : LogoutRequest) (peer : LogoutPeer)
    (relay : Option (List ℕ)) : Type 0 where
  pub place : ℕ
  pub there : slice_get setup.peers place ≡ Some peer
  pub obeyed : IsObeyed setup now request.body (messages.Ask asked place relay)

-- a peer replies by a posted form to a logout that began here
pub record RepliesTo (setup : IdpConfig) (request : Request) (now : ℕ) (response : LogoutResponse)
    (peer : LogoutPeer) : Type 0 where
  pub place : ℕ
  pub there : slice_get setup.peers place ≡ Some peer
  pub obeyed : IsObeyed setup now request.body (messages.Reply response place)

-- the cookies of the sessions that a peer asks to end: SAML Core, 3.7.3.2
abbrev pub ending_by : Held → ℕ → (peer : List ℕ) → LogoutRequest → List (List ℕ)
ending_by held now peer asked = ending now held.header.horizon peer asked.name asked.indexes (rows_of held.records)

-- the record that ends them
abbrev pub ended_by : (key : List ℕ) → Held → ℕ → (peer : List ℕ) → LogoutRequest → IdpRecord
ended_by key held now peer asked =
    ended key (next_number held) now (ending_by held now peer asked) asked.id peer
    (is_partial now held.header.horizon peer asked.name asked.indexes (rows_of held.records))

-- the record of a user who leaves the session of this cookie: the peer to which its last Assertion went is asked to end
-- it too
abbrev pub left_by : (key : List ℕ) → Held → ℕ → (cookie : List ℕ) → IdpRecord
left_by key held now cookie = left key (next_number held) now cookie (last_peer (rows_of held.records).issues cookie)

-- the peer that asks to end sessions, as one that waits for an answer
abbrev pub asker_of : LogoutPeer → LogoutRequest → (relay : Option (List ℕ)) → Asker
asker_of peer asked relay = record { peer = peer.peer.entity; request = asked.id; relay = relay }

-- whether a logout that began here waits for the reply to this request
abbrev pub is_awaited : Held → ℕ → (request : List ℕ) → Bool
is_awaited held now request = is_waiting_now (rows_of held.records).lefts request now held.header.horizon

-- ---- the answers that stand for records

-- the answer to a request for which this was issued, to this peer, with a cookie where a session began: SAML Profiles,
-- 4.1.4.2
abbrev pub IsAnswerFor : IdpConfig → LogoutPeer → Issued → (cookie : Option (List ℕ)) → ℕ → List ℕ → Type 0
IsAnswerFor setup peer r cookie now bytes =
    IsIssuedAnswer setup.mode peer.key_out (login_of setup.entity r) r.message r.consumer r.relay cookie now bytes

module _ (setup : IdpConfig) (held : Held) (request : Request) (now : ℕ) (answer : Answer)
    (adds : Option IdpRecord) where
  -- What is answered to a request by this ledger at this moment where nothing fails, and the record that is added with
  -- it.
  pub data Answers : Type 0 where
    -- there is no such service
    ByStatus : (status : ℕ) → route request ≡ Refused status → answer ≡ Fixed status → adds ≡ None → Answers
    -- the metadata
    ByMetadata : route request ≡ To Metadata → answer ≡ Full (metadata_answer setup.entity setup.base) → adds ≡ None
        → Answers
    -- a posted form that asks for no login
    ByVerdict : (verdict : Verdict) → route request ≡ To SignOn
        → IsRefused setup.peers (sign_on setup) request.body verdict → answer ≡ Fixed (number_of verdict) → adds ≡ None
        → Answers
    -- a login is asked for, and the user has a live session: an Assertion is issued in it
    ByIssuing : (asked : Asked) (peer : LogoutPeer) (row : SessionRow) (r : Issued) (bytes : List ℕ)
        → AsksFor setup request asked peer → session_used asked (session_for held now request) ≡ Some row
        → issue setup.id_key (next_number held) now row (ask_of asked peer) ≡ kinds.Issued r
        → adds ≡ Some (kinds.Issued r) → IsAnswerFor setup peer r None now bytes → answer ≡ Full bytes → Answers
    -- there is none, and the user may not be asked: SAML Core, 3.4.1, IsPassive
    ByPassive : (asked : Asked) (peer : LogoutPeer) (message bytes : List ℕ) → AsksFor setup request asked peer
        → session_used asked (session_for held now request) ≡ None → asked.passive ≡ true
        → adds ≡ Some (spoke setup.id_key (next_number held) now (ask_of asked peer))
        → first_id (spoke setup.id_key (next_number held) now (ask_of asked peer)) ≡ Some message
        → IsNoPassiveAnswer setup.entity message asked.request asked.consumer asked.relay now bytes
        → answer ≡ Full bytes → Answers
    -- there is none, and the user is asked for a password
    ByAsking : (asked : Asked) (peer : LogoutPeer) (id : List ℕ) → AsksFor setup request asked peer
        → session_used asked (session_for held now request) ≡ None → asked.passive ≡ false
        → adds ≡ Some (pending setup.id_key (next_number held) now (ask_of asked peer))
        → first_id (pending setup.id_key (next_number held) now (ask_of asked peer)) ≡ Some id
        → answer ≡ Full (login_answer id) → Answers
    -- what is posted is not the page of a login
    ByFields : route request ≡ To Login → typed request.body ≡ None → answer ≡ Fixed (number_of verdicts.BadForm)
        → adds ≡ None → Answers
    -- no such login is pending, or its peer is not known any more
    ByNoPending : (t : Typed) → route request ≡ To Login → typed request.body ≡ Some t
        → ((row : PendingRow) (peer : LogoutPeer) → ¬ (IsPending setup held now t.pending row peer))
        → answer ≡ Fixed (number_of verdicts.NoSuchPending) → adds ≡ None → Answers
    -- no user has this name and this password
    ByPassword : (t : Typed) (row : PendingRow) (peer : LogoutPeer) → route request ≡ To Login
        → typed request.body ≡ Some t → IsPending setup held now t.pending row peer
        → checked setup.users t.user t.password ≡ None → answer ≡ Fixed (number_of verdicts.LoginRefused) → adds ≡ None
        → Answers
    -- a user logs in: a session begins, and an Assertion is issued in it
    ByLogin : (t : Typed) (row : PendingRow) (peer : LogoutPeer) (user : User) (r : Issued) (bytes : List ℕ)
        → route request ≡ To Login → typed request.body ≡ Some t → IsPending setup held now t.pending row peer
        → checked setup.users t.user t.password ≡ Some user
        → login setup.id_key (next_number held) now row user.name user.attributes ≡ kinds.Issued r
        → adds ≡ Some (kinds.Issued r) → IsAnswerFor setup peer r (Some r.cookie) now bytes → answer ≡ Full bytes
        → Answers
    -- a user leaves who has no live session
    ByNoSession : route request ≡ To Logout → session_for held now request ≡ None
        → answer ≡ Fixed (number_of verdicts.NoSuchSession) → adds ≡ None → Answers
    -- a user leaves, and the session ends: nobody else is asked, or only the peer to which its last Assertion went
    ByLeaving : (row : SessionRow) (r : Left) (bytes : List ℕ) → route request ≡ To Logout
        → session_for held now request ≡ Some row → asks_others setup held None (row.cookie ∷ []) ≡ false
        → left_by setup.id_key held now row.cookie ≡ kinds.Left r → adds ≡ Some (kinds.Left r)
        → IsLeavingAnswer setup r row.user row.index now bytes → answer ≡ Full bytes → Answers
    -- a user leaves, the session ends, and each provider that it was used for is asked
    ByLeavingAll : (row : SessionRow) (r : Round) (bytes : List ℕ) → route request ≡ To Logout
        → session_for held now request ≡ Some row → asks_others setup held None (row.cookie ∷ []) ≡ true
        → round_by setup held now None (row.cookie ∷ []) ≡ kinds.Round r → adds ≡ Some (kinds.Round r)
        → AsksFirst setup r now bytes → answer ≡ Full bytes → Answers
    -- a posted form neither asks nor replies anything of a logout
    ByLogoutVerdict : (verdict : Verdict) → route request ≡ To SingleLogout → IsNotObeyed setup now request.body verdict
        → answer ≡ Fixed (number_of verdict) → adds ≡ None → Answers
    -- a peer asks to end sessions, and there are none of these
    ByNothingToEnd : (asked : LogoutRequest) (peer : LogoutPeer) (relay : Option (List ℕ))
        → route request ≡ To SingleLogout → AsksToEnd setup request now asked peer relay
        → is_empty (ending_by held now peer.peer.entity asked) ≡ true
        → answer ≡ Fixed (number_of verdicts.NoSuchSession) → adds ≡ None → Answers
    -- there are, and they end, and nobody else is asked
    ByEnding : (asked : LogoutRequest) (peer : LogoutPeer) (relay : Option (List ℕ)) (r : Ended) (bytes : List ℕ)
        → route request ≡ To SingleLogout → AsksToEnd setup request now asked peer relay
        → is_empty (ending_by held now peer.peer.entity asked) ≡ false
        → asks_others setup held (Some (asker_of peer asked relay)) (ending_by held now peer.peer.entity asked) ≡ false
        → ended_by setup.id_key held now peer.peer.entity asked ≡ kinds.Ended r → adds ≡ Some (kinds.Ended r)
        → IsEndingAnswer setup peer r relay now bytes → answer ≡ Full bytes → Answers
    -- there are, they end, and each other provider that they were used for is asked
    ByEndingAll : (asked : LogoutRequest) (peer : LogoutPeer) (relay : Option (List ℕ)) (r : Round) (bytes : List ℕ)
        → route request ≡ To SingleLogout → AsksToEnd setup request now asked peer relay
        → is_empty (ending_by held now peer.peer.entity asked) ≡ false
        → asks_others setup held (Some (asker_of peer asked relay)) (ending_by held now peer.peer.entity asked) ≡ true
        → round_by setup held now (Some (asker_of peer asked relay)) (ending_by held now peer.peer.entity asked)
        ≡ kinds.Round r → adds ≡ Some (kinds.Round r) → AsksFirst setup r now bytes → answer ≡ Full bytes → Answers
    -- the provider replies whose turn it is in a round: the next one is asked, or the round ends
    ByTold : (response : LogoutResponse) (peer : LogoutPeer) (row : RoundRow) (r : Told) (bytes : List ℕ)
        → route request ≡ To SingleLogout → RepliesTo setup request now response peer
        → round_waiting setup held now response.request peer.peer.entity ≡ Some row
        → told_by setup held now response.request (not (is_in_part response.outcome)) row ≡ kinds.Told r
        → adds ≡ Some (kinds.Told r) → IsToldAnswer setup row (not (is_in_part response.outcome)) r now bytes
        → answer ≡ Full bytes → Answers
    -- a peer replies to a logout that does not wait for a reply
    ByUnknownLogout : (response : LogoutResponse) (peer : LogoutPeer) → route request ≡ To SingleLogout
        → RepliesTo setup request now response peer
        → round_waiting setup held now response.request peer.peer.entity ≡ None
        → is_awaited held now response.request ≡ false → answer ≡ Fixed (number_of verdicts.UnknownLogout) → adds ≡ None
        → Answers
    -- it does, and the logout is over
    ByConfirming : (response : LogoutResponse) (peer : LogoutPeer) → route request ≡ To SingleLogout
        → RepliesTo setup request now response peer
        → round_waiting setup held now response.request peer.peer.entity ≡ None
        → is_awaited held now response.request ≡ true → adds ≡ Some (confirmed now response.request)
        → answer ≡ Full (end_answer (is_in_part response.outcome)) → Answers

-- ---- one request

-- When a session is ended, and what stands behind an answer to a logout.
use Rattle.std.specs.Prelude.{◌≡◌, ◌⊎◌, ℕ, true, false, not, List, [], ◌∷◌, codes, Option, None, Some, if◌then◌else◌, slice_get}
use Rattle.std.specs.Option.{option_and_then}
use Rattle.crash_disk.specs.Counts.{Rose}
use Rattle.crash_disk.specs.Disk.{DiskState}
use Rattle.http_wire.specs.declared.answer.Answer.{Answer}
use Rattle.http_wire.specs.declared.answer.Answer.TheVariants.{Fixed, Full}
use Rattle.http_wire.specs.Requests.{Request}
use Rattle.http_wire.specs.Cookies.{cookie_value}
use Rattle.ledger_records.specs.declared.idp_record.Ended.{Ended}
use Rattle.ledger_records.specs.declared.idp_record.Left.{Left}
use Rattle.ledger_records.specs.declared.idp_round.Round.{Round}
use Rattle.ledger_records.specs.declared.idp_round.Told.{Told}
use Rattle.ledger_records.specs.declared.idp_record.IdpRecord.{IdpRecord}
use Rattle.ledger_records.specs.declared.idp_record.IdpRecord.TheVariants as kinds
use Rattle.peer_keys.specs.declared.peers.LogoutPeer.{LogoutPeer}
use Rattle.protocol_messages.specs.declared.logout.LogoutRequest.{LogoutRequest}
use Rattle.protocol_messages.specs.declared.logout.LogoutResponse.{LogoutResponse}
use Rattle.ledger_records.specs.declared.idp_record.Confirmed.{Confirmed}
use Rattle.round_rows.specs.declared.row.RoundRow.{RoundRow}
use Rattle.idp_rows.specs.declared.row.SessionRow.{SessionRow}
use Rattle.idp_rows.specs.Finding.{is_empty, is_partial, last_peer, visible}
use Rattle.idp_rows.specs.RowsOf.{ends, is_among, rows_of}
use Rattle.idp_ledger.specs.Record.{idp_rules}
use Rattle.idp_ledger.specs.Ledger.{Held}
use Rattle.record_ledger.specs.Ledger.{held_with}
use Rattle.idp_rules.specs.declared.config.IdpConfig.{IdpConfig}
use Rattle.provider_node.specs.Changes as any
use Rattle.provider_node.specs.Room.{HasRoom}
use Rattle.provider_node.specs.declared.codes.TheConstants.{NO_MEMORY}
use Rattle.idp_server.specs.Histories.{IsEnded}
use Rattle.service_routes.specs.declared.route.Route.TheVariants.{To}
use Rattle.idp_server.specs.declared.route.Service.TheVariants.{Logout, SingleLogout}
use Rattle.idp_server.specs.Routes.{route, IsOfALogout}
use Rattle.idp_server.specs.Replies.{OfPeer, OfUser}
use Rattle.idp_server.specs.Rounds.{asks_others, round_by, round_waiting, skips_for, turns_for}
use Rattle.idp_server.specs.Step.{Provider, Answers, AsksToEnd, RepliesTo, asker_of, ended_by, ending_by, is_awaited, left_by, session_for}
use Rattle.provider_node.specs.Step.{Serves, Steps, OwnsDisk}
use Rattle.logout_answers.specs.Answers.{is_in_part}
use Rattle.provider_node.specs.Recorded.{IsRecorded}

-- ONLY

-- The user leaves by a POST, whose cookie is that of a session that is in the ledger, was not ended and is visible:
-- that session ends. Each other provider is not to be asked; the record names the one that its last Assertion went to.
pub record IsOfUserWhoLeaves (setup : IdpConfig) (held : Held) (request : Request) (now : ℕ) (r : Left) : Type 0 where
  pub to : route request ≡ To Logout
  pub cookie : option_and_then (λ header. cookie_value header (codes "idp_sid")) request.cookie ≡ Some r.cookie
  pub place : ℕ
  pub row : SessionRow
  pub there : slice_get (rows_of held.records).sessions place ≡ Some row
  pub named : row.cookie ≡ r.cookie
  pub unended : row.ended ≡ false
  pub seen : visible row.until now held.header.horizon ≡ true
  pub alone : asks_others setup held None (r.cookie ∷ []) ≡ false
  pub peer_is : r.peer ≡ last_peer (rows_of held.records).issues r.cookie

-- A LogoutRequest of a peer was posted and accepted, and the sessions that end are those that it asks to end, of which
-- there are some. Each other provider is not to be asked; the record says whether one of them got an Assertion.
pub record IsOfPeerThatAsks (setup : IdpConfig) (held : Held) (request : Request) (now : ℕ) (r : Ended) : Type 0 where
  pub to : route request ≡ To SingleLogout
  pub asked : LogoutRequest
  pub peer : LogoutPeer
  pub relay : Option (List ℕ)
  pub asks : AsksToEnd setup request now asked peer relay
  pub cookies_are : r.cookies ≡ ending_by held now peer.peer.entity asked
  pub some : is_empty r.cookies ≡ false
  pub request_is : r.request ≡ asked.id
  pub peer_is : r.peer ≡ peer.peer.entity
  pub alone : asks_others setup held (Some (asker_of peer asked relay)) r.cookies ≡ false
  pub partial_is : r.partial
      ≡ is_partial now held.header.horizon peer.peer.entity asked.name asked.indexes (rows_of held.records)

-- Either, and each other provider that the sessions were used for is asked by the plan of the record.
pub record AsksAllOthers (setup : IdpConfig) (held : Held) (request : Request) (now : ℕ) (r : Round) : Type 0 where
  pub of : OfUser held request now r.cookies r.asker ⊎ OfPeer setup held request now r.cookies r.asker
  pub asks : asks_others setup held r.asker r.cookies ≡ true
  pub turns_are : r.turns ≡ turns_for setup held r.asker r.cookies
  pub skips : r.skipped ≡ skips_for setup held r.asker r.cookies

-- A LogoutResponse of the provider whose turn it is in a round was posted and accepted, and the round waits for it.
pub record IsOfProviderInTurn (setup : IdpConfig) (held : Held) (request : Request) (now : ℕ) (r : Told) : Type 0 where
  pub to : route request ≡ To SingleLogout
  pub response : LogoutResponse
  pub peer : LogoutPeer
  pub replies : RepliesTo setup request now response peer
  pub row : RoundRow
  pub waits : round_waiting setup held now response.request peer.peer.entity ≡ Some row
  pub request_is : r.request ≡ response.request
  pub confirms : r.confirmed ≡ not (is_in_part response.outcome)

-- A LogoutResponse of a peer was posted and accepted, and the logout that it replies to waits for a reply.
pub record IsOfPeerThatReplies (setup : IdpConfig) (held : Held) (request : Request) (now : ℕ) (r : Confirmed) : Type 0
  where
    pub to : route request ≡ To SingleLogout
    pub response : LogoutResponse
    pub peer : LogoutPeer
    pub replies : RepliesTo setup request now response peer
    pub request_is : r.request ≡ response.request
    pub awaited : is_awaited held now response.request ≡ true

-- what is behind a record of a logout
abbrev pub IsOfLogoutIfEnding : IdpConfig → Held → Request → ℕ → IdpRecord → Type 0
IsOfLogoutIfEnding setup held request now (kinds.Pending r) = Unit {0}
IsOfLogoutIfEnding setup held request now (kinds.Issued r) = Unit {0}
IsOfLogoutIfEnding setup held request now (kinds.Ended r) = IsOfPeerThatAsks setup held request now r
IsOfLogoutIfEnding setup held request now (kinds.Left r) = IsOfUserWhoLeaves setup held request now r
IsOfLogoutIfEnding setup held request now (kinds.Confirmed r) = IsOfPeerThatReplies setup held request now r
IsOfLogoutIfEnding setup held request now (kinds.Spoke r) = Unit {0}
IsOfLogoutIfEnding setup held request now (kinds.Round r) = AsksAllOthers setup held request now r
IsOfLogoutIfEnding setup held request now (kinds.Told r) = IsOfProviderInTurn setup held request now r

-- what a request may do to a ledger that stays whole: nothing, a compaction, or a record behind either, and a record of
-- a logout only for one
abbrev pub Ends : IdpConfig → (found : Held) → Request → ℕ → (new : Provider) → Type 0
Ends setup found request now new =
    any.Changes idp_rules (λ held r. IsOfLogoutIfEnding setup held request now r) now found new.ledger.held

-- Each session that is ended was left by its user or ended by a peer: an answer's record, and what a request does to
-- the ledger.
abbrev pub AnswersEndExactly : Type 0
AnswersEndExactly =
    (setup : IdpConfig) (held : Held) (request : Request) (now : ℕ) (answer : Answer) (r : IdpRecord)
    → Answers setup held request now answer (Some r) → IsOfLogoutIfEnding setup held request now r

abbrev pub ServicesEndExactly : Type 0
ServicesEndExactly =
    (found : Held) (request : Request) (now before after : ℕ) (answer : Answer) (old new : Provider)
    → Serves idp_rules Answers found request now (Rose before after) answer old new → new.ledger.broken ≡ false
    → Ends old.setup found request now new

-- WHEREVER

-- Over a ledger, at a moment, the user of a request leaves the session of this row: the session lives, and the request
-- has its cookie.
pub record LeavesOver (held : Held) (request : Request) (now : ℕ) (row : SessionRow) : Type 0 where
  pub posted : route request ≡ To Logout
  pub live : session_for held now request ≡ Some row

-- a peer asks by a form that is accepted to end sessions
pub record EndsOver (setup : IdpConfig) (request : Request) (now : ℕ) (asked : LogoutRequest) (peer : LogoutPeer) : Type
    0 where
  pub posted : route request ≡ To SingleLogout
  pub relay : Option (List ℕ)
  pub asks : AsksToEnd setup request now asked peer relay

-- the record of a user who leaves, and of a peer that asks: that of a round, where one begins
abbrev pub leaving_record : IdpConfig → Held → ℕ → (cookie : List ℕ) → IdpRecord
leaving_record setup held now cookie =
    if asks_others setup held None (cookie ∷ []) then round_by setup held now None (cookie ∷ [])
    else left_by setup.id_key held now cookie

abbrev pub ending_record : IdpConfig → Held → ℕ → LogoutPeer → LogoutRequest → (relay : Option (List ℕ)) → IdpRecord
ending_record setup held now peer asked relay =
    let asker = Some (asker_of peer asked relay) in
    let cookies = ending_by held now peer.peer.entity asked in
    if asks_others setup held asker cookies then round_by setup held now asker cookies
    else ended_by setup.id_key held now peer.peer.entity asked

-- Wherever a session is left or a peer asks to end it, there is room for the record, at once or behind one compaction,
-- and the disk does not fail, it is ended behind the step; or there was no memory.
abbrev pub WhereverAUserLeaves : Type 0
WhereverAUserLeaves =
    (found : Held) (request : Request) (now faults later : ℕ) (answer : Answer) (old new : Provider) (row : SessionRow)
    → Serves idp_rules Answers found request now (Rose faults later) answer old new → LeavesOver found request now row
    → HasRoom idp_rules found now (λ held. leaving_record old.setup held now row.cookie) → ¬ (Rose faults later)
    → (answer ≡ Fixed NO_MEMORY) ⊎ IsEnded new.ledger.held row.cookie

abbrev pub WhereverAPeerEnds : Type 0
WhereverAPeerEnds =
    (found : Held) (request : Request) (now faults later : ℕ) (answer : Answer) (old new : Provider)
    (asked : LogoutRequest) (peer : LogoutPeer) (cookie : List ℕ)
    → Serves idp_rules Answers found request now (Rose faults later) answer old new
    → (over : EndsOver old.setup request now asked peer)
    → is_among cookie (ending_by found now peer.peer.entity asked) ≡ true
    → HasRoom idp_rules found now (λ held. ending_record old.setup held now peer asked over.relay)
    → ¬ (Rose faults later)
    → (answer ≡ Fixed NO_MEMORY) ⊎ IsEnded new.ledger.held cookie

-- WHAT IS ANSWERED

-- Behind an answer that stands for a record every session is ended that this ends, in each image that a crash may
-- leave: so those of a round are ended before the first provider is asked to end them, too.
pub record EndsBeforeItAnswers (setup : IdpConfig) (request : Request) (now : ℕ) (answer : Answer)
    (later : Option DiskState) : Type 0 where
  pub recorded : IsRecorded idp_rules Answers setup request now answer later
  pub ended : (cookie : List ℕ) → ends cookie recorded.r ≡ true → IsEnded (held_with recorded.r recorded.held) cookie

abbrev pub SessionsEndBeforeTheAnswer : Type 0
SessionsEndBeforeTheAnswer =
    (old new : Provider) (disk later : Option DiskState) (request : Request) (now before after : ℕ) (bytes : List ℕ)
    → Steps idp_rules Answers old disk request now (Rose before after) (Full bytes) new → OwnsDisk idp_rules new later
    → IsOfALogout request → EndsBeforeItAnswers old.setup request now (Full bytes) later

-- How a request is replied to with a record: what it asks for, the record that stands for it, and the page.
use Rattle.std.specs.Prelude.{◌≡◌, ◌≢◌, ◌⊎◌, ℕ, ◌+◌, ◌≤◌, ◌<◌, min, Bool, true, false, not, List, [], ◌∷◌, length, Option, None, Some, IsSome, slice_get, if◌then◌else◌}
use Rattle.std.specs.List.{AllByRecursion}
use Rattle.std.specs.Option.{is_none, option_map}
use Rattle.xml_spec.specs.Characters.{IsText}
use Rattle.owned_values.specs.declared.attributes.Attribute.{Attribute}
use Rattle.assertion_model.specs.Assertion.{IsStatable}
use Rattle.http_wire.specs.Answers.{is_one_line}
use Rattle.http_wire.specs.declared.answer.Answer.{Answer}
use Rattle.http_wire.specs.declared.answer.Answer.TheVariants.{Full}
use Rattle.http_wire.specs.Requests.{Request}
use Rattle.ledger_records.specs.declared.idp_record.Ended.{Ended}
use Rattle.ledger_records.specs.declared.idp_record.Issued.{Issued}
use Rattle.ledger_records.specs.declared.idp_record.Left.{Left}
use Rattle.ledger_records.specs.declared.idp_round.Round.{Round}
use Rattle.ledger_records.specs.declared.idp_record.IdpRecord.{IdpRecord}
use Rattle.ledger_records.specs.declared.idp_record.IdpRecord.TheVariants as kinds
use Rattle.ledger_rules.specs.Numbers.{is_xml_text}
use Rattle.peer_keys.specs.Peers.{place_of}
use Rattle.peer_keys.specs.declared.peers.LogoutPeer.{LogoutPeer}
use Rattle.logout_fanout.specs.declared.plan.Plan.{Plan}
use Rattle.logout_turns.specs.declared.part.Asker.{Asker}
use Rattle.logout_turns.specs.declared.turns.Turn.{Turn}
use Rattle.round_rows.specs.declared.row.RoundRow.{RoundRow}
use Rattle.user_store.specs.Store.{checked}
use Rattle.user_store.specs.declared.user.User.{User}
use Rattle.idp_ledger.specs.declared.ask.Ask.{Ask}
use Rattle.idp_rows.specs.declared.row.PendingRow.{PendingRow}
use Rattle.idp_rows.specs.declared.row.SessionRow.{SessionRow}
use Rattle.idp_rows.specs.RowsOf.{rows_of}
use Rattle.idp_rows.specs.Finding.{is_empty, pending_found, session_found, turn_found}
use Rattle.idp_rows.specs.Record.{LAST}
use Rattle.idp_ledger.specs.Ledger.{Held, next_number}
use Rattle.idp_ledger.specs.Draft.{first_id, second_id}
use Rattle.idp_ledger.specs.Drafts.{SESSION_LIFE, AreLive, AreXmlAttributes, AreXmlTurns, IsXmlAsk, IsXmlAsker, confirmed, is_turn_left, issue, login, pending, round, spoke, told}
use Rattle.idp_rules.specs.Config.{IsTextPeer}
use Rattle.idp_rules.specs.declared.asked.Asked.{Asked}
use Rattle.idp_rules.specs.declared.config.IdpConfig.{IdpConfig}
use Rattle.idp_answers.specs.Answers.{IsNoPassiveAnswer, login_answer}
use Rattle.idp_answers.specs.Stating.{CanBeStated}
pub use Rattle.idp_answers.specs.Stating.{AreTold, IsTold}
use Rattle.logout_answers.specs.Answers.{end_answer, is_in_part}
use Rattle.logout_profile.specs.declared.logout.Logout.TheVariants as messages
use Rattle.protocol_messages.specs.declared.logout.LogoutRequest.{LogoutRequest}
use Rattle.protocol_messages.specs.declared.logout.LogoutResponse.{LogoutResponse}
use Rattle.verdict_codes.specs.declared.codes.Verdict.{Verdict}
use Rattle.verdict_codes.specs.declared.codes.Verdict.TheVariants.{NoSuchSession, UnknownLogout}
use Rattle.provider_node.specs.Replies.{ReplyRules}
use Rattle.idp_server.specs.declared.reply.Follows.{Follows}
use Rattle.idp_server.specs.declared.reply.Follows.TheVariants as follows
use Rattle.idp_server.specs.declared.reply.Reply.{Reply}
use Rattle.idp_server.specs.declared.reply.Reply.TheVariants as replies
use Rattle.idp_server.specs.Logins.{stated_by}
use Rattle.idp_server.specs.declared.route.Service.TheVariants as routes
use Rattle.service_routes.specs.declared.route.Route.TheVariants.{To}
use Rattle.idp_server.specs.Routes.{route}
use Rattle.idp_server.specs.Messages.{AsksFirst, IsRequestTo, IsRoundEnd}
use Rattle.idp_server.specs.Rounds.{asks_others, follows_of, round_waiting, skips_for, turns_for}
use Rattle.idp_server.specs.Step as step
use Rattle.idp_server.specs.Step.{AsksFor, AsksToEnd, IsAnswerFor, IsEndingAnswer, IsLeavingAnswer, IsObeyed, Typed, asker_of, ask_of, ended_by, ending_by, is_awaited, left_by, session_for, session_used, typed}

-- THE RECORD

-- the round that waits for the answer of this provider to this request
abbrev pub turn_of : Held → ℕ → (request peer : List ℕ) → Option RoundRow
turn_of held now request peer = turn_found (rows_of held.records).rounds request peer now held.header.horizon

-- the record that stands for a reply over a ledger where there is something to record; none where the session does not
-- live, or the login is not pending
abbrev pub found_record : (key : List ℕ) → Held → ℕ → Reply → Option IdpRecord
found_record key held now (replies.InSession cookie ask peer) =
    option_map (λ row. issue key (next_number held) now row ask)
    (session_found (rows_of held.records).sessions cookie now held.header.horizon)
found_record key held now (replies.Passive ask) = Some (spoke key (next_number held) now ask)
found_record key held now (replies.Question ask) = Some (pending key (next_number held) now ask)
found_record key held now (replies.Login id user attributes peer) =
    option_map (λ row. login key (next_number held) now row user attributes)
    (pending_found (rows_of held.records).pendings id now held.header.horizon)
found_record key held now (replies.Leave cookie user index) =
    option_map (λ row. left_by key held now cookie) (session_found (rows_of held.records).sessions cookie now
    held.header.horizon)
found_record key held now (replies.End asked peer name relay) = Some (ended_by key held now name asked)
found_record key held now (replies.Confirm request partial) = Some (confirmed now request)
found_record key held now (replies.AskAll cookies asker plan) =
    Some (round key (next_number held) now cookies asker plan.turns plan.skipped)
found_record key held now (replies.Told request peer confirms next) =
    Some (told key (next_number held) now request confirms (is_turn_left (turn_of held now request peer)))

-- whether there is nothing to record: no session to end, or no logout that waits; and the code that says so. A round
-- that is replied to waits.
abbrev pub is_nothing : Held → ℕ → Reply → Bool
is_nothing held now (replies.End asked peer name relay) = is_empty (ending_by held now name asked)
is_nothing held now (replies.Confirm request partial) = not (is_awaited held now request)
is_nothing held now (replies.Told request peer confirms next) = is_none (turn_of held now request peer)
is_nothing held now other = false

abbrev pub refusal_of : Reply → Verdict
refusal_of (replies.Confirm request partial) = UnknownLogout
refusal_of other = NoSuchSession

-- the record that stands for a reply
abbrev pub record_for : (key : List ℕ) → Held → ℕ → Reply → Option IdpRecord
record_for key held now reply = if is_nothing held now reply then None else found_record key held now reply

-- THE PAGE

-- an answer with the Assertion of an issued record, for the peer at this place
pub record IsAssertionPage (setup : IdpConfig) (place : ℕ) (cookie : Option (List ℕ)) (r : IdpRecord) (now : ℕ)
    (answer : Answer) : Type 0 where
  pub issued : Issued
  pub is : r ≡ kinds.Issued issued
  pub peer : LogoutPeer
  pub there : slice_get setup.peers place ≡ Some peer
  pub bytes : List ℕ
  pub answers : IsAnswerFor setup peer issued cookie now bytes
  pub full : answer ≡ Full bytes

-- the same with the cookie that the record draws
pub record IsLoginPage (setup : IdpConfig) (place : ℕ) (r : IdpRecord) (now : ℕ) (answer : Answer) : Type 0 where
  pub cookie : List ℕ
  pub draws : second_id r ≡ Some cookie
  pub page : IsAssertionPage setup place (Some cookie) r now answer

-- an answer without an Assertion
pub record IsPassivePage (setup : IdpConfig) (ask : Ask) (r : IdpRecord) (now : ℕ) (answer : Answer) : Type 0 where
  pub message : List ℕ
  pub named : first_id r ≡ Some message
  pub bytes : List ℕ
  pub answers : IsNoPassiveAnswer setup.entity message ask.request ask.consumer ask.relay now bytes
  pub full : answer ≡ Full bytes

-- the page where the user logs in
pub record IsQuestionPage (r : IdpRecord) (answer : Answer) : Type 0 where
  pub id : List ℕ
  pub named : first_id r ≡ Some id
  pub full : answer ≡ Full (login_answer id)

-- the answer to a user who leaves
pub record IsLeavingPage (setup : IdpConfig) (user index : List ℕ) (r : IdpRecord) (now : ℕ) (answer : Answer) : Type 0
  where
    pub left : Left
    pub is : r ≡ kinds.Left left
    pub bytes : List ℕ
    pub answers : IsLeavingAnswer setup left user index now bytes
    pub full : answer ≡ Full bytes

-- the answer to a peer that asked to end sessions
pub record IsEndingPage (setup : IdpConfig) (place : ℕ) (relay : Option (List ℕ)) (r : IdpRecord) (now : ℕ)
    (answer : Answer) : Type 0 where
  pub ended : Ended
  pub is : r ≡ kinds.Ended ended
  pub peer : LogoutPeer
  pub there : slice_get setup.peers place ≡ Some peer
  pub bytes : List ℕ
  pub answers : IsEndingAnswer setup peer ended relay now bytes
  pub full : answer ≡ Full bytes

-- the answer that begins a round
pub record IsAskingPage (setup : IdpConfig) (r : IdpRecord) (now : ℕ) (answer : Answer) : Type 0 where
  pub begun : Round
  pub is : r ≡ kinds.Round begun
  pub bytes : List ℕ
  pub asks : AsksFirst setup begun now bytes
  pub full : answer ≡ Full bytes

-- the answer to a provider that answered in its turn: a request to that of the next one, or the end of the round
pub record IsNextPage (setup : IdpConfig) (turn : Turn) (r : IdpRecord) (now : ℕ) (answer : Answer) : Type 0 where
  pub id : List ℕ
  pub named : first_id r ≡ Some id
  pub bytes : List ℕ
  pub asks : IsRequestTo setup turn.peer id turn.name turn.indexes now bytes
  pub full : answer ≡ Full bytes

pub record IsLastPage (setup : IdpConfig) (message : List ℕ) (asker : Option Asker) (partial : Bool) (now : ℕ)
    (answer : Answer) : Type 0 where
  pub bytes : List ℕ
  pub ends : IsRoundEnd setup message asker partial now bytes
  pub full : answer ≡ Full bytes

abbrev pub IsToldPage : IdpConfig → Follows → IdpRecord → ℕ → Answer → Type 0
IsToldPage setup (follows.Turn turn) r now answer = IsNextPage setup turn r now answer
IsToldPage setup (follows.End message asker partial) r now answer = IsLastPage setup message asker partial now answer

-- the answer that stands for the record of a reply
abbrev pub IsPage : IdpConfig → Reply → IdpRecord → ℕ → Answer → Type 0
IsPage setup (replies.InSession cookie ask peer) r now answer = IsAssertionPage setup peer None r now answer
IsPage setup (replies.Passive ask) r now answer = IsPassivePage setup ask r now answer
IsPage setup (replies.Question ask) r now answer = IsQuestionPage r answer
IsPage setup (replies.Login id user attributes peer) r now answer = IsLoginPage setup peer r now answer
IsPage setup (replies.Leave cookie user index) r now answer = IsLeavingPage setup user index r now answer
IsPage setup (replies.End asked peer name relay) r now answer = IsEndingPage setup peer relay r now answer
IsPage setup (replies.Confirm request partial) r now answer = answer ≡ Full (end_answer partial)
IsPage setup (replies.AskAll cookies asker plan) r now answer = IsAskingPage setup r now answer
IsPage setup (replies.Told request peer confirms next) r now answer = IsToldPage setup next r now answer

-- WHAT A PAGE NEEDS

-- an issued record of which a login may be stated, and whose message has an ID that may stand in a document
pub record IsIssuable (r : Issued) : Type 0 where
  pub states : CanBeStated (stated_by r)
  pub message : IsText r.message
  pub message_named : r.message ≢ []

pub record HasAssertion (setup : IdpConfig) (place : ℕ) (r : IdpRecord) : Type 0 where
  pub issued : Issued
  pub is : r ≡ kinds.Issued issued
  pub issuable : IsIssuable issued
  pub known : place < length setup.peers

-- a record that draws a cookie, which may stand in a line of a header
pub record HasCookie (r : IdpRecord) : Type 0 where
  pub cookie : List ℕ
  pub named : second_id r ≡ Some cookie
  pub line : is_one_line cookie ≡ true

pub record HasRefusal (ask : Ask) (r : IdpRecord) : Type 0 where
  pub message : List ℕ
  pub named : first_id r ≡ Some message
  pub text : IsText message
  pub request : IsText ask.request
  pub consumer : IsText ask.consumer

-- a Left whose request may stand in a document, with the name and the index that it says
pub record HasRequest (setup : IdpConfig) (user index : List ℕ) (r : IdpRecord) : Type 0 where
  pub left : Left
  pub is : r ≡ kinds.Left left
  pub request : IsText left.request
  pub named : left.request ≢ []
  pub user_text : IsText user
  pub index_text : IsText index
  pub peers : AllByRecursion IsTextPeer setup.peers

-- an Ended whose answer to this request may stand in a document
pub record HasResponse (setup : IdpConfig) (asked : LogoutRequest) (place : ℕ) (r : IdpRecord) : Type 0 where
  pub ended : Ended
  pub is : r ≡ kinds.Ended ended
  pub message : IsText ended.message
  pub named : ended.message ≢ []
  pub same : asked.id ≡ ended.request
  pub request : IsText asked.id
  pub known : place < length setup.peers
  pub peers : AllByRecursion IsTextPeer setup.peers

-- a request with this ID to the provider of a turn may stand in a document
pub record CanAsk (setup : IdpConfig) (turn : Turn) (id : List ℕ) : Type 0 where
  pub id_text : IsText id
  pub named : id ≢ []
  pub name : IsText turn.name
  pub indexes : AllByRecursion IsText turn.indexes
  pub peers : AllByRecursion IsTextPeer setup.peers

-- so may the response at the end of a round
abbrev pub IsTextAsker : Option Asker → Type 0
IsTextAsker None = Unit {0}
IsTextAsker (Some asker) = IsText asker.peer × IsText asker.request

pub record CanEnd (setup : IdpConfig) (message : List ℕ) (asker : Option Asker) : Type 0 where
  pub message_text : IsText message
  pub named : message ≢ []
  pub asker_text : IsTextAsker asker
  pub peers : AllByRecursion IsTextPeer setup.peers

-- a Round of this plan, whose first request may stand in a document
pub record HasFirstTurn (setup : IdpConfig) (plan : Plan) (r : IdpRecord) : Type 0 where
  pub begun : Round
  pub is : r ≡ kinds.Round begun
  pub turns_are : begun.turns ≡ plan.turns
  pub turn : Turn
  pub first : slice_get plan.turns 0 ≡ Some turn
  pub can : CanAsk setup turn begun.request

-- a record that draws the next request, which may stand in a document
pub record HasNextTurn (setup : IdpConfig) (turn : Turn) (r : IdpRecord) : Type 0 where
  pub id : List ℕ
  pub named : first_id r ≡ Some id
  pub can : CanAsk setup turn id

abbrev pub HasNextStep : IdpConfig → Follows → IdpRecord → Type 0
HasNextStep setup (follows.Turn turn) r = HasNextTurn setup turn r
HasNextStep setup (follows.End message asker partial) r = CanEnd setup message asker

-- the record of a reply can be shown
abbrev pub CanBeShown : IdpConfig → Reply → IdpRecord → Type 0
CanBeShown setup (replies.InSession cookie ask peer) r = HasAssertion setup peer r
CanBeShown setup (replies.Passive ask) r = HasRefusal ask r
CanBeShown setup (replies.Question ask) r = IsSome (first_id r)
CanBeShown setup (replies.Login id user attributes peer) r = HasAssertion setup peer r × HasCookie r
CanBeShown setup (replies.Leave cookie user index) r = HasRequest setup user index r
CanBeShown setup (replies.End asked peer name relay) r = HasResponse setup asked peer r
CanBeShown setup (replies.Confirm request partial) r = Unit {0}
CanBeShown setup (replies.AskAll cookies asker plan) r = HasFirstTurn setup plan r
CanBeShown setup (replies.Told request peer confirms next) r = HasNextStep setup next r

-- a document may hold the texts of what is recorded
abbrev pub IsXmlReply : Reply → Type 0
IsXmlReply (replies.InSession cookie ask peer) = IsXmlAsk ask
IsXmlReply (replies.Passive ask) = IsXmlAsk ask
IsXmlReply (replies.Question ask) = IsXmlAsk ask
IsXmlReply (replies.Login id user attributes peer) = (is_xml_text user ≡ true) × AreXmlAttributes attributes
IsXmlReply (replies.Leave cookie user index) = Unit {0}
IsXmlReply (replies.End asked peer name relay) = (is_xml_text asked.id ≡ true) × (is_xml_text name ≡ true)
IsXmlReply (replies.Confirm request partial) = Unit {0}
IsXmlReply (replies.AskAll cookies asker plan) = IsXmlAsker asker × AreXmlTurns plan.turns
IsXmlReply (replies.Told request peer confirms next) = Unit {0}

-- A round ends sessions that live, and asks somebody.
abbrev pub CanDraft : Held → ℕ → Reply → Type 0
CanDraft held now (replies.AskAll cookies asker plan) =
    AreLive (rows_of held.records).sessions cookies now held.header.horizon × ¬ (plan.turns ≡ [])
CanDraft held now other = Unit {0}

-- WHEN A REQUEST ASKS FOR A REPLY

-- the texts of an ask, of a session and of a pending login may stand in a document
pub record IsTextAsk (ask : Ask) : Type 0 where
  pub request : IsText ask.request
  pub peer : IsText ask.peer
  pub consumer : IsText ask.consumer

pub record IsTextSession (row : SessionRow) : Type 0 where
  pub index : IsText row.index
  pub user : IsText row.user
  pub attributes : AllByRecursion IsStatable row.attributes
  pub until : row.until ≤ LAST

-- so may those of a turn and of a round
pub record IsTextTurn (turn : Turn) : Type 0 where
  pub peer : IsText turn.peer
  pub name : IsText turn.name
  pub indexes : AllByRecursion IsText turn.indexes

pub record IsTextRound (row : RoundRow) : Type 0 where
  pub message : IsText row.message
  pub named : row.message ≢ []
  pub asker : IsTextAsker row.asker
  pub turns : AllByRecursion IsTextTurn row.turns

pub record IsTextPending (row : PendingRow) : Type 0 where
  pub request : IsText row.request
  pub peer : IsText row.peer
  pub consumer : IsText row.consumer

-- a peer asks for a login, and this is what a record says of it
pub record AsksWith (setup : IdpConfig) (request : Request) (ask : Ask) (asked : Asked) (peer : LogoutPeer) : Type 0
  where
    pub is : AsksFor setup request asked peer
    pub says : ask ≡ ask_of asked peer
    pub texts : IsTextAsk ask

-- and the user has a session, of this cookie
pub record AsksInSession (setup : IdpConfig) (held : Held) (request : Request) (now : ℕ) (cookie : List ℕ) (ask : Ask)
    (place : ℕ) : Type 0 where
  pub asked : Asked
  pub peer : LogoutPeer
  pub asks : AsksWith setup request ask asked peer
  pub placed : place ≡ asked.peer
  pub row : SessionRow
  pub used : session_used asked (session_for held now request) ≡ Some row
  pub found : session_found (rows_of held.records).sessions cookie now held.header.horizon ≡ Some row
  pub texts : IsTextSession row
  pub told : AreTold now row.until

-- and has none, and may be asked or not
pub record AsksAnew (passive : Bool) (setup : IdpConfig) (held : Held) (request : Request) (now : ℕ) (ask : Ask) : Type
    0 where
  pub asked : Asked
  pub peer : LogoutPeer
  pub asks : AsksWith setup request ask asked peer
  pub none : session_used asked (session_for held now request) ≡ None
  pub passive_is : asked.passive ≡ passive
  pub told : IsTold now

-- the page of a pending login was posted, with the name and the password of a user
pub record LogsIn (setup : IdpConfig) (held : Held) (request : Request) (now : ℕ) (id user : List ℕ)
    (attributes : List Attribute) (place : ℕ) : Type 0 where
  pub to : route request ≡ To routes.Login
  pub fields : Typed
  pub posted : typed request.body ≡ Some fields
  pub same : id ≡ fields.pending
  pub row : PendingRow
  pub found : pending_found (rows_of held.records).pendings id now held.header.horizon ≡ Some row
  pub peer : LogoutPeer
  pub known : place_of row.peer setup.peers ≡ Some place
  pub there : slice_get setup.peers place ≡ Some peer
  pub who : User
  pub checks : checked setup.users fields.user fields.password ≡ Some who
  pub user_is : user ≡ who.name
  pub attributes_are : attributes ≡ who.attributes
  pub texts : IsTextPending row
  pub user_text : IsText user
  pub stated : AllByRecursion IsStatable attributes
  pub told : AreTold now (min LAST (now + SESSION_LIFE))

-- a user leaves the session of this cookie, and nobody is asked, or only the peer to which its last Assertion went
pub record Leaves (setup : IdpConfig) (held : Held) (request : Request) (now : ℕ) (cookie user index : List ℕ) : Type 0
  where
    pub to : route request ≡ To routes.Logout
    pub row : SessionRow
    pub live : session_for held now request ≡ Some row
    pub found : session_found (rows_of held.records).sessions cookie now held.header.horizon ≡ Some row
    pub cookie_is : cookie ≡ row.cookie
    pub alone : asks_others setup held None (cookie ∷ []) ≡ false
    pub user_is : user ≡ row.user
    pub index_is : index ≡ row.index
    pub user_text : IsText user
    pub index_text : IsText index
    pub peers : AllByRecursion IsTextPeer setup.peers
    pub told : AreTold now row.until

-- the peer of this name at this place asks to end sessions, and nobody else is asked
pub record AsksForAnEnd (setup : IdpConfig) (held : Held) (request : Request) (now : ℕ) (asked : LogoutRequest)
    (place : ℕ) (name : List ℕ) (relay : Option (List ℕ)) : Type 0 where
  pub to : route request ≡ To routes.SingleLogout
  pub obeyed : IsObeyed setup now request.body (messages.Ask asked place relay)
  pub peer : LogoutPeer
  pub there : slice_get setup.peers place ≡ Some peer
  pub name_is : name ≡ peer.peer.entity
  pub alone : asks_others setup held (Some (asker_of peer asked relay)) (ending_by held now name asked) ≡ false
  pub id_text : IsText asked.id
  pub peers : AllByRecursion IsTextPeer setup.peers
  pub told : IsTold now

-- a peer replies to the logout of this request, for which no round waits
pub record Confirms (setup : IdpConfig) (held : Held) (request : Request) (now : ℕ) (of : List ℕ)
    (partial : Bool) : Type 0 where
  pub to : route request ≡ To routes.SingleLogout
  pub response : LogoutResponse
  pub peer : LogoutPeer
  pub replies : step.RepliesTo setup request now response peer
  pub of_is : of ≡ response.request
  pub none : round_waiting setup held now of peer.peer.entity ≡ None
  pub partial_is : partial ≡ is_in_part response.outcome

-- The user leaves, or a peer asks to end sessions of which there are some: those of these cookies.
pub record OfUser (held : Held) (request : Request) (now : ℕ) (cookies : List (List ℕ)) (asker : Option Asker) : Type 0
  where
    pub to : route request ≡ To routes.Logout
    pub row : SessionRow
    pub live : session_for held now request ≡ Some row
    pub cookies_are : cookies ≡ row.cookie ∷ []
    pub asker_is : asker ≡ None

pub record OfPeer (setup : IdpConfig) (held : Held) (request : Request) (now : ℕ) (cookies : List (List ℕ))
    (asker : Option Asker) : Type 0 where
  pub to : route request ≡ To routes.SingleLogout
  pub asked : LogoutRequest
  pub peer : LogoutPeer
  pub relay : Option (List ℕ)
  pub asks : AsksToEnd setup request now asked peer relay
  pub cookies_are : cookies ≡ ending_by held now peer.peer.entity asked
  pub some : is_empty cookies ≡ false
  pub asker_is : asker ≡ Some (asker_of peer asked relay)

-- and the others are asked by this plan
pub record AsksAll (setup : IdpConfig) (held : Held) (request : Request) (now : ℕ) (cookies : List (List ℕ))
    (asker : Option Asker) (plan : Plan) : Type 0 where
  pub of : OfUser held request now cookies asker ⊎ OfPeer setup held request now cookies asker
  pub asks : asks_others setup held asker cookies ≡ true
  pub turns_are : plan.turns ≡ turns_for setup held asker cookies
  pub skips : plan.skipped ≡ skips_for setup held asker cookies
  pub live : AreLive (rows_of held.records).sessions cookies now held.header.horizon
  pub asker_text : IsTextAsker asker
  pub turn_texts : AllByRecursion IsTextTurn plan.turns
  pub peers : AllByRecursion IsTextPeer setup.peers
  pub told : AreTold now now

-- the provider of this name replies, whose turn it is in a round, and this follows
pub record Tells (setup : IdpConfig) (held : Held) (request : Request) (now : ℕ) (of peer : List ℕ) (confirms : Bool)
    (next : Follows) : Type 0 where
  pub to : route request ≡ To routes.SingleLogout
  pub response : LogoutResponse
  pub who : LogoutPeer
  pub replies : step.RepliesTo setup request now response who
  pub of_is : of ≡ response.request
  pub peer_is : peer ≡ who.peer.entity
  pub confirms_is : confirms ≡ not (is_in_part response.outcome)
  pub fanout : setup.fanout ≡ true
  pub row : RoundRow
  pub waits : turn_of held now of peer ≡ Some row
  pub next_is : Some next ≡ follows_of row confirms
  pub row_texts : IsTextRound row
  pub peers : AllByRecursion IsTextPeer setup.peers
  pub told : AreTold now now

-- a request asks for a reply over a ledger at a moment
abbrev pub Wants : IdpConfig → Held → Request → ℕ → Reply → Type 0
Wants setup held request now (replies.InSession cookie ask peer) = AsksInSession setup held request now cookie ask peer
Wants setup held request now (replies.Passive ask) = AsksAnew true setup held request now ask
Wants setup held request now (replies.Question ask) = AsksAnew false setup held request now ask
Wants setup held request now (replies.Login id user attributes peer) =
    LogsIn setup held request now id user attributes peer
Wants setup held request now (replies.Leave cookie user index) = Leaves setup held request now cookie user index
Wants setup held request now (replies.End asked peer name relay) =
    AsksForAnEnd setup held request now asked peer name relay
Wants setup held request now (replies.Confirm request_id partial) = Confirms setup held request now request_id partial
Wants setup held request now (replies.AskAll cookies asker plan) = AsksAll setup held request now cookies asker plan
Wants setup held request now (replies.Told request_id peer confirms next) =
    Tells setup held request now request_id peer confirms next

-- the reply that asks all others where these sessions end, where there are some to ask
pub record AsksByPlan (setup : IdpConfig) (held : Held) (asker : Option Asker) (cookies : List (List ℕ))
    (reply : Reply) : Type 0 where
  pub asks : asks_others setup held asker cookies ≡ true
  pub plan : Plan
  pub is : reply ≡ replies.AskAll cookies asker plan
  pub turns_are : plan.turns ≡ turns_for setup held asker cookies
  pub skips : plan.skipped ≡ skips_for setup held asker cookies
  pub texts : AllByRecursion IsTextTurn plan.turns

abbrev pub IsAskAll : IdpConfig → Held → Option Asker → (cookies : List (List ℕ)) → Option Reply → Type 0
IsAskAll setup held asker cookies None = asks_others setup held asker cookies ≡ false
IsAskAll setup held asker cookies (Some reply) = AsksByPlan setup held asker cookies reply

-- the reply to the answer of a provider, where a round waits for it
pub record AnswersRound (setup : IdpConfig) (held : Held) (now : ℕ) (of peer : List ℕ) (confirms : Bool)
    (reply : Reply) : Type 0 where
  pub fanout : setup.fanout ≡ true
  pub row : RoundRow
  pub waits : turn_of held now of peer ≡ Some row
  pub next : Follows
  pub is : reply ≡ replies.Told of peer confirms next
  pub next_is : Some next ≡ follows_of row confirms
  pub texts : IsTextRound row

abbrev pub IsToldReply : IdpConfig → Held → ℕ → (of peer : List ℕ) → (confirms : Bool) → Option Reply → Type 0
IsToldReply setup held now of peer confirms None = round_waiting setup held now of peer ≡ None
IsToldReply setup held now of peer confirms (Some reply) = AnswersRound setup held now of peer confirms reply

-- IN THE WORDS OF A STEP

abbrev pub idp_replies : ReplyRules IdpConfig IdpRecord Reply
idp_replies = record {
  wants = Wants;
  record_for = λ setup held now reply. record_for setup.id_key held now reply;
  shows = λ setup reply r now bytes. IsPage setup reply r now (Full bytes);
  refusal = refusal_of;
}

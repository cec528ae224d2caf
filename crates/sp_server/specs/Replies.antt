-- How the code answers with a record: what a request wants, the record of it, and the answer.
use Rattle.std.specs.Prelude.{◌≡◌, ◌⊎◌, ℕ, Bool, true, false, not, List, Option, None, Some, IfSome, IsSome, IsSomeAnd, if◌then◌else◌, Result}
use Rattle.std.specs.List.{AllByRecursion}
use Rattle.std.specs.Option.{option_to_list}
use Rattle.xml_spec.specs.Characters.{IsText}
use Rattle.http_wire.specs.Requests.{Request}
use Rattle.verdict_codes.specs.declared.codes.Verdict.{Verdict}
use Rattle.verdict_codes.specs.declared.codes.Verdict.TheVariants.{NoSuchSession, UnknownLogout}
use Rattle.ledger_records.specs.declared.sp_record.SpRecord.{SpRecord}
use Rattle.ledger_rules.specs.Numbers.{is_xml_text}
use Rattle.request_rows.specs.declared.row.OpenedRow.{OpenedRow}
use Rattle.request_rows.specs.declared.row.NewSession.{NewSession}
use Rattle.request_rows.specs.Rows.{asked_row, is_spent, session_row}
use Rattle.request_ledger.specs.RowsOf.{rows_of}
use Rattle.request_ledger.specs.Ledger.{Held, next_number}
use Rattle.request_ledger.specs.Draft.{IsDrawn, drawn_id}
use Rattle.request_ledger.specs.Drafts.{asked, opened, left, ended, confirmed, is_empty, AreSessionTexts}
use Rattle.saml_ids.specs.Laws.{IsUsableId}
use Rattle.logout_profile.specs.declared.logout.Logout.{Logout}
use Rattle.logout_profile.specs.declared.logout.Logout.TheVariants as logouts
use Rattle.logout_answers.specs.Answers.{Ending, Leaving, end_answer, is_in_part}
use Rattle.sp_rules.specs.declared.config.SpConfig.{SpConfig}
use Rattle.sp_rules.specs.declared.accepted.Accepted.{Accepted}
use Rattle.sp_rules.specs.Shown.{IsOpening}
use Rattle.sp_answers.specs.Answers.{HoldsTexts, IsAskAnswer, opened_answer}
use Rattle.sp_answers.specs.Judging.{CanBeRecorded}
use Rattle.fault_verdicts.specs.declared.judged.Judged.{Judged}
use Rattle.provider_node.specs.Replies as any
use Rattle.provider_node.specs.Replies.{ReplyRules}
use Rattle.provider_node.specs.declared.replied.Replied.{Replied}
use Rattle.sp_server.specs.declared.reply.Reply.{Reply}
use Rattle.sp_server.specs.declared.reply.Reply.TheVariants as replies
use Rattle.service_routes.specs.declared.route.Route.TheVariants.{To}
use Rattle.sp_server.specs.declared.route.Service.TheVariants.{App, Consumer, Logout as ToLogout, SingleLogout}
use Rattle.sp_server.specs.Routes.{route}
use Rattle.sp_server.specs.Peer.{idp_at, IsObeyed}
use Rattle.sp_server.specs.Step.{Setup, Answers, HasId, HasIds, ended_by, is_awaited, is_expired, rows_seen, session_for}

-- ---- what is wanted

-- a page is asked for without a live session: a login is asked for, with the path as the target
pub record IsAsking (setup : Setup) (held : Held) (request : Request) (now : ℕ) (target : List ℕ) : Type 0 where
  pub to : route request ≡ To App
  pub unexpired : is_expired setup.expiry now ≡ false
  pub none : session_for held now request ≡ None
  pub target_is : target ≡ request.path

-- a posted form opens a session
pub record OpensSession (setup : Setup) (held : Held) (request : Request) (now : ℕ) (accepted : Accepted) : Type 0 where
  pub to : route request ≡ To Consumer
  pub unexpired : is_expired setup.expiry now ≡ false
  pub opens : IsOpening setup.config (rows_seen (rows_of held.records)) held.header.horizon now request.body accepted
  pub recordable : CanBeRecorded accepted.session

-- a user leaves the session of this token, which the identity provider knows by this name and these indexes
pub record IsLeaving (setup : Setup) (held : Held) (request : Request) (now : ℕ) (token name : List ℕ)
    (indexes : List (List ℕ)) : Type 0 where
  pub to : route request ≡ To ToLogout
  pub unexpired : is_expired setup.expiry now ≡ false
  pub row : OpenedRow
  pub live : session_for held now request ≡ Some row
  pub token_is : token ≡ row.token
  pub name_is : name ≡ row.name
  pub indexes_are : indexes ≡ option_to_list row.index
  pub name_text : IsText name
  pub index_texts : AllByRecursion IsText indexes

-- the identity provider asks or replies this
pub record IsPosted (setup : Setup) (request : Request) (now : ℕ) (logout : Logout) : Type 0 where
  pub to : route request ≡ To SingleLogout
  pub unexpired : is_expired setup.expiry now ≡ false
  pub obeyed : IsObeyed setup.config now request.body logout

-- a request wants a reply
abbrev pub Wants : Setup → Held → Request → ℕ → Reply → Type 0
Wants setup held request now (replies.Ask target) = IsAsking setup held request now target
Wants setup held request now (replies.Open accepted) = OpensSession setup held request now accepted
Wants setup held request now (replies.Leave token name indexes) = IsLeaving setup held request now token name indexes
Wants setup held request now (replies.End asked relay) =
    IsPosted setup request now (logouts.Ask asked 0 relay) × IsText asked.id
Wants setup held request now (replies.Confirm response) = IsPosted setup request now (logouts.Reply response 0)

-- the session of a row is left
pub record IsLeaveOf (row : OpenedRow) (token name : List ℕ) (indexes : List (List ℕ)) : Type 0 where
  pub token_is : token ≡ row.token
  pub name_is : name ≡ row.name
  pub indexes_are : indexes ≡ option_to_list row.index
  pub name_text : IsText name
  pub index_texts : AllByRecursion IsText indexes

abbrev pub Leaves : OpenedRow → Reply → Type 0
Leaves row (replies.Leave token name indexes) = IsLeaveOf row token name indexes
Leaves row other = ⊥

-- the reply to a posted message of a logout
abbrev pub IsOfForm : SpConfig → (now : ℕ) → (body : List ℕ) → Reply → Type 0
IsOfForm config now body (replies.End asked relay) =
    IsObeyed config now body (logouts.Ask asked 0 relay) × IsText asked.id
IsOfForm config now body (replies.Confirm response) = IsObeyed config now body (logouts.Reply response 0)
IsOfForm config now body other = ⊥

-- ---- its record

-- whether there is nothing to record, and the verdict that says so
abbrev pub is_nothing : SpConfig → Held → (now : ℕ) → Reply → Bool
is_nothing config held now (replies.End asked relay) = is_empty (ended_by config held now asked)
is_nothing config held now (replies.Confirm response) = not (is_awaited held now response.request)
is_nothing config held now other = false

abbrev pub refusal_of : Reply → Verdict
refusal_of (replies.Confirm response) = UnknownLogout
refusal_of other = NoSuchSession

-- what is recorded of it
abbrev pub record_for : (key : List ℕ) → SpConfig → Held → (now : ℕ) → Reply → SpRecord
record_for key config held now (replies.Ask target) = asked key (next_number held) now target
record_for key config held now (replies.Open accepted) = opened key (next_number held) now accepted.session
record_for key config held now (replies.Leave token name indexes) = left key (next_number held) now token
record_for key config held now (replies.End asked relay) =
    ended key (next_number held) now (ended_by config held now asked) asked.id
record_for key config held now (replies.Confirm response) = confirmed now response.request

-- the session of an accepted form can be recorded
pub record CanOpen (held : Held) (now : ℕ) (session : NewSession) : Type 0 where
  pub texts : AreSessionTexts session
  pub key : (session.key ≡ 1) ⊎ (session.key ≡ 2)
  pub asked : IsSome (asked_row (rows_of held.records).asked session.request now held.header.horizon)
  pub unspent : is_spent (rows_of held.records).opened session.request ≡ false

-- it can be drafted
abbrev pub CanDraft : Held → (now : ℕ) → Reply → Type 0
CanDraft held now (replies.Ask target) = is_xml_text target ≡ true
CanDraft held now (replies.Open accepted) = CanOpen held now accepted.session
CanDraft held now (replies.Leave token name indexes) =
    IsSome (session_row (rows_of held.records).opened token now held.header.horizon)
CanDraft held now (replies.End asked relay) = is_xml_text asked.id ≡ true
CanDraft held now (replies.Confirm response) = Unit {0}

-- ---- its answer

-- the texts with which it is answered
pub record HoldsAddresses (config : SpConfig) : Type 0 where
  pub texts : HoldsTexts config
  pub logout : IfSome config.idp.logout IsText

-- a record draws an ID first
abbrev pub DrawsId : SpRecord → Type 0
DrawsId r = IsSomeAnd (drawn_id r 0) IsUsableId

abbrev pub IsAnswerable : SpRecord → Reply → Type 0
IsAnswerable r (replies.Ask target) = DrawsId r × IsDrawn r 1
IsAnswerable r (replies.Open accepted) = DrawsId r
IsAnswerable r (replies.Leave token name indexes) = DrawsId r × IsText name × AllByRecursion IsText indexes
IsAnswerable r (replies.End asked relay) = DrawsId r × IsText asked.id
IsAnswerable r (replies.Confirm response) = Unit {0}

pub record IsAskingAnswer (config : SpConfig) (r : SpRecord) (now : ℕ) (bytes : List ℕ) : Type 0 where
  pub id : List ℕ
  pub relay : List ℕ
  pub has : HasIds r id relay
  pub asks : IsAskAnswer config id relay now bytes

pub record IsOpeningAnswer (accepted : Accepted) (r : SpRecord) (bytes : List ℕ) : Type 0 where
  pub token : List ℕ
  pub has : HasId r token
  pub is : bytes ≡ opened_answer accepted.target token

pub record IsLeavingAnswer (config : SpConfig) (r : SpRecord) (now : ℕ) (name : List ℕ) (indexes : List (List ℕ))
    (bytes : List ℕ) : Type 0 where
  pub id : List ℕ
  pub has : HasId r id
  pub leaves : Leaving (idp_at config now) id config.entity now name indexes bytes

pub record IsEndingAnswer (config : SpConfig) (r : SpRecord) (now : ℕ) (request : List ℕ) (relay : Option (List ℕ))
    (bytes : List ℕ) : Type 0 where
  pub id : List ℕ
  pub has : HasId r id
  pub ends : Ending (idp_at config now) id config.entity now request false relay bytes

abbrev pub IsAnswerTo : SpConfig → SpRecord → (now : ℕ) → Reply → (bytes : List ℕ) → Type 0
IsAnswerTo config r now (replies.Ask target) bytes = IsAskingAnswer config r now bytes
IsAnswerTo config r now (replies.Open accepted) bytes = IsOpeningAnswer accepted r bytes
IsAnswerTo config r now (replies.Leave token name indexes) bytes = IsLeavingAnswer config r now name indexes bytes
IsAnswerTo config r now (replies.End asked relay) bytes = IsEndingAnswer config r now asked.id relay bytes
IsAnswerTo config r now (replies.Confirm response) bytes = bytes ≡ end_answer (is_in_part response.outcome)

-- ---- in the words of a step

-- the record for which a reply stands; none where there is nothing to record
abbrev pub stands_for : Setup → Held → (now : ℕ) → Reply → Option SpRecord
stands_for setup held now reply =
    if is_nothing setup.config held now reply then None else Some
    (record_for setup.config.id_key setup.config held now reply)

abbrev pub sp_replies : ReplyRules Setup SpRecord Reply
sp_replies = record {
  wants = Wants;
  record_for = stands_for;
  shows = λ setup reply r now bytes. IsAnswerTo setup.config r now reply bytes;
  refusal = refusal_of;
}

-- what is replied to a request
abbrev pub RepliesTo : Setup → Held → Request → (now : ℕ) → Result (Replied Reply) Judged → Type 0
RepliesTo setup held request now =
    any.Replies (λ answer. Answers setup held request now answer None) (Wants setup held request now)

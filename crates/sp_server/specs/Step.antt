-- What a service provider does at one request.
use Rattle.std.specs.Prelude.{◌≡◌, ◌⊎◌, ℕ, nat_le, Bool, true, false, List, codes, Option, None, Some, if◌then◌else◌}
use Rattle.std.specs.Option.{option_to_list}
use Rattle.http_wire.specs.declared.answer.Answer.{Answer}
use Rattle.http_wire.specs.declared.answer.Answer.TheVariants.{Fixed, Full}
use Rattle.http_wire.specs.Requests.{Request}
use Rattle.http_wire.specs.Cookies.{cookie_value}
use Rattle.verdict_codes.specs.Codes.{number_of}
use Rattle.verdict_codes.specs.declared.codes.Verdict.{Verdict}
use Rattle.verdict_codes.specs.declared.codes.Verdict.TheVariants.{NoSuchSession, RegistryExpired, UnknownLogout}
use Rattle.protocol_messages.specs.declared.logout.LogoutRequest.{LogoutRequest}
use Rattle.protocol_messages.specs.declared.logout.LogoutResponse.{LogoutResponse}
use Rattle.logout_profile.specs.declared.logout.Logout.TheVariants as logouts
use Rattle.logout_answers.specs.Answers.{Ending, Leaving, end_answer, is_in_part}
use Rattle.access_policy.specs.declared.rule.Rule.{Rule}
use Rattle.access_policy.specs.Decide as policies
use Rattle.ledger_records.specs.declared.sp_record.SpRecord.{SpRecord}
use Rattle.request_rows.specs.declared.row.AskedRow.{AskedRow}
use Rattle.request_rows.specs.declared.row.OpenedRow.{OpenedRow}
use Rattle.request_rows.specs.Rows.{RowsView, session_row}
use Rattle.request_ledger.specs.RowsOf.{SpRows, rows_of}
use Rattle.request_ledger.specs.Ledger.{Held, next_number}
use Rattle.request_ledger.specs.Draft.{drawn_id}
use Rattle.request_ledger.specs.Drafts.{asked, opened, left, ended, confirmed, ending, is_empty, is_waiting_now}
use Rattle.sp_rules.specs.declared.config.SpConfig.{SpConfig}
use Rattle.sp_rules.specs.Opening.{Brought, Opens}
use Rattle.sp_rules.specs.Shown.{session_of}
use Rattle.sp_rules.specs.Verdict.{IsRefused}
use Rattle.sp_answers.specs.Answers.{IsAskAnswer, user_answer, denied_answer, opened_answer, metadata_answer}
use Rattle.provider_node.specs.Step as any
use Rattle.service_routes.specs.declared.route.Route.TheVariants.{To, Refused}
use Rattle.sp_server.specs.declared.route.Service.TheVariants.{App, Consumer, Metadata, Logout, SingleLogout, Guard}
use Rattle.sp_server.specs.Routes.{route}
use Rattle.sp_server.specs.Guard.{guard_answer}
use Rattle.sp_server.specs.Peer.{idp_at, IsObeyed, IsNotObeyed}
use Rattle.owned_values.specs.Options.{◌>>=◌}

-- what a provider is set up with: its config, the rules of its policy where it has one, the moment at which its
-- registry of metadata ends where it has one, and whether it has a guard
pub record Setup : Type 0 where
  pub config : SpConfig
  pub policy : Option (List Rule)
  pub expiry : Option ℕ
  pub guard : Bool

-- whether the registry has ended
abbrev pub is_expired : Option ℕ → ℕ → Bool
is_expired None now = false
is_expired (Some moment) now = nat_le moment now

-- the live session of the request's cookie
abbrev pub session_for : Held → ℕ → Request → Option OpenedRow
session_for held now request = do
  token ← request.cookie >>= λ header. cookie_value header (codes "sp_sid")
  session_row (rows_of held.records).opened token now held.header.horizon

-- what a session is answered: the page of the user where the policy allows it or there is none, else the rule that
-- denies it
abbrev pub by_decision : OpenedRow → policies.Answer → List ℕ
by_decision row decision = if decision.allowed then user_answer row.name row.attributes else denied_answer decision.rule

abbrev pub shown_to : Option (List Rule) → List ℕ → OpenedRow → List ℕ
shown_to None path row = user_answer row.name row.attributes
shown_to (Some rules) path row = by_decision row (policies.decide rules path row.name row.attributes)

-- the rows as the verdict sees them
abbrev pub rows_seen : SpRows → RowsView
rows_seen rows = record {
  asked = rows.asked;
  opened = rows.opened;
  left = rows.left;
  spare = record { asked = 0; opened = 0; left = 0 };
}

-- the IDs of a record
abbrev pub HasIds : SpRecord → List ℕ → List ℕ → Type 0
HasIds r first second = (drawn_id r 0 ≡ Some first) × (drawn_id r 1 ≡ Some second)

abbrev pub HasId : SpRecord → List ℕ → Type 0
HasId r id = drawn_id r 0 ≡ Some id

-- the tokens of the live sessions that a LogoutRequest of the identity provider ends (SAML Core, 3.7.3.1): those of its
-- user with a listed index, or all where none is listed
abbrev pub ended_by : SpConfig → Held → (now : ℕ) → LogoutRequest → List (List ℕ)
ended_by config held now asked =
    ending now held.header.horizon config.idp.entity asked.name asked.indexes (rows_of held.records).opened

-- whether a logout that began here with a request of this ID waits for its response
abbrev pub is_awaited : Held → (now : ℕ) → (request : List ℕ) → Bool
is_awaited held now request = is_waiting_now (rows_of held.records).left request now held.header.horizon

-- the records that are added: a login is asked for; a form opens a session; a user leaves one; sessions end for the
-- identity provider
abbrev pub asked_record : SpConfig → Held → (now : ℕ) → (path : List ℕ) → SpRecord
asked_record config held now path = asked config.id_key (next_number held) now path

abbrev pub opened_record : SpConfig → Held → (now : ℕ) → Brought → SpRecord
opened_record config held now b = opened config.id_key (next_number held) now (session_of config now b.key.number b.login)

abbrev pub left_record : SpConfig → Held → (now : ℕ) → (token : List ℕ) → SpRecord
left_record config held now token = left config.id_key (next_number held) now token

abbrev pub ended_record : SpConfig → Held → (now : ℕ) → LogoutRequest → SpRecord
ended_record config held now asked =
    ended config.id_key (next_number held) now (ended_by config held now asked) asked.id

module _ (setup : Setup) (held : Held) (request : Request) (now : ℕ) (answer : Answer)
    (adds : Option SpRecord) where
  -- What is answered to a request by this ledger at this moment where nothing fails, and the record that is added with
  -- it.
  pub data Answers : Type 0 where
    -- there is no such service
    ByStatus : (status : ℕ) → route request ≡ Refused status → answer ≡ Fixed status → adds ≡ None → Answers
    -- the metadata
    ByMetadata : route request ≡ To Metadata → answer ≡ Full (metadata_answer setup.config) → adds ≡ None → Answers
    -- a page for a live session
    BySession : (row : OpenedRow) → route request ≡ To App → session_for held now request ≡ Some row
        → answer ≡ Full (shown_to setup.policy request.path row) → adds ≡ None → Answers
    -- without one a login is asked for, with the path as the target
    ByAsking : (bytes : List ℕ) → route request ≡ To App → session_for held now request ≡ None
        → is_expired setup.expiry now ≡ false → (id relay : List ℕ) → IsAskAnswer setup.config id relay now bytes
        → adds ≡ Some (asked_record setup.config held now request.path)
        → HasIds (asked_record setup.config held now request.path) id relay → answer ≡ Full bytes → Answers
    -- a proxy asks the guard who a request comes from
    ByGuard : route request ≡ To Guard
        → answer ≡ guard_answer setup.guard setup.policy request (session_for held now request) → adds ≡ None → Answers
    -- a posted form that opens a session
    ByOpening : (b : Brought) (row : AskedRow) → route request ≡ To Consumer → is_expired setup.expiry now ≡ false
        → Opens setup.config (rows_seen (rows_of held.records)) held.header.horizon now request.body b row
        → (token : List ℕ) → adds ≡ Some (opened_record setup.config held now b)
        → HasId (opened_record setup.config held now b) token → answer ≡ Full (opened_answer row.target token) → Answers
    -- a posted form that is refused
    ByVerdict : (verdict : Verdict) → route request ≡ To Consumer → is_expired setup.expiry now ≡ false
        → IsRefused setup.config (rows_seen (rows_of held.records)) held.header.horizon now request.body verdict
        → answer ≡ Fixed (number_of verdict) → adds ≡ None → Answers
    -- the registry has ended: nothing is asked, no session is opened, and no logout is served
    ByExpiry : (route request ≡ To Consumer) ⊎ (((route request ≡ To App) × (session_for held now request ≡ None))
        ⊎ ((route request ≡ To Logout) ⊎ (route request ≡ To SingleLogout)))
        → is_expired setup.expiry now ≡ true → answer ≡ Fixed (number_of RegistryExpired) → adds ≡ None → Answers
    -- a user leaves a live session, and the identity provider is asked to end its own: SAML Profiles, 4.4.3.1
    ByLeaving : (row : OpenedRow) (id bytes : List ℕ) → route request ≡ To Logout → is_expired setup.expiry now ≡ false
        → session_for held now request ≡ Some row → adds ≡ Some (left_record setup.config held now row.token)
        → HasId (left_record setup.config held now row.token) id
        → Leaving (idp_at setup.config now) id setup.config.entity now row.name (option_to_list row.index) bytes
        → answer ≡ Full bytes → Answers
    -- there is no live session to leave
    ByNoSession : route request ≡ To Logout → is_expired setup.expiry now ≡ false → session_for held now request ≡ None
        → answer ≡ Fixed (number_of NoSuchSession) → adds ≡ None → Answers
    -- a message of a logout that is refused
    ByLogoutVerdict : (verdict : Verdict) → route request ≡ To SingleLogout → is_expired setup.expiry now ≡ false
        → IsNotObeyed setup.config now request.body verdict → answer ≡ Fixed (number_of verdict) → adds ≡ None → Answers
    -- the identity provider asks to end sessions: they end, and it is told so with its relay (SAML Core, 3.7.3.1; SAML
    -- Profiles, 4.4.3.4)
    ByEnding : (asked : LogoutRequest) (relay : Option (List ℕ)) (id bytes : List ℕ) → route request ≡ To SingleLogout
        → is_expired setup.expiry now ≡ false → IsObeyed setup.config now request.body (logouts.Ask asked 0 relay)
        → is_empty (ended_by setup.config held now asked) ≡ false
        → adds ≡ Some (ended_record setup.config held now asked) → HasId (ended_record setup.config held now asked) id
        → Ending (idp_at setup.config now) id setup.config.entity now asked.id false relay bytes → answer ≡ Full bytes
        → Answers
    -- there is no such session to end
    ByNothingToEnd : (asked : LogoutRequest) (relay : Option (List ℕ)) → route request ≡ To SingleLogout
        → is_expired setup.expiry now ≡ false → IsObeyed setup.config now request.body (logouts.Ask asked 0 relay)
        → is_empty (ended_by setup.config held now asked) ≡ true → answer ≡ Fixed (number_of NoSuchSession)
        → adds ≡ None → Answers
    -- the identity provider replies to a logout that began here, and the user is shown how it ended: SAML Profiles,
    -- 4.4.3.5
    ByConfirming : (response : LogoutResponse) → route request ≡ To SingleLogout → is_expired setup.expiry now ≡ false
        → IsObeyed setup.config now request.body (logouts.Reply response 0)
        → is_awaited held now response.request ≡ true → adds ≡ Some (confirmed now response.request)
        → answer ≡ Full (end_answer (is_in_part response.outcome)) → Answers
    -- no such logout waits for a response
    ByUnknownLogout : (response : LogoutResponse) → route request ≡ To SingleLogout
        → is_expired setup.expiry now ≡ false → IsObeyed setup.config now request.body (logouts.Reply response 0)
        → is_awaited held now response.request ≡ false → answer ≡ Fixed (number_of UnknownLogout) → adds ≡ None
        → Answers

-- A provider: what it is set up with, and its ledger. What it does with what it answers is said of each provider.
abbrev pub Provider : Type 0
Provider = any.Provider Setup SpRecord

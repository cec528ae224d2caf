-- When a session is closed: exactly where its user leaves it or the identity provider ends it; and it stays closed.
use Rattle.std.specs.Prelude.{◌≡◌, ◌⊎◌, ℕ, true, false, List, Option, IsSome, None, Some}
use Rattle.std.specs.List.{list_any}
use Rattle.std.specs.Str.{bytes_eq}
use Rattle.conn_table.specs.Table.{Table}
use Rattle.crash_disk.specs.Counts.{Rose}
use Rattle.http_wire.specs.declared.answer.Answer.{Answer}
use Rattle.http_wire.specs.declared.answer.Answer.TheVariants.{Fixed}
use Rattle.http_wire.specs.Requests.{Request}
use Rattle.ledger_records.specs.declared.sp_record.Left.{Left}
use Rattle.ledger_records.specs.declared.sp_record.Ended.{Ended}
use Rattle.ledger_records.specs.declared.sp_record.SpRecord.{SpRecord}
use Rattle.ledger_records.specs.declared.sp_record.SpRecord.TheVariants as kinds
use Rattle.serve_loop.specs.Turns.{Turn, Run}
use Rattle.serve_loop.specs.Worlds.{World}
use Rattle.protocol_messages.specs.declared.logout.LogoutRequest.{LogoutRequest}
use Rattle.request_rows.specs.declared.row.OpenedRow.{OpenedRow}
use Rattle.request_rows.specs.Rows.{session_row}
use Rattle.request_ledger.specs.Compacting.{Compacts}
use Rattle.request_ledger.specs.RowsOf.{closes, is_among, rows_of}
use Rattle.request_ledger.specs.Record.{is_open, request_rules, AreRecords}
use Rattle.request_ledger.specs.Ledger.{Held}
use Rattle.logout_profile.specs.declared.logout.Logout.TheVariants as logouts
use Rattle.provider_node.specs.Points as any
use Rattle.provider_node.specs.Points.{Point, points}
use Rattle.provider_node.specs.Room.{HasRoom}
use Rattle.provider_node.specs.Histories.{IsProviders, IsAtStart}
use Rattle.provider_node.specs.declared.codes.TheConstants.{NO_MEMORY}
use Rattle.service_routes.specs.declared.route.Route.TheVariants.{To}
use Rattle.sp_server.specs.declared.route.Service.TheVariants.{Logout, SingleLogout}
use Rattle.sp_server.specs.Routes.{route}
use Rattle.sp_server.specs.Peer.{IsObeyed}
use Rattle.sp_server.specs.Step.{Setup, Provider, Answers, ended_by, ended_record, is_expired, left_record, session_for}
use Rattle.provider_node.specs.Step.{Serves}

-- Over a ledger, at a moment, the user of a request leaves the session of this row: the session lives, and the request
-- has its cookie.
pub record LeavesOver (setup : Setup) (held : Held) (request : Request) (now : ℕ) (row : OpenedRow) : Type 0 where
  pub posted : route request ≡ To Logout
  pub unexpired : is_expired setup.expiry now ≡ false
  pub live : session_for held now request ≡ Some row

-- The form that a request posts is a LogoutRequest of the identity provider that is obeyed.
pub record EndsOver (setup : Setup) (request : Request) (now : ℕ) (asked : LogoutRequest)
    (relay : Option (List ℕ)) : Type 0 where
  pub posted : route request ≡ To SingleLogout
  pub unexpired : is_expired setup.expiry now ≡ false
  pub obeyed : IsObeyed setup.config now request.body (logouts.Ask asked 0 relay)

-- the session of a token is closed: there is one, and none with this token is open
pub record IsClosed (held : Held) (token : List ℕ) : Type 0 where
  pub there : list_any (λ row. bytes_eq row.token token) (rows_of held.records).opened ≡ true
  pub shut : is_open (rows_of held.records).opened token ≡ false

-- A session is closed only where its user leaves it, or the identity provider ends it: a record of the one kind names
-- the session of the request's cookie, one of the other kind lists just the live sessions that are asked for.
abbrev pub IsLeftBy : Setup → Held → Request → ℕ → Left → Type 0
IsLeftBy setup held request now r = (row : OpenedRow) × LeavesOver setup held request now row × (r.token ≡ row.token)

abbrev pub IsEndedBy : Setup → Held → Request → ℕ → Ended → Type 0
IsEndedBy setup held request now r =
    (asked : LogoutRequest) × (relay : Option (List ℕ)) × EndsOver setup request now asked relay
    × (r.tokens ≡ ended_by setup.config held now asked)

abbrev pub OnlyWhereAUserLeaves : Type 0
OnlyWhereAUserLeaves =
    (setup : Setup) (held : Held) (request : Request) (now : ℕ) (answer : Answer) (r : Left)
    → Answers setup held request now answer (Some (kinds.Left r))
    → IsLeftBy setup held request now r

abbrev pub OnlyWhereSessionsEnd : Type 0
OnlyWhereSessionsEnd =
    (setup : Setup) (held : Held) (request : Request) (now : ℕ) (answer : Answer) (r : Ended)
    → Answers setup held request now answer (Some (kinds.Ended r))
    → IsEndedBy setup held request now r

-- And nothing else closes one: where a session lives before a step that leaves the ledger whole, and at the same moment
-- does not behind it, a record that closes it is added with the answer, a Left of its token or an Ended that lists it.
pub record IsClosedWith (setup : Setup) (found : Held) (request : Request) (now : ℕ) (answer : Answer)
    (token : List ℕ) : Type 0 where
  pub held : Held
  pub from : (held ≡ found) ⊎ Compacts now found held
  pub r : SpRecord
  pub answers : Answers setup held request now answer (Some r)
  pub closing : closes token r ≡ true

abbrev pub NothingElseCloses : Type 0
NothingElseCloses =
    (found : Held) (request : Request) (now faults later : ℕ) (answer : Answer) (old new : Provider) (token : List ℕ)
    (row : OpenedRow)
    → AreRecords found.records → Serves request_rules Answers found request now (Rose faults later) answer old new
    → new.ledger.broken ≡ false
    → session_row (rows_of found.records).opened token now found.header.horizon ≡ Some row
    → session_row (rows_of new.ledger.held.records).opened token now new.ledger.held.header.horizon ≡ None
    → IsClosedWith old.setup found request now answer token

-- And wherever one is left or ended, there is room for the record, at once or behind one compaction, and the disk does
-- not fail, it is closed behind the step; or there was no memory.
abbrev pub WhereverAUserLeaves : Type 0
WhereverAUserLeaves =
    (found : Held) (request : Request) (now faults later : ℕ) (answer : Answer) (old new : Provider) (row : OpenedRow)
    → Serves request_rules Answers found request now (Rose faults later) answer old new
    → LeavesOver old.setup found request now row
    → HasRoom request_rules found now (λ held. left_record old.setup.config held now row.token) → ¬ (Rose faults later)
    → (answer ≡ Fixed NO_MEMORY) ⊎ IsClosed new.ledger.held row.token

abbrev pub WhereverSessionsEnd : Type 0
WhereverSessionsEnd =
    (found : Held) (request : Request) (now faults later : ℕ) (answer : Answer) (old new : Provider)
    (asked : LogoutRequest) (relay : Option (List ℕ)) (token : List ℕ)
    → Serves request_rules Answers found request now (Rose faults later) answer old new
    → EndsOver old.setup request now asked relay
    → is_among token (ended_by old.setup.config found now asked) ≡ true
    → HasRoom request_rules found now (λ held. ended_record old.setup.config held now asked) → ¬ (Rose faults later)
    → (answer ≡ Fixed NO_MEMORY) ⊎ IsClosed new.ledger.held token

-- No session of this token lives over a ledger, at any moment.
abbrev pub IsOver : Held → List ℕ → Type 0
IsOver held token = (now : ℕ) → session_row (rows_of held.records).opened token now held.header.horizon ≡ None

-- A session that is closed is never found live again, whatever is recorded, compacted and opened since.
abbrev pub AClosedSessionStaysClosed : Type 0
AClosedSessionStaysClosed = any.AClosedSessionStaysClosed request_rules IsClosed IsOver

-- ---- over a service

-- a session that is closed at one point of a service is over at each later one: in the provider's ledger, and in each
-- that a crash may leave there; the latest point comes first
abbrev pub StayClosed : List (Point Provider) → Type 0
StayClosed = any.StayClosed request_rules IsClosed IsOver

-- A session that is closed in a service is never live again, neither at a later request nor in what a crash may leave.
abbrev pub SessionsStayClosedInAService : Type 0
SessionsStayClosedInAService =
    (first last : World Provider) (turns : List (Turn Provider)) (kept : Table) → IsAtStart request_rules first
    → IsSome first.disk → Run (IsProviders request_rules Answers) first turns kept last
    → StayClosed (points first turns last)

-- A service provider and an identity provider in one world, each over its starts with crashes between them, and what
-- joins them.
use Rattle.std.specs.Prelude.{◌≡◌, ◌⊎◌, ℕ, List, Contains, Some}
use Rattle.crash_disk.specs.Counts.{Rose}
use Rattle.http_wire.specs.declared.answer.Answer.{Answer}
use Rattle.http_wire.specs.declared.answer.Answer.TheVariants.{Fixed}
use Rattle.ledger_records.specs.declared.sp_record.Opened.{Opened as OpenedRecord}
use Rattle.ledger_records.specs.declared.sp_record.SpRecord.{SpRecord}
use Rattle.ledger_records.specs.declared.sp_record.SpRecord.TheVariants as sp_kinds
use Rattle.ledger_records.specs.declared.idp_record.IdpRecord.TheVariants as kinds
use Rattle.request_rows.specs.declared.row.AskedRow.{AskedRow}
use Rattle.request_rows.specs.declared.row.NewSession.{NewSession}
use Rattle.login_origin.specs.Signed.{Signed}
use Rattle.login_origin.specs.Premises.{Unforged, NoCollision}
use Rattle.sp_rules.specs.declared.config.SpConfig.{SpConfig}
use Rattle.sp_rules.specs.Opening.{Brought}
use Rattle.sp_rules.specs.Shown.{session_of}
use Rattle.serve_loop.specs.Turns.{Asked}
use Rattle.provider_node.specs.declared.codes.TheConstants.{NO_MEMORY}
use Rattle.provider_node.specs.Starts as any
use Rattle.provider_node.specs.Origins.{RecordsHaveTheirRequests, WasAsked}
use Rattle.provider_node.specs.Starts.{Start, asked_over, AreOverBehind, AreStarts, AreStartsAt}
use Rattle.provider_node.specs.Staying.{SessionsStayOver}
use Rattle.request_ledger.specs.Ledger.{Held}
use Rattle.request_ledger.specs.Record.{AreRecords, request_rules}
use Rattle.request_ledger.specs.RowsOf.{closes}
use Rattle.sp_server.specs.Logouts.{IsClosed, IsOver}
use Rattle.sp_server.specs.Sessions.{GivesSession, HasRoom, IsOpened, OpensOver}
use Rattle.sp_server.specs.Starts.{AreKeptOnceOver, AreKeptOnceOverAt}
use Rattle.sp_server.specs.Staying as opened
use Rattle.sp_server.specs.Step.{Answers}
use Rattle.sp_server.specs.Step as sp
use Rattle.idp_ledger.specs.Ledger as idp_ledger
use Rattle.idp_ledger.specs.Record.{idp_rules}
use Rattle.idp_rules.specs.declared.config.IdpConfig.{IdpConfig}
use Rattle.idp_rows.specs.RowsOf.{ends}
use Rattle.idp_server.specs.Histories.{IsDead, IsEnded}
use Rattle.idp_server.specs.Staying as begun
use Rattle.idp_server.specs.Step as idp
use Rattle.recorded_logins.specs.Recorded.{Added, AreOf}
use Rattle.recorded_logins.specs.Logins.{IsRecordedSession}
use Rattle.provider_node.specs.Step.{Serves}

-- An identity provider of this setup recorded this at a request of these starts, and its answer stands for it.
pub record WasRecorded (setup : IdpConfig) (starts : List (Start idp.Provider)) (one : Added) : Type 0 where
  pub asked : Asked idp.Provider
  pub there : Contains (asked_over starts) asked
  pub by : asked.node.setup ≡ setup
  pub stands : idp.Answers setup one.held asked.request asked.now asked.answer (Some one.r)

-- It recorded this in these starts, or its ledger had the record at first.
abbrev pub IsKnown : IdpConfig → idp_ledger.Held → List (Start idp.Provider) → Added → Type 0
IsKnown setup start starts one = Contains start.records one.r ⊎ WasRecorded setup starts one

-- These are elements that it signed, each for one of these records, all of which it recorded, then or before.
pub record WereSigned (setup : IdpConfig) (start : idp_ledger.Held) (starts : List (Start idp.Provider)) (added : List Added)
    (issued : List Signed) : Type 0 where
  pub recorded : (one : Added) → Contains added one → IsKnown setup start starts one
  pub of : AreOf setup added issued

-- The session is that of a login which the identity provider recorded: of one of these records, for this provider, to
-- its address and in its time.
pub record IsOfARecordedLogin (setup : IdpConfig) (start : idp_ledger.Held) (starts : List (Start idp.Provider)) (added : List Added)
    (config : SpConfig) (now : ℕ) (session : NewSession) : Type 0 where
  pub is : IsRecordedSession setup added config now session
  pub recorded : IsKnown setup start starts (record { held = is.held; r = kinds.Issued is.r })

-- A request that the service provider was asked opens a session exactly where the posted form opens one: it records
-- one, with whatever answer, only there; and wherever a form does, over the ledger that the step found, where there is
-- room and the disk does not fail, the session is recorded and given, or there was no memory.
pub record OpensExactly (asked : Asked sp.Provider) : Type 0 where
  pub only : (held : Held) (answer : Answer) (r : OpenedRecord)
      → sp.Answers asked.node.setup held asked.request asked.now answer (Some (sp_kinds.Opened r))
      → GivesSession asked.node.setup held asked.request asked.now (sp_kinds.Opened r) answer
  pub wherever : (found : Held) (faults later : ℕ) (new : sp.Provider) (b : Brought) (row : AskedRow)
      → Serves request_rules Answers found asked.request asked.now (Rose faults later) asked.answer asked.node new
      → OpensOver asked.node.setup found asked.request asked.now b row → HasRoom asked.node.setup found asked.now b
      → ¬ (Rose faults later)
      → (asked.answer ≡ Fixed NO_MEMORY) ⊎ IsOpened asked.node.setup found asked.request asked.now b asked.answer new.ledger.held

-- Sessions are opened exactly where forms open them, also where a crash cut the request; and each record that stands in
-- a ledger of either which may be opened behind these starts stood there at first, or is one that a request of these
-- starts adds, whatever was answered, so each session is one that was there at first or that was opened so. Each that
-- is given, with whatever answer, is of a recorded login: for each list of what the identity provider signed for
-- records of these starts, or that it had at first, where no HMAC in the posted form is made by anybody else and no
-- other text there has the hash of one of them. What the service provider acknowledged is kept, once: no request opens
-- two sessions, those whose answer was lost included. A session of the service provider that was closed, at first or by
-- what it acknowledged, is live in no ledger that may be opened behind these starts, and none of the identity provider
-- that was ended, at first or by what that acknowledged. And at both, for each list of moments among which are all of
-- these starts, those of requests that were cut included, each session whose answer went out stays as it was left.
pub record Headline (start : Held) (sp_starts : List (Start sp.Provider)) (idp_start : idp_ledger.Held)
    (idp_starts : List (Start idp.Provider)) : Type 0 where
  pub opens : (asked : Asked sp.Provider) → WasAsked sp_starts asked → OpensExactly asked
  pub from : RecordsHaveTheirRequests request_rules Answers start sp_starts
  pub idp_from : RecordsHaveTheirRequests idp_rules idp.Answers idp_start idp_starts
  pub recorded : (setup : IdpConfig) (added : List Added) (issued : List Signed) (asked : Asked sp.Provider) (held : Held) (answer : Answer)
      (r : SpRecord)
      → WereSigned setup idp_start idp_starts added issued → WasAsked sp_starts asked
      → Unforged issued asked.node.setup.config asked.now asked.request.body → NoCollision issued asked.request.body
      → (gives : GivesSession asked.node.setup held asked.request asked.now r answer)
      → IsOfARecordedLogin setup idp_start idp_starts added asked.node.setup.config asked.now
      (session_of asked.node.setup.config asked.now gives.brought.key.number gives.brought.login)
  pub once : AreKeptOnceOver start sp_starts
  -- where each request of the starts was asked at one of these moments, each compaction in such a history was at one of
  -- them
  pub once_at : (moments : List ℕ) → AreStartsAt request_rules Answers (Contains moments) start sp_starts
      → AreKeptOnceOverAt (Contains moments) start sp_starts
  pub closed : AreOverBehind request_rules Answers IsClosed closes IsOver start sp_starts
  pub ended : AreOverBehind idp_rules idp.Answers IsEnded ends IsDead idp_start idp_starts
  pub opened_stay : (moments : List ℕ) → AreStartsAt request_rules Answers (Contains moments) start sp_starts
      → SessionsStayOver request_rules opened.WasOpened opened.IsAsLeft Answers moments start sp_starts
  pub begun_stay : (moments : List ℕ) → AreStartsAt idp_rules idp.Answers (Contains moments) idp_start idp_starts
      → SessionsStayOver idp_rules begun.Began begun.IsAsLeft idp.Answers moments idp_start idp_starts

-- It holds of all starts of the two, each of which opens what a crash of the one before it may have left.
abbrev pub TheHeadlineHoldsOfBoth : Type 0
TheHeadlineHoldsOfBoth =
    (start : Held) (sp_starts : List (Start sp.Provider)) (idp_start : idp_ledger.Held) (idp_starts : List (Start idp.Provider))
    → AreRecords start.records → AreStarts request_rules Answers start sp_starts → any.AreStarts idp_rules idp.Answers idp_start idp_starts
    → Headline start sp_starts idp_start idp_starts

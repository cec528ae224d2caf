-- What a run of a service provider comes to: sessions are opened exactly where a posted form opens one, no request
-- opens two, and where only the identity provider makes HMACs that match, each session is a login that it signed; they
-- are closed exactly where their users leave them or the identity provider ends them, and one that is closed is never
-- live again.
use Rattle.std.specs.Prelude.{◌≡◌, ◌≢◌, ◌≤◌, ◌⊎◌, ℕ, true, false, List, Contains, Option, IsSome, None, Some}
use Rattle.std.specs.List.{AllByRecursion}
use Rattle.saml_outside.specs.Files.{File}
use Rattle.crash_disk.specs.Counts.{Rose}
use Rattle.crash_disk.specs.Disk.{Image}
use Rattle.http_wire.specs.declared.answer.Answer.{Answer}
use Rattle.http_wire.specs.declared.answer.Answer.TheVariants.{Fixed, Full}
use Rattle.http_wire.specs.Statuses.{HasStatus}
use Rattle.http_wire.specs.Views.{answer_bytes}
use Rattle.http_wire.specs.Requests.{Request}
use Rattle.ledger_records.specs.declared.sp_record.Ended.{Ended as EndedRecord}
use Rattle.ledger_records.specs.declared.sp_record.Left.{Left as LeftRecord}
use Rattle.ledger_records.specs.declared.sp_record.Opened.{Opened as OpenedRecord}
use Rattle.ledger_records.specs.declared.sp_record.SpRecord.{SpRecord}
use Rattle.ledger_records.specs.declared.sp_record.SpRecord.TheVariants as kinds
use Rattle.login_origin.specs.Signed.{Signed, IsSigned}
use Rattle.login_origin.specs.Premises.{Unforged, NoCollision}
use Rattle.login_origin.specs.Origin.{IsLoginOf}
use Rattle.serve_loop.specs.Turns.{Asked, Turn, asked_in}
use Rattle.serve_loop.specs.Worlds.{World}
use Rattle.protocol_messages.specs.declared.logout.LogoutRequest.{LogoutRequest}
use Rattle.provider_config.specs.declared.config.RegistryLine.{RegistryLine}
use Rattle.provider_config.specs.declared.config.SpFile.TheVariants.{Registry}
use Rattle.request_ledger.specs.Ledger.{Held}
use Rattle.request_ledger.specs.Laws.{AnswerAlike}
use Rattle.request_ledger.specs.Record.{AreRecords, request_rules}
use Rattle.request_ledger.specs.RowsOf.{is_among, rows_of}
use Rattle.request_rows.specs.declared.row.AskedRow.{AskedRow}
use Rattle.request_rows.specs.declared.row.OpenedRow.{OpenedRow}
use Rattle.request_rows.specs.Rows.{session_row}
use Rattle.sp_rules.specs.Opening.{Brought}
use Rattle.sp_server.specs.Histories.{AreKeptOnce}
use Rattle.provider_node.specs.Histories.{Stands}
use Rattle.sp_server.specs.Logouts.{EndsOver, IsClosed, IsClosedWith, IsEndedBy, IsLeftBy, LeavesOver, StayClosed}
use Rattle.sp_server.specs.Recorded.{IsPosted}
use Rattle.provider_node.specs.Recorded.{IsRecorded}
use Rattle.sp_server.specs.Guarding.{AsksGuard, IsVouchedAt, TellsExactly}
use Rattle.service_routes.specs.declared.route.Route.TheVariants.{To}
use Rattle.sp_server.specs.declared.route.Service.TheVariants.{App, Guard}
use Rattle.sp_server.specs.Routes.{route}
use Rattle.sp_server.specs.Staying.{WasOpened, IsAsLeft}
use Rattle.provider_node.specs.Staying.{SessionsStay, WhatWasOpenedIsAsLeft}
use Rattle.sp_server.specs.Sessions.{GivesSession, HasRoom, IsOpened, OpensOver}
use Rattle.provider_node.specs.declared.codes.TheConstants.{NO_MEMORY}
use Rattle.provider_node.specs.Added.{IsAddedBy}
use Rattle.provider_node.specs.Lasting.{AreKeptSince}
use Rattle.provider_node.specs.Points.{points}
use Rattle.provider_node.specs.Room as room
use Rattle.provider_node.specs.Step.{IsWhole}
use Rattle.sp_server.specs.Step.{Provider, Answers, Setup, ended_by, ended_record, left_record, session_for, shown_to}
use Rattle.verdict_codes.specs.Codes.{number_of}
use Rattle.verdict_codes.specs.declared.codes.Verdict.TheVariants.{RegistryExpired}
use Rattle.provider_run.specs.Headlines.{AddsOnlyItsOwn, AnswersForACause, AnswersOnceRecorded, EachGoes, GoesOnDisk, HeadlineBy, HeadlineOf, KeepsWhatIsVisible, ServedOver, ServedRun, WhereAsked}
use Rattle.provider_run.specs.Providers.{Begins}
use Rattle.provider_run.specs.Runs.{Outside, world_of}
use Rattle.sp_setup.specs.Laws.{IsFromRegistry}
use Rattle.sp_runs.specs.Laws.{AsksAndOpensNothing}
use Rattle.sp_runs.specs.Runs.{IsServedBy, address, key, served_by}

-- ---- one request, which the provider was asked in one world, and which left another behind

-- A session is recorded, with whatever answer, only where the posted form opens it, and so it is of each record that is
-- added (`AddsOnlyItsOwn`). And wherever a form does, over the ledger that the step found, where there is room, at once
-- or behind one compaction, and the disk does not fail, the session is recorded and given; or there was no memory.
pub record OpensExactly (asked : Asked Provider) (before after : World Provider) : Type 0 where
  pub only : (held : Held) (answer : Answer) (r : OpenedRecord)
      → Answers asked.node.setup held asked.request asked.now answer (Some (kinds.Opened r))
      → GivesSession asked.node.setup held asked.request asked.now (kinds.Opened r) answer
  pub wherever : (found : Held) (b : Brought) (row : AskedRow)
      → ServedOver request_rules Answers found asked before after
      → OpensOver asked.node.setup found asked.request asked.now b row
      → HasRoom asked.node.setup found asked.now b → ¬ (Rose before.disk_faults after.disk_faults)
      → (asked.answer ≡ Fixed NO_MEMORY) ⊎ IsOpened asked.node.setup found asked.request asked.now b asked.answer
      after.node.ledger.held

-- A session is closed, with whatever answer, only by a Left of its token, which a POST to /logout with its cookie adds
-- while it lives, or by an Ended that lists it, which a request with a LogoutRequest of the identity provider that is
-- obeyed adds; nothing else closes one. And wherever one of them does, over the ledger that the step found, where there
-- is room, at once or behind one compaction, and the disk does not fail, the session is closed behind the step; or
-- there was no memory.
pub record ClosesExactly (asked : Asked Provider) (before after : World Provider) : Type 0 where
  pub only_left : (held : Held) (answer : Answer) (r : LeftRecord)
      → Answers asked.node.setup held asked.request asked.now answer (Some (kinds.Left r))
      → IsLeftBy asked.node.setup held asked.request asked.now r
  pub only_ended : (held : Held) (answer : Answer) (r : EndedRecord)
      → Answers asked.node.setup held asked.request asked.now answer (Some (kinds.Ended r))
      → IsEndedBy asked.node.setup held asked.request asked.now r
  pub nothing_else : (found : Held) (token : List ℕ) (row : OpenedRow) → AreRecords found.records
      → ServedOver request_rules Answers found asked before after → after.node.ledger.broken ≡ false
      → session_row (rows_of found.records).opened token asked.now found.header.horizon ≡ Some row
      → session_row (rows_of after.node.ledger.held.records).opened token asked.now
      after.node.ledger.held.header.horizon ≡ None
      → IsClosedWith asked.node.setup found asked.request asked.now asked.answer token
  pub wherever_left : (found : Held) (row : OpenedRow) → ServedOver request_rules Answers found asked before after
      → LeavesOver asked.node.setup found asked.request asked.now row
      → room.HasRoom request_rules found asked.now (λ held. left_record asked.node.setup.config held asked.now
      row.token)
      → ¬ (Rose before.disk_faults after.disk_faults)
      → (asked.answer ≡ Fixed NO_MEMORY) ⊎ IsClosed after.node.ledger.held row.token
  pub wherever_ended : (found : Held) (message : LogoutRequest) (relay : Option (List ℕ)) (token : List ℕ)
      → ServedOver request_rules Answers found asked before after
      → EndsOver asked.node.setup asked.request asked.now message relay
      → is_among token (ended_by asked.node.setup.config found asked.now message) ≡ true
      → room.HasRoom request_rules found asked.now (λ held. ended_record asked.node.setup.config held asked.now message)
      → ¬ (Rose before.disk_faults after.disk_faults)
      → (asked.answer ≡ Fixed NO_MEMORY) ⊎ IsClosed after.node.ledger.held token

-- Each form and each page that is answered to what is posted, and each form that asks for a login, stands for one
-- record, which is in every image that a crash may leave once the provider has answered, before a byte is sent.
pub record IsRecordedFirst (asked : Asked Provider) (before after : World Provider) : Type 0 where
  pub posted : AnswersOnceRecorded request_rules Answers IsPosted asked after
  pub requested : (found : Held) (bytes : List ℕ) → asked.answer ≡ Full bytes
      → ServedOver request_rules Answers found asked before after
      → route asked.request ≡ To App → session_for found asked.now asked.request ≡ None
      → IsRecorded request_rules Answers asked.node.setup asked.request asked.now (Full bytes) after.disk

-- Each session that is given, with whatever answer, is of a login that was signed: for every list of what an identity
-- provider signed, where no HMAC is forged and no hash collides in the posted form.
abbrev pub IsOfASignedLogin : Asked Provider → Type 0
IsOfASignedLogin asked =
    (issued : List Signed) (held : Held) (answer : Answer) (r : SpRecord) → AllByRecursion IsSigned issued
    → Unforged issued asked.node.setup.config asked.now asked.request.body → NoCollision issued asked.request.body
    → (gives : GivesSession asked.node.setup held asked.request asked.now r answer)
    → IsLoginOf issued gives.brought.login

-- A session that lives over the ledger that the step found is answered by the page of its user, or by that of the rule
-- of the policy that denies it; or there was no memory.
abbrev pub IsShownByItsRow : (asked : Asked Provider) (before after : World Provider) → Type 0
IsShownByItsRow asked before after =
    (found : Held) (row : OpenedRow) → ServedOver request_rules Answers found asked before after
    → route asked.request ≡ To App → session_for found asked.now asked.request ≡ Some row
    → (asked.answer ≡ Full (shown_to asked.node.setup.policy asked.request.path row)) ⊎ (asked.answer ≡ Fixed NO_MEMORY)

-- A proxy that asks at /auth is answered 200 exactly where the session of the request's cookie lives at that moment
-- over the ledger that the step found, and no policy denies it the path, which is plain then; the answer names that
-- session's user and values, or there was no memory. And with whatever setup and ledger: where it is answered 200, it
-- is for such a session. Nothing is recorded.
pub record GuardsExactly (asked : Asked Provider) (before after : World Provider) : Type 0 where
  pub tells : (found : Held) → AsksGuard asked.node.setup asked.request
      → ServedOver request_rules Answers found asked before after
      → ((asked.answer ≡ Fixed NO_MEMORY) ⊎ TellsExactly asked.node.setup found asked.request asked.now asked.answer)
      × IsWhole asked.node after.node found
  pub only : route asked.request ≡ To Guard → HasStatus 200 (answer_bytes asked.answer)
      → IsVouchedAt asked.node asked.disk asked.request asked.now (answer_bytes asked.answer)

-- ---- the run

-- a request is answered by one step, and so it is of it, whatever the worlds are in which the provider was asked
pub record GoesExactly (asked : Asked Provider) : Type 0 where
  pub steps : WhereAsked request_rules Answers asked (GoesOnDisk request_rules Answers asked)
  pub causes : WhereAsked request_rules Answers asked (AnswersForACause request_rules Answers asked)
  pub opens : WhereAsked request_rules Answers asked (OpensExactly asked)
  pub closes : WhereAsked request_rules Answers asked (ClosesExactly asked)
  pub recorded : WhereAsked request_rules Answers asked (IsRecordedFirst asked)
  pub guards : WhereAsked request_rules Answers asked (GuardsExactly asked)
  pub signed : IsOfASignedLogin asked
  pub added : WhereAsked request_rules Answers asked (λ before after. AddsOnlyItsOwn request_rules Answers asked)
  pub starved : WhereAsked request_rules Answers asked (λ before after. KeepsWhatIsVisible request_rules AnswerAlike
      asked after)
  pub shown : WhereAsked request_rules Answers asked (IsShownByItsRow asked)

-- ---- its files

-- A run keeps to what its config says: where this has a registry, the identity provider is the one that the registry
-- lists; each request is served by what the run was set up with; from the moment on at which the registry ends nothing
-- is recorded, no request adds a record, whatever is answered to it and also where a crash cuts it, no login is asked
-- for, no session is opened and no logout is served; and without a registry it is never answered that one has ended.
pub record KeepsToItsConfig (told : Option (List File)) (file : List ℕ) (before : Outside) (provider : Provider)
    (opened : Outside) (begins : Begins IsServedBy address key request_rules told file before provider opened)
    (turns : List (Turn Provider)) : Type 0 where
  pub tells : (line : RegistryLine) → Contains begins.set_up.setup.lines.files (Registry line)
      → IsFromRegistry told line begins.set_up.setup × (provider.setup ≡ served_by begins.set_up.setup)
  pub same : (asked : Asked Provider) → Contains (asked_in turns) asked
      → asked.node.setup ≡ served_by begins.set_up.setup
  pub ends : (asked : Asked Provider) (until : ℕ) (r : SpRecord) → begins.set_up.setup.expiry ≡ Some until
      → Contains (asked_in turns) asked → until ≤ asked.now → ¬ (Stands request_rules Answers asked (Some r))
  pub adds_none : (request : Request) (until now : ℕ) (r : SpRecord) → begins.set_up.setup.expiry ≡ Some until
      → until ≤ now → ¬ (IsAddedBy Answers (served_by begins.set_up.setup) request now r)
  pub asks : (asked : Asked Provider) (until : ℕ) → begins.set_up.setup.expiry ≡ Some until
      → Contains (asked_in turns) asked → until ≤ asked.now
      → AsksAndOpensNothing (served_by begins.set_up.setup) asked.request asked.answer
  pub without : (asked : Asked Provider)
      → ((line : RegistryLine) → ¬ (Contains begins.set_up.setup.lines.files (Registry line)))
      → Contains (asked_in turns) asked → asked.answer ≢ Fixed (number_of RegistryExpired)

-- ---- all of it

-- What is said of a run that served: it kept to its config; each request opened and closed sessions exactly, those that
-- it opened of logins that were signed, and was answered once its record was durable; and where the disk tells, what
-- the answers acknowledged is in the history of every ledger that a crash may leave behind the run, no two sessions are
-- of one request, those at the start and those that were let go included; from each point of the run on, also inside
-- later requests, what was acknowledged by then is in the history of every ledger that a crash might leave; a session
-- that is closed is live at no later request, and in no ledger that a crash may leave since; and one whose answer went
-- out is as it was left in every image that a crash may leave behind the run: where it ends behind each moment of the
-- run it lives there, closed only where a record that was added since closes it, and its request stays spent while it
-- could be answered.
pub record Says (left : ℕ → Image → Type 0) (told : Option (List File)) (file : List ℕ) (before : Outside)
    (turns : List (Turn Provider)) (after : Outside)
    (run : ServedRun IsServedBy address key request_rules Answers left told file before turns after) : Type 0 where
  pub config : KeepsToItsConfig told file before run.provider run.opened run.begins turns
  pub each : EachGoes GoesExactly turns
  pub once : IsSome before.disk → AreKeptOnce (world_of run.provider run.opened) (world_of run.last after) turns
  pub since : IsSome before.disk → AreKeptSince request_rules Answers left (world_of run.provider run.opened) turns
      run.serves.kept run.serves.last run.serves.run
  pub closed : IsSome before.disk
      → StayClosed (points (world_of run.provider run.opened) turns (world_of run.last after))
  pub stay : IsSome before.disk → SessionsStay request_rules WasOpened IsAsLeft Answers
      (world_of run.provider run.opened) (world_of run.last after) turns
  pub as_left : WhatWasOpenedIsAsLeft request_rules WasOpened IsAsLeft

-- A run served nothing, or it served so.
abbrev pub Headline : HeadlineOf Setup SpRecord
Headline = HeadlineBy IsServedBy address key request_rules Answers Says

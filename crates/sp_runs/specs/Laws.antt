-- The laws of whole runs.
use Rattle.std.specs.Prelude.{◌≡◌, ◌≢◌, ◌≤◌, ◌⊎◌, ℕ, true, false, List, Contains, Option, IsSome, Some, Ok, Result}
use Rattle.std.specs.List.{AllByRecursion}
use Rattle.saml_outside.specs.Files.{File}
use Rattle.crash_disk.specs.Counts.{Rose}
use Rattle.crash_disk.specs.Disk.{Image, DiskState}
use Rattle.conn_table.specs.Table.{Table}
use Rattle.http_wire.specs.declared.answer.Answer.{Answer}
use Rattle.http_wire.specs.declared.answer.Answer.TheVariants.{Fixed, Full}
use Rattle.http_wire.specs.Requests.{Request}
use Rattle.ledger_records.specs.declared.sp_record.SpRecord.{SpRecord}
use Rattle.login_origin.specs.Signed.{Signed, IsSigned}
use Rattle.login_origin.specs.Premises.{Unforged, NoCollision}
use Rattle.login_origin.specs.Origin.{IsLoginOf}
use Rattle.serve_loop.specs.declared.served.Served.{Served}
use Rattle.serve_loop.specs.declared.served.ServeFault.{ServeFault}
use Rattle.serve_loop.specs.Serving.{Ends}
use Rattle.serve_loop.specs.Turns.{Asked, Run, Turn, asked_in}
use Rattle.serve_loop.specs.Worlds.{World}
use Rattle.provider_config.specs.declared.config.RegistryLine.{RegistryLine}
use Rattle.provider_config.specs.declared.config.SpFile.TheVariants.{Registry}
use Rattle.request_ledger.specs.Ledger.{Held, ledger_in}
use Rattle.request_ledger.specs.Runs.{AreDifferent, requests_opened}
use Rattle.request_rows.specs.declared.row.OpenedRow.{OpenedRow}
use Rattle.sp_answers.specs.Answers.{metadata_answer}
use Rattle.sp_server.specs.Guard.{path_asked, vouched_to}
use Rattle.service_routes.specs.declared.route.Route.TheVariants.{To}
use Rattle.sp_server.specs.declared.route.Service.TheVariants.{App}
use Rattle.sp_server.specs.Routes.{route}
use Rattle.provider_node.specs.declared.codes.TheConstants.{NO_MEMORY}
use Rattle.provider_node.specs.Points.{points}
use Rattle.sp_server.specs.Step.{Provider, Setup, session_for, shown_to, Answers}
use Rattle.provider_node.specs.Step.{Serves, Steps}
use Rattle.request_ledger.specs.Record.{request_rules}
use Rattle.verdict_codes.specs.Codes.{number_of}
use Rattle.verdict_codes.specs.declared.codes.Verdict.TheVariants.{RegistryExpired}
use Rattle.sp_server.specs.Sessions.{GivesSession}
use Rattle.sp_server.specs.Histories.{AreKeptOnce}
use Rattle.provider_node.specs.Histories.{IsProviders, Stands}
use Rattle.sp_server.specs.Logouts.{StayClosed}
use Rattle.sp_setup.specs.Laws.{IsFromRegistry}
use Rattle.provider_run.specs.Runs.{Outside, world_of}
use Rattle.sp_runs.specs.Runs.{Begins, served_by}

-- Whatever image a crash leaves, where it stands for a ledger no two of its sessions answer one request.
abbrev pub NoImageHasARequestTwice : Type 0
NoImageHasARequestTwice =
    (image : Image) (held : Held) → ledger_in image ≡ Ok (Some held) → AreDifferent (requests_opened held.records)

-- Where a provider was started on a disk that tells and served, what its answers acknowledged is in the history of
-- every ledger that a crash may leave behind the run, and no two sessions are of one request.
abbrev pub WhatARunAcknowledgedIsKeptOnce : Type 0
WhatARunAcknowledgedIsKeptOnce =
    (told : Option (List File)) (file : List ℕ) (budget : ℕ) (before opened after : Outside) (provider last : Provider)
    (turns : List (Turn Provider)) (kept : Table) (behind : World Provider) (served : Result Served ServeFault)
    → IsSome before.disk → Begins told file before provider opened
    → Run (IsProviders request_rules Answers) (world_of provider opened) turns kept behind
    → Ends budget turns behind served (world_of last after)
    → AreKeptOnce (world_of provider opened) (world_of last after) turns

-- And a session that is closed is live at no later request of such a run, and in no ledger that a crash may leave
-- since.
abbrev pub SessionsStayClosedInARun : Type 0
SessionsStayClosedInARun =
    (told : Option (List File)) (file : List ℕ) (budget : ℕ) (before opened after : Outside) (provider last : Provider)
    (turns : List (Turn Provider)) (kept : Table) (behind : World Provider) (served : Result Served ServeFault)
    → IsSome before.disk → Begins told file before provider opened
    → Run (IsProviders request_rules Answers) (world_of provider opened) turns kept behind
    → Ends budget turns behind served (world_of last after)
    → StayClosed (points (world_of provider opened) turns (world_of last after))

-- If only the identity provider makes HMACs that match, and no other text has the hash of one that it signed, then each
-- session that is given is that of a login which it signed.
abbrev pub EachSessionWasSigned : Type 0
EachSessionWasSigned =
    (issued : List Signed) (setup : Setup) (held : Held) (request : Request) (now : ℕ) (r : SpRecord) (answer : Answer)
    → AllByRecursion IsSigned issued
    → Unforged issued setup.config now request.body → NoCollision issued request.body
    → (gives : GivesSession setup held request now r answer)
    → IsLoginOf issued gives.brought.login

-- REGISTRIES

-- Where the config of a run has a registry, its provider has its identity provider from there and from nowhere else.
abbrev pub ARunUsesWhatItsRegistryLists : Type 0
ARunUsesWhatItsRegistryLists =
    (told : Option (List File)) (file : List ℕ) (before opened : Outside) (provider : Provider) (line : RegistryLine)
    → (begins : Begins told file before provider opened) → Contains begins.set_up.setup.lines.files (Registry line)
    → IsFromRegistry told line begins.set_up.setup × (provider.setup ≡ served_by begins.set_up.setup)

-- And so at each request of the run: the provider serves by what it was started with.
abbrev pub EachRequestIsServedByTheSameSetup : Type 0
EachRequestIsServedByTheSameSetup =
    (told : Option (List File)) (file : List ℕ) (before opened : Outside) (provider : Provider)
    (turns : List (Turn Provider)) (kept : Table) (behind : World Provider)
    (asked : Asked Provider) → (begins : Begins told file before provider opened)
    → Run (IsProviders request_rules Answers) (world_of provider opened) turns kept behind
    → Contains (asked_in turns) asked → asked.node.setup ≡ served_by begins.set_up.setup

-- From the moment on at which its registry ends no answer of a run stands for a record: no login is asked for, no
-- session is opened, and none is left or ended.
abbrev pub AnEndedRegistryRecordsNothing : Type 0
AnEndedRegistryRecordsNothing =
    (told : Option (List File)) (file : List ℕ) (before opened : Outside) (provider : Provider)
    (turns : List (Turn Provider)) (kept : Table) (behind : World Provider)
    (asked : Asked Provider) (until : ℕ) (r : SpRecord) → (begins : Begins told file before provider opened)
    → Run (IsProviders request_rules Answers) (world_of provider opened) turns kept behind
    → begins.set_up.setup.expiry ≡ Some until → Contains (asked_in turns) asked → until ≤ asked.now
    → ¬ (Stands request_rules Answers asked (Some r))

-- From the moment on at which a registry ends no request adds a record, whatever is answered: no answer by the
-- definition, over whatever ledger, stands for one, be it one that was never sent.
abbrev pub AnEndedRegistryAddsNothing : Type 0
AnEndedRegistryAddsNothing =
    (setup : Setup) (until : ℕ) (held : Held) (request : Request) (now : ℕ) (answer : Answer) (r : SpRecord)
    → setup.expiry ≡ Some until → until ≤ now → ¬ (Answers setup held request now answer (Some r))

-- an answer that is no form which asks for a login, and gives no session: a code, the metadata, the page of a session
-- that lives, or what a guard says of one
abbrev pub AsksAndOpensNothing : Setup → Request → Answer → Type 0
AsksAndOpensNothing setup request answer =
    ((code : ℕ) × (answer ≡ Fixed code)) ⊎ ((answer ≡ Full (metadata_answer setup.config))
    ⊎ (((row : OpenedRow) × (answer ≡ Full (shown_to setup.policy request.path row)))
    ⊎ ((setup.guard ≡ true) × ((row : OpenedRow) × (answer ≡ Full
    (vouched_to setup.policy (path_asked request.path) row))))))

-- And each answer of a run is such a one from then on.
abbrev pub AnEndedRegistryAsksNothing : Type 0
AnEndedRegistryAsksNothing =
    (told : Option (List File)) (file : List ℕ) (before opened : Outside) (provider : Provider)
    (turns : List (Turn Provider)) (kept : Table) (behind : World Provider)
    (asked : Asked Provider) (until : ℕ) → (begins : Begins told file before provider opened)
    → Run (IsProviders request_rules Answers) (world_of provider opened) turns kept behind
    → begins.set_up.setup.expiry ≡ Some until → Contains (asked_in turns) asked → until ≤ asked.now
    → AsksAndOpensNothing (served_by begins.set_up.setup) asked.request asked.answer

-- The code for an ended registry is answered in no run whose config has none.
abbrev pub WithoutARegistryNothingIsExpired : Type 0
WithoutARegistryNothingIsExpired =
    (told : Option (List File)) (file : List ℕ) (before opened : Outside) (provider : Provider)
    (turns : List (Turn Provider)) (kept : Table) (behind : World Provider)
    (asked : Asked Provider) → (begins : Begins told file before provider opened)
    → Run (IsProviders request_rules Answers) (world_of provider opened) turns kept behind
    → ((line : RegistryLine) → ¬ (Contains begins.set_up.setup.lines.files (Registry line))) → Contains (asked_in turns) asked
    → asked.answer ≢ Fixed (number_of RegistryExpired)

-- POLICIES

-- A session that lives over the ledger that a step found is answered by the page of its user, or by that of the rule
-- that denies it, or there was no memory.
abbrev pub ASessionIsShownByItsRow : Type 0
ASessionIsShownByItsRow =
    (found : Held) (request : Request) (now faults later : ℕ) (answer : Answer) (old new : Provider) (row : OpenedRow)
    → Serves request_rules Answers found request now (Rose faults later) answer old new
    → route request ≡ To App → session_for found now request ≡ Some row
    → (answer ≡ Full (shown_to old.setup.policy request.path row)) ⊎ (answer ≡ Fixed NO_MEMORY)

-- Two providers of one policy in whose whole ledgers the session has the same row answer alike, whatever their other
-- rows are.
abbrev pub EqualRowsAreShownAlike : Type 0
EqualRowsAreShownAlike =
    (old new other newer : Provider) (disk another : Option DiskState) (request : Request)
    (now faults later before after : ℕ) (one second : Answer) (row : OpenedRow)
    → other.setup.policy ≡ old.setup.policy → old.ledger.broken ≡ false → other.ledger.broken ≡ false
    → route request ≡ To App
    → session_for old.ledger.held now request ≡ Some row → session_for other.ledger.held now request ≡ Some row
    → Steps request_rules Answers old disk request now (Rose faults later) one new
    → Steps request_rules Answers other another request now (Rose before after) second newer
    → (one ≡ second) ⊎ ((one ≡ Fixed NO_MEMORY) ⊎ (second ≡ Fixed NO_MEMORY))

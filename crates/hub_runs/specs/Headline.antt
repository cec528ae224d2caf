-- What a run of a hub comes to: a login from above is passed on exactly where a posted form brings it for a request of
-- a provider below that is known, with its name and its attributes and to that provider alone; each signed element is
-- one of a record that is durable before it is sent; no request upwards backs two logins, and no request below gets a
-- login but by the record of the one that was sent upwards for it; and where only the provider above makes HMACs that
-- match, each login is one that it recorded, and so is each session below.
use Rattle.std.specs.Prelude.{◌≡◌, ◌⊎◌, ℕ, true, List, Contains, Option, IsSome, None, Some}
use Rattle.std.specs.List.{AllByRecursion}
use Rattle.saml_outside.specs.Files.{File}
use Rattle.crash_disk.specs.Counts.{Rose}
use Rattle.crash_disk.specs.Disk.{Image}
use Rattle.http_wire.specs.declared.answer.Answer.{Answer}
use Rattle.http_wire.specs.declared.answer.Answer.TheVariants.{Fixed, Full}
use Rattle.ledger_records.specs.declared.hub_record.Backed.{Backed}
use Rattle.ledger_records.specs.declared.hub_record.Routed.{Routed}
use Rattle.ledger_records.specs.declared.hub_record.Spoke.{Spoke}
use Rattle.ledger_records.specs.declared.hub_record.HubRecord.{HubRecord}
use Rattle.ledger_records.specs.declared.hub_record.HubRecord.TheVariants as kinds
use Rattle.login_origin.specs.Signed.{Signed, IsSigned}
use Rattle.login_origin.specs.Premises.{Unforged, NoCollision}
use Rattle.login_origin.specs.Origin.{IsLoginOf}
use Rattle.serve_loop.specs.Turns.{Asked, Turn, asked_in}
use Rattle.serve_loop.specs.Worlds.{World}
use Rattle.peer_keys.specs.declared.peers.LogoutPeer.{LogoutPeer}
use Rattle.sp_rules.specs.Opening.{Brought}
use Rattle.idp_rules.specs.declared.asked.Asked.{Asked as AskedLogin}
use Rattle.idp_rules.specs.declared.config.IdpConfig.{IdpConfig}
use Rattle.hub_ledger.specs.Laws.{AnswerAlike}
use Rattle.hub_ledger.specs.Ledger.{Held}
use Rattle.hub_ledger.specs.Record.{AreRecords, hub_rules}
use Rattle.hub_ledger.specs.RowsOf.{Route}
use Rattle.recorded_logins.specs.Recorded.{Added, AreOf}
use Rattle.passed_logins.specs.Passed.{IsOfARecordedLogin}
use Rattle.provider_node.specs.declared.codes.TheConstants.{NO_MEMORY}
use Rattle.provider_node.specs.Added.{IsAddedBy}
use Rattle.provider_node.specs.Lasting.{AreKeptSince}
use Rattle.provider_node.specs.Origins.{RecordsHaveTheirRequests, WasAsked}
use Rattle.provider_node.specs.Starts.{AreStarts, AreStartsAt, Start, asked_over}
use Rattle.provider_run.specs.Headlines.{AddsOnlyItsOwn, AnswersForACause, AnswersOnceRecorded, EachGoes, GoesOnDisk, HeadlineBy, HeadlineOf, KeepsWhatIsVisible, ServedOver, ServedRun, WhereAsked}
use Rattle.provider_run.specs.Runs.{Outside, world_of}
use Rattle.identity_hub.specs.Histories.{AreKeptOnce, AreKeptOnceOver, AreKeptOnceOverAt}
use Rattle.identity_hub.specs.Passing.{CanPassOn, HasRoom, IsOfBelow, IsOfPassive, IsPassedOn, IsSpoken, PassesLogin}
use Rattle.identity_hub.specs.Recorded.{IsPosted}
use Rattle.identity_hub.specs.Signed.{Carries, IsMetadata}
use Rattle.identity_hub.specs.Step.{Answers, AsksFor, Provider}
use Rattle.hub_runs.specs.Laws.{EachLoginInAnImageHasItsRequest, GoesBackFrom, SessionsBelowAreOfLoginsAbove}
use Rattle.identity_hub.specs.declared.config.HubConfig.{HubConfig}
use Rattle.hub_setup.specs.Setup.{IsSetUp}

-- ---- one request, which the hub was asked in one world, and which left another behind

-- A login is recorded as passed on, with whatever answer, only where the posted form brings it, for the request of a
-- provider below that is known: with the name and the attributes of the login from above, in an Assertion for that
-- provider alone. It goes back to the request below for which one was sent upwards; and this was recorded only where a
-- form of a provider below that is known asked for a login of a user who may be asked, with that provider, its address,
-- and the ID and the relay state of its request. A Response without an Assertion is recorded only where such a form
-- says that the user may not be asked. And wherever a form brings a login, over the ledger that the step found, where
-- there is room, at once or behind one compaction, and the disk does not fail, it is recorded and passed on; or there
-- was no memory.
pub record PassesOnExactly (asked : Asked Provider) : Type 0 where
  pub only : (held : Held) (answer : Answer) (r : Backed)
      → Answers asked.node.setup held asked.request asked.now answer (Some (kinds.Backed r))
      → PassesLogin asked.node.setup held asked.request asked.now (kinds.Backed r) answer
  pub back : (held : Held) (answer : Answer) (r : Backed)
      → Answers asked.node.setup held asked.request asked.now answer (Some (kinds.Backed r)) → GoesBackFrom held r
  pub askers : (held : Held) (answer : Answer) (r : Routed)
      → Answers asked.node.setup held asked.request asked.now answer (Some (kinds.Routed r))
      → IsOfBelow asked.node.setup asked.request r
  pub refusals : (held : Held) (answer : Answer) (r : Spoke)
      → Answers asked.node.setup held asked.request asked.now answer (Some (kinds.Spoke r))
      → IsOfPassive asked.node.setup asked.request r
  pub wherever : (before after : World Provider) (found : Held) (b : Brought) (row : Route) (peer : LogoutPeer)
      → ServedOver hub_rules Answers found asked before after
      → CanPassOn asked.node.setup found asked.request asked.now b row peer
      → HasRoom asked.node.setup found asked.now b row
      → ¬ (Rose before.disk_faults after.disk_faults)
      → (asked.answer ≡ Fixed NO_MEMORY) ⊎ IsPassedOn asked.node.setup found asked.request asked.now b row asked.answer
      after.node.ledger.held

-- Each signed element in an answer is one that its record stands for: the Assertion of a login that was passed on, or
-- the request that was sent upwards; what is sent for a record goes to its address with its relay state, and a page
-- that stands for no record is the metadata. And the record of each form that is answered to what is posted is in every
-- image that a crash may leave once the hub has answered, before a byte is sent.
pub record SignsOnlyItsRecords (asked : Asked Provider) (after : World Provider) : Type 0 where
  pub signed : (held : Held) (bytes : List ℕ) (r : HubRecord)
      → Answers asked.node.setup held asked.request asked.now (Full bytes) (Some r)
      → Carries asked.node.setup asked.request asked.now bytes r
  pub unrecorded : (held : Held) (bytes : List ℕ)
      → Answers asked.node.setup held asked.request asked.now (Full bytes) None
      → IsMetadata asked.node.setup asked.request bytes
  pub recorded : AnswersOnceRecorded hub_rules Answers IsPosted asked after

-- Nobody above is asked where the user of a request below may not be asked: what is recorded with the answer is a
-- Response without an Assertion.
abbrev pub AsksNobodyAbove : Asked Provider → Type 0
AsksNobodyAbove asked =
    (held : Held) (answer : Answer) (r : HubRecord) (login : AskedLogin) (peer : LogoutPeer)
    → AsksFor asked.node.setup asked.request login peer → login.passive ≡ true
    → Answers asked.node.setup held asked.request asked.now answer (Some r)
    → IsSpoken asked.node.setup held login peer asked.now r answer

-- Where no HMAC in the posted form is made by anybody but the provider above, and no hash collides: each login that is
-- passed on, with whatever answer, is one that this signed; and where it is an identity provider of some setup, which
-- signed these elements for these records, one that it recorded for the hub.
pub record IsOfALoginFromAbove (asked : Asked Provider) : Type 0 where
  pub signed : (issued : List Signed) (held : Held) (answer : Answer) (r : HubRecord) → AllByRecursion IsSigned issued
      → Unforged issued asked.node.setup.upstream asked.now asked.request.body
      → NoCollision issued asked.request.body
      → (passes : PassesLogin asked.node.setup held asked.request asked.now r answer)
      → IsLoginOf issued passes.brought.login
  pub recorded : (above : IdpConfig) (added : List Added) (issued : List Signed) (r : Backed) → AreOf above added issued
      → Unforged issued asked.node.setup.upstream asked.now asked.request.body
      → NoCollision issued asked.request.body
      → IsAddedBy Answers asked.node.setup asked.request asked.now (kinds.Backed r)
      → IsOfARecordedLogin above added asked.node.setup r

-- ---- the run

-- where a hub listens
abbrev pub address : HubConfig → List ℕ
address config = config.upstream.listen

-- the key of the IDs that a hub draws
abbrev pub key : HubConfig → List ℕ
key config = config.upstream.id_key

-- a request is answered by one step, and so it is of it, whatever the worlds are in which the hub was asked
pub record GoesExactly (asked : Asked Provider) : Type 0 where
  pub steps : WhereAsked hub_rules Answers asked (GoesOnDisk hub_rules Answers asked)
  pub causes : WhereAsked hub_rules Answers asked (AnswersForACause hub_rules Answers asked)
  pub passes : PassesOnExactly asked
  pub signs : WhereAsked hub_rules Answers asked (λ before after. SignsOnlyItsRecords asked after)
  pub passive : AsksNobodyAbove asked
  pub from_above : IsOfALoginFromAbove asked
  pub added : WhereAsked hub_rules Answers asked (λ before after. AddsOnlyItsOwn hub_rules Answers asked)
  pub starved : WhereAsked hub_rules Answers asked (λ before after. KeepsWhatIsVisible hub_rules AnswerAlike asked
      after)

-- What is said of a run that served: each request, all of them served by what the hub was set up with, passed logins on
-- exactly, and was answered once its record was durable; where the disk tells, what the answers acknowledged is in the
-- history of every ledger that a crash may leave behind the run, and no request upwards backs two logins, those at the
-- start and those that were let go included, so no two of those that the answers acknowledged; from each point of the
-- run on, also inside later requests, what was acknowledged by then is in the history of every ledger that a crash
-- might leave; in each of these images each login that was passed on has its request upwards, and goes back to the one
-- below for which that was sent; and each session that a provider below opens is of a login that the provider above
-- recorded for the hub, or of a record that this had at the start, where nobody else makes HMACs that match and no hash
-- collides.
pub record Says (left : ℕ → Image → Type 0) (told : Option (List File)) (file : List ℕ) (before : Outside)
    (turns : List (Turn Provider)) (after : Outside)
    (run : ServedRun IsSetUp address key hub_rules Answers left told file before turns after) : Type 0 where
  pub same : (asked : Asked Provider) → Contains (asked_in turns) asked → asked.node.setup ≡ run.provider.setup
  pub each : EachGoes GoesExactly turns
  pub once : IsSome before.disk → AreKeptOnce (world_of run.provider run.opened) (world_of run.last after) turns
  pub since : IsSome before.disk → AreKeptSince hub_rules Answers left (world_of run.provider run.opened) turns
      run.serves.kept run.serves.last run.serves.run
  pub in_images : EachLoginInAnImageHasItsRequest
  pub below : SessionsBelowAreOfLoginsAbove run.provider.ledger.held.records (asked_in turns)

-- A run served nothing, or it served so.
abbrev pub Headline : HeadlineOf HubConfig HubRecord
Headline = HeadlineBy IsSetUp address key hub_rules Answers Says

-- ---- over runs

-- The same sentence over starts, each of which opens what a crash of the one before it may have left: of each request,
-- also of one in whose answer a crash may have cut a start; and each record in a ledger that may be opened behind them
-- stood there at first, or is one that such a request adds, whatever was answered.
pub record HeadlineOver (start : Held) (starts : List (Start Provider)) : Type 0 where
  pub goes : (asked : Asked Provider) → WasAsked starts asked → GoesExactly asked
  pub from : RecordsHaveTheirRequests hub_rules Answers start starts
  pub once : AreKeptOnceOver start starts
  -- where each request of the starts was asked at one of these moments, each compaction in such a history was at one of
  -- them
  pub once_at : (moments : List ℕ) → AreStartsAt hub_rules Answers (Contains moments) start starts
      → AreKeptOnceOverAt (Contains moments) start starts
  pub below : SessionsBelowAreOfLoginsAbove start.records (asked_over starts)

abbrev pub TheHeadlineHoldsOverStarts : Type 0
TheHeadlineHoldsOverStarts =
    (start : Held) (starts : List (Start Provider)) → AreRecords start.records
    → AreStarts hub_rules Answers start starts → HeadlineOver start starts

-- What a run of an identity provider comes to: each Assertion is issued to a user with a password or a session, each
-- signed element is one of a record that is durable before it is sent; sessions are ended exactly where their users
-- leave them or a peer ends them, and one that is ended never lives again; a logout that asks all others asks each in
-- its turn, and says Success exactly where each confirmed.
use Rattle.std.specs.Prelude.{◌≡◌, ◌⊎◌, ℕ, true, false, List, Contains, Option, IsSome, None, Some}
use Rattle.saml_outside.specs.Files.{File}
use Rattle.crash_disk.specs.Counts.{Rose}
use Rattle.crash_disk.specs.Disk.{Image}
use Rattle.http_wire.specs.declared.answer.Answer.{Answer}
use Rattle.http_wire.specs.declared.answer.Answer.TheVariants.{Fixed, Full}
use Rattle.ledger_records.specs.declared.idp_record.IdpRecord.{IdpRecord}
use Rattle.ledger_records.specs.declared.idp_record.IdpRecord.TheVariants as kinds
use Rattle.ledger_records.specs.declared.idp_record.Issued.{Issued}
use Rattle.ledger_records.specs.declared.idp_record.Pending.{Pending}
use Rattle.ledger_records.specs.declared.idp_record.Spoke.{Spoke}
use Rattle.ledger_records.specs.declared.idp_round.Round.{Round}
use Rattle.ledger_records.specs.declared.idp_round.Told.{Told}
use Rattle.serve_loop.specs.Turns.{Asked, Turn, asked_in}
use Rattle.serve_loop.specs.Worlds.{World}
use Rattle.provider_run.specs.Headlines.{AddsOnlyItsOwn, AnswersForACause, AnswersOnceRecorded, EachGoes, GoesOnDisk, HeadlineBy, HeadlineOf, KeepsWhatIsVisible, ServedOver, ServedRun, WhereAsked}
use Rattle.provider_run.specs.Runs.{Outside, world_of}
use Rattle.peer_keys.specs.declared.peers.LogoutPeer.{LogoutPeer}
use Rattle.protocol_messages.specs.declared.logout.LogoutRequest.{LogoutRequest}
use Rattle.idp_rows.specs.declared.row.SessionRow.{SessionRow}
use Rattle.idp_ledger.specs.Ledger.{Held}
use Rattle.idp_rows.specs.RowsOf.{is_among}
use Rattle.provider_node.specs.declared.codes.TheConstants.{NO_MEMORY}
use Rattle.provider_node.specs.Lasting.{AreKeptSince}
use Rattle.provider_node.specs.Points.{points}
use Rattle.provider_node.specs.Room.{HasRoom}
use Rattle.idp_ledger.specs.Laws.{AnswerAlike}
use Rattle.idp_ledger.specs.Record.{AreRecords, idp_rules}
use Rattle.idp_ledger.specs.Turns.{RoundsAskInTurn}
use Rattle.idp_server.specs.Histories.{AreKept, IsEnded, StayEnded}
use Rattle.idp_server.specs.Issues.{IsOfAsker, IsOfPassive, IsOfUser, IsPosted}
use Rattle.idp_server.specs.Logouts.{Ends, EndsBeforeItAnswers, EndsOver, IsOfLogoutIfEnding, LeavesOver}
use Rattle.idp_server.specs.Logouts.{ending_record, leaving_record}
use Rattle.idp_server.specs.Messages.{AsksFirst}
use Rattle.idp_server.specs.Outcomes.{IsOutcome}
use Rattle.idp_server.specs.Routes.{IsOfALogout}
use Rattle.idp_server.specs.Signed.{Carries, IsMetadata}
use Rattle.idp_server.specs.Staying.{Began, IsAsLeft}
use Rattle.provider_node.specs.Staying.{SessionsStay, WhatWasOpenedIsAsLeft}
use Rattle.idp_server.specs.Step.{Provider, Answers, ending_by}
use Rattle.idp_rules.specs.declared.config.IdpConfig.{IdpConfig}
use Rattle.idp_setup.specs.Setup.{IsSetUp}

-- ---- one request, which the provider was asked in one world, and which left another behind

-- An Assertion is issued, with whatever answer, only for a user whose password was posted for a login that was pending,
-- or in the user's live session. A user is asked for a password only where a peer asked for a login by a form, and a
-- Response without an Assertion is recorded only where this said that the user may not be asked. Each signed element in
-- the answer, a message of a logout too, is one that its record stands for, and the answer is of the record's kind; a
-- page that stands for no record is the metadata. And the answer's record is in every image that a crash may leave once
-- the provider has answered, before a byte is sent.
pub record IssuesOnlyToUsers (asked : Asked Provider) (before after : World Provider) : Type 0 where
  pub users : (held : Held) (answer : Answer) (r : Issued)
      → Answers asked.node.setup held asked.request asked.now answer (Some (kinds.Issued r))
      → IsOfUser asked.node.setup held asked.request asked.now r
  pub askers : (held : Held) (answer : Answer) (r : Pending)
      → Answers asked.node.setup held asked.request asked.now answer (Some (kinds.Pending r))
      → IsOfAsker asked.node.setup asked.request r
  pub refusals : (held : Held) (answer : Answer) (r : Spoke)
      → Answers asked.node.setup held asked.request asked.now answer (Some (kinds.Spoke r))
      → IsOfPassive asked.node.setup asked.request r
  pub signed : (held : Held) (bytes : List ℕ) (r : IdpRecord)
      → Answers asked.node.setup held asked.request asked.now (Full bytes) (Some r)
      → Carries asked.node.setup held asked.request bytes r
  pub unrecorded : (held : Held) (bytes : List ℕ)
      → Answers asked.node.setup held asked.request asked.now (Full bytes) None
      → IsMetadata asked.node.setup asked.request bytes
  pub recorded : AnswersOnceRecorded idp_rules Answers IsPosted asked after

-- A record that ends a session is added, with whatever answer, only where the user of that live session leaves it, or a
-- peer asks for it by a LogoutRequest that is accepted; and nothing but a record and a compaction changes the ledger.
-- And wherever one of them does, over the ledger that the step found, where there is room, at once or behind one
-- compaction, and the disk does not fail, the session is ended behind the step; or there was no memory. Each session
-- that the record of an answer ends is ended in every image that a crash may leave once the provider has answered,
-- before a byte is sent: so those of a logout that asks all others are ended before the first of these is asked.
pub record EndsExactly (asked : Asked Provider) (before after : World Provider) : Type 0 where
  pub only : (held : Held) (answer : Answer) (r : IdpRecord)
      → Answers asked.node.setup held asked.request asked.now answer (Some r)
      → IsOfLogoutIfEnding asked.node.setup held asked.request asked.now r
  pub nothing_else : (found : Held) → ServedOver idp_rules Answers found asked before after
      → after.node.ledger.broken ≡ false → Ends asked.node.setup found asked.request asked.now after.node
  pub wherever_left : (found : Held) (row : SessionRow) → ServedOver idp_rules Answers found asked before after
      → LeavesOver found asked.request asked.now row
      → HasRoom idp_rules found asked.now (λ held. leaving_record asked.node.setup held asked.now row.cookie)
      → ¬ (Rose before.disk_faults after.disk_faults)
      → (asked.answer ≡ Fixed NO_MEMORY) ⊎ IsEnded after.node.ledger.held row.cookie
  pub wherever_ended : (found : Held) (message : LogoutRequest) (peer : LogoutPeer) (cookie : List ℕ)
      → ServedOver idp_rules Answers found asked before after
      → (over : EndsOver asked.node.setup asked.request asked.now message peer)
      → is_among cookie (ending_by found asked.now peer.peer.entity message) ≡ true
      → HasRoom idp_rules found asked.now (λ held. ending_record asked.node.setup held asked.now peer message
      over.relay)
      → ¬ (Rose before.disk_faults after.disk_faults)
      → (asked.answer ≡ Fixed NO_MEMORY) ⊎ IsEnded after.node.ledger.held cookie
  pub before_it_answers : (bytes : List ℕ) → asked.answer ≡ Full bytes → IsOfALogout asked.request
      → EndsBeforeItAnswers asked.node.setup asked.request asked.now (Full bytes) after.disk

-- A logout that asks all others: the answer that begins a round asks the provider of the first turn, and each that
-- stands for the answer of a provider the one of the next turn; where no turn is left it ends the round, with Success
-- exactly where none was skipped, as many providers answered as there are turns, and each confirmed. No other answer
-- of the round says how it ended. And in the records of any ledger the answers of a round are to its requests, in
-- order, of which there is one for each turn: none is asked twice.
pub record AsksInTurn (asked : Asked Provider) : Type 0 where
  pub begins : (held : Held) (bytes : List ℕ) (r : Round)
      → Answers asked.node.setup held asked.request asked.now (Full bytes) (Some (kinds.Round r))
      → AsksFirst asked.node.setup r asked.now bytes
  pub goes_on : (held : Held) (bytes : List ℕ) (r : Told) → AreRecords held.records
      → Answers asked.node.setup held asked.request asked.now (Full bytes) (Some (kinds.Told r))
      → IsOutcome asked.node.setup held r asked.now bytes
  pub once : RoundsAskInTurn

-- ---- the run

-- where a provider listens
abbrev pub address : IdpConfig → List ℕ
address config = config.listen

-- the key of the IDs that a provider draws
abbrev pub key : IdpConfig → List ℕ
key config = config.id_key

-- a request is answered by one step, and so it is of it, whatever the worlds are in which the provider was asked
pub record GoesExactly (asked : Asked Provider) : Type 0 where
  pub steps : WhereAsked idp_rules Answers asked (GoesOnDisk idp_rules Answers asked)
  pub causes : WhereAsked idp_rules Answers asked (AnswersForACause idp_rules Answers asked)
  pub issues : WhereAsked idp_rules Answers asked (IssuesOnlyToUsers asked)
  pub ends : WhereAsked idp_rules Answers asked (EndsExactly asked)
  pub rounds : AsksInTurn asked
  pub added : WhereAsked idp_rules Answers asked (λ before after. AddsOnlyItsOwn idp_rules Answers asked)
  pub starved : WhereAsked idp_rules Answers asked (λ before after. KeepsWhatIsVisible idp_rules AnswerAlike asked
      after)

-- What is said of a run that served: each request, all of them served by what the provider was set up with, issued
-- Assertions to users alone, was answered once its record was durable, and ended sessions exactly; and where the disk
-- tells, what the answers acknowledged is in the history of every ledger that a crash may leave behind the run, and in
-- none of these a session lives that one of the answers ended, or that was ended at the start; from each point of the
-- run on, also inside later requests, what was acknowledged by then is in the history of every ledger that a crash
-- might leave; and a session that is ended is live at no later request, and in no ledger that a crash may leave since;
-- and one whose answer went out is as it was left in every image that a crash may leave behind the run, or since a
-- point of it: where it ends behind each moment of the run it lives there, ended only where a record that was added
-- since ends it.
pub record Says (left : ℕ → Image → Type 0) (told : Option (List File)) (file : List ℕ) (before : Outside)
    (turns : List (Turn Provider)) (after : Outside)
    (run : ServedRun IsSetUp address key idp_rules Answers left told file before turns after) : Type 0 where
  pub same : (asked : Asked Provider) → Contains (asked_in turns) asked → asked.node.setup ≡ run.provider.setup
  pub each : EachGoes GoesExactly turns
  pub kept : IsSome before.disk → AreKept (world_of run.provider run.opened) (world_of run.last after) turns
  pub since : IsSome before.disk → AreKeptSince idp_rules Answers left (world_of run.provider run.opened) turns
      run.serves.kept run.serves.last run.serves.run
  pub ended : IsSome before.disk → StayEnded (points (world_of run.provider run.opened) turns (world_of run.last after))
  pub stay : IsSome before.disk → SessionsStay idp_rules Began IsAsLeft Answers (world_of run.provider run.opened)
      (world_of run.last after) turns
  pub as_left : WhatWasOpenedIsAsLeft idp_rules Began IsAsLeft

-- A run served nothing, or it served so.
abbrev pub Headline : HeadlineOf IdpConfig IdpRecord
Headline = HeadlineBy IsSetUp address key idp_rules Answers Says

-- What is carried over each run of a provider, of whatever role.
use Rattle.std.specs.Prelude.{◌≡◌, ◌⊎◌, ℕ, false, List, [], ◌∷◌, Contains, Option, IsSome, Some, Ok, Result}
use Rattle.std.specs.List.{AllByRecursion}
use Rattle.saml_outside.specs.Files.{File}
use Rattle.crash_disk.specs.Counts.{Rose}
use Rattle.crash_disk.specs.Disk.{Image}
use Rattle.conn_table.specs.Table.{Table}
use Rattle.http_wire.specs.declared.answer.Answer.TheVariants.{Fixed, Full}
use Rattle.http_wire.specs.Requests.{Request}
use Rattle.serve_loop.specs.declared.served.Served.{Served}
use Rattle.serve_loop.specs.declared.served.ServeFault.{ServeFault}
use Rattle.serve_loop.specs.Serving as serving
use Rattle.serve_loop.specs.Turns.{Asked, Asks, Run, Turn, asked_by}
use Rattle.serve_loop.specs.Worlds.{World}
use Rattle.record_ledger.specs.Rules.{AreRecords, RecordRules}
use Rattle.record_ledger.specs.Ledger.{Held, ledger_in}
use Rattle.provider_node.specs.declared.codes.TheConstants.{NO_MEMORY}
use Rattle.provider_node.specs.Added.{IsNew}
use Rattle.provider_node.specs.Causes.{HasItsCause, IsAddedOver}
use Rattle.provider_node.specs.Histories.{IsProviders}
use Rattle.provider_node.specs.Recorded.{IsRecorded}
use Rattle.provider_node.specs.Starts.{IsServed}
use Rattle.provider_node.specs.Step.{AnswersBy, Provider, Serves, StepLeaves, StepsOnDisk}
use Rattle.provider_run.specs.declared.ended.Ended.{Ended}
use Rattle.provider_run.specs.declared.ended.RunFault.{RunFault}
use Rattle.provider_run.specs.Providers.{BadSetUpBy, Begins, Runs, SetUpBy}
use Rattle.provider_run.specs.Runs.{Outside, world_of}

-- ---- a request

module _ {Setup R : Type 0} (rules : RecordRules R) (Answers : AnswersBy Setup R) where
  -- The step that answered a request served it over this ledger.
  abbrev pub ServedOver : Held R → Asked (Provider Setup R) → (before after : World (Provider Setup R)) → Type 0
  ServedOver found asked before after = Serves rules Answers found asked.request asked.now
      (Rose before.disk_faults after.disk_faults) asked.answer asked.node after.node

  -- what the step did, and what its disk tells behind it
  abbrev pub GoesOnDisk : Asked (Provider Setup R) → (before after : World (Provider Setup R)) → Type 0
  GoesOnDisk asked before after = StepsOnDisk rules Answers asked.node asked.disk asked.request asked.now
      (Rose before.disk_faults after.disk_faults) asked.answer after.node after.disk

  -- it is so of a request, whatever the worlds are in which the provider was asked
  abbrev pub WhereAsked : Asked (Provider Setup R) → ((before after : World (Provider Setup R)) → Type 0) → Type 0
  WhereAsked asked Goes = (before after : World (Provider Setup R))
      → Asks (IsProviders rules Answers) asked before after → Goes before after

  -- Each record that stands in an image which a crash inside the answer may leave, or one behind it, be it behind page
  -- 50, and stood nowhere before is one that the request adds, with some answer, over the ledger that it finds or what
  -- the one compaction makes of this, so that it is of it what is said of these.
  abbrev pub AddsOnlyItsOwn : Asked (Provider Setup R) → Type 0
  AddsOnlyItsOwn asked = (image : Image) (held : Held R) (r : R) → IsSome asked.disk
      → StepLeaves rules Answers asked.node asked.disk asked.request asked.now image
      → ledger_in rules image ≡ Ok (Some held) → Contains held.records r → IsNew rules asked.node asked.disk r
      → IsAddedOver rules Answers asked.node asked.disk asked.request asked.now r

  -- Each of the codes that a provider answers for itself has its cause.
  abbrev pub AnswersForACause : Asked (Provider Setup R) → (before after : World (Provider Setup R)) → Type 0
  AnswersForACause asked before after = HasItsCause rules Answers asked.node asked.disk asked.request asked.now
      (Rose before.disk_faults after.disk_faults) asked.answer

  -- Each page that is answered to a request that goes to one of these services stands for one record, which is in every
  -- image that a crash may leave once the provider has answered, before a byte is sent.
  abbrev pub AnswersOnceRecorded : (IsOfThese : Request → Type 0) → Asked (Provider Setup R)
      → (after : World (Provider Setup R)) → Type 0
  AnswersOnceRecorded IsOfThese asked after = (bytes : List ℕ) → asked.answer ≡ Full bytes → IsOfThese asked.request
      → IsRecorded rules Answers asked.node.setup asked.request asked.now (Full bytes) after.disk

module _ {Setup R : Type 0} (rules : RecordRules R) (AnswerAlike : ℕ → (one other : Held R) → Type 0)
    (asked : Asked (Provider Setup R)) (after : World (Provider Setup R)) where
  -- Where there was no memory and the ledger was not broken, all that may be asked of its rows at the moment of the
  -- request is answered behind it as before.
  abbrev pub KeepsWhatIsVisible : Type 0
  KeepsWhatIsVisible = AreRecords rules asked.node.ledger.held.records → asked.node.ledger.broken ≡ false
      → asked.answer ≡ Fixed NO_MEMORY → AnswerAlike asked.now after.node.ledger.held asked.node.ledger.held

-- so it is of each request that a node was asked
abbrev pub EachGoes : {N : Type 0} → (Asked N → Type 0) → List (Turn N) → Type 0
EachGoes GoesExactly [] = Unit {0}
EachGoes GoesExactly (turn ∷ past) = AllByRecursion GoesExactly (asked_by turn) × EachGoes GoesExactly past

-- ---- a run

-- what is said of a run: by its turns, the config in its file, and what is outside before and behind it
abbrev pub HeadlineOf : Type 0 → Type 0 → Type 1
HeadlineOf Setup R = (left : ℕ → Image → Type 0) → Option (List File)
    → (file : List ℕ) → (before : Outside) → List (Turn (Provider Setup R)) → (after : Outside) → Type 0

module _ {Setup R : Type 0}
    (SetsUp : SetUpBy Setup) (address key : Setup → List ℕ) (rules : RecordRules R) (Answers : AnswersBy Setup R) where
  module _ (left : ℕ → Image → Type 0) (told : Option (List File))
      (file : List ℕ) (before : Outside) (turns : List (Turn (Provider Setup R))) (after : Outside) where
    -- A run that served: the provider that it began with, how it served, and what came behind it. `left` says of each
    -- moment, seen from the end of the run, what a crash since then might have left.
    pub record ServedRun : Type 0 where
      pub provider : Provider Setup R
      pub last : Provider Setup R
      pub opened : Outside
      pub budget : ℕ
      pub served : Result Served ServeFault
      pub begins : Begins SetsUp address key rules told file before provider opened
      pub serves : serving.Serves (IsProviders rules Answers) (StepLeaves rules Answers) left budget turns
          (world_of provider opened) served (world_of last after)

  -- A run served nothing, or it served, and this is said of it.
  abbrev pub HeadlineBy : ((left : ℕ → Image → Type 0) (told : Option (List File)) (file : List ℕ) (before : Outside)
      (turns : List (Turn (Provider Setup R))) (after : Outside) → ServedRun left told file before turns after → Type 0)
      → HeadlineOf Setup R
  HeadlineBy Says left told file before turns after =
      (turns ≡ []) ⊎ ((run : ServedRun left told file before turns after) × Says left told file before turns after run)

-- The headline holds of each run.
abbrev pub EachRunCarries : {Setup R : Type 0} → SetUpBy Setup → BadSetUpBy → (address key : Setup → List ℕ)
    → RecordRules R → AnswersBy Setup R → (Headline : HeadlineOf Setup R) → (left : ℕ → Image → Type 0) → Type 0
EachRunCarries {Setup} {R} SetsUp IsBad address key rules Answers Headline left =
    (told : Option (List File)) (file : List ℕ) (budget : ℕ) (before : Outside)
    (turns : List (Turn (Provider Setup R))) (result : Result Ended RunFault) (after : Outside)
    → Runs SetsUp IsBad address key rules Answers left told file budget before turns result after
    → Headline left told file before turns after

-- A run that served, on a disk that tells, is a start of its provider: its ledger was opened from what the disk held,
-- and then its turns were done. So what the laws of starts say holds of several runs, each on what a crash of the one
-- before it may have left: what they acknowledged is kept.
abbrev pub EachRunIsAStart : {Setup R : Type 0}
    → SetUpBy Setup → (address key : Setup → List ℕ) → RecordRules R → AnswersBy Setup R → Type 0
EachRunIsAStart {Setup} {R} SetsUp address key rules Answers =
    (told : Option (List File)) (file : List ℕ) (before opened : Outside) (provider : Provider Setup R)
    (turns : List (Turn (Provider Setup R))) (kept : Table) (behind : World (Provider Setup R))
    → IsSome before.disk → Begins SetsUp address key rules told file before provider opened
    → Run (IsProviders rules Answers) (world_of provider opened) turns kept behind
    → IsServed rules Answers before.disk (world_of provider opened) turns kept behind

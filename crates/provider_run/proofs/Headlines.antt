-- The headline follows from what is said of runs that served.
use Rattle.std.specs.Prelude.{List, [], ◌∷◌, IfSome, IsSome, Option}
use Rattle.std.proofs.Common.{◌≡◌, ⊎_elim, inl, inr, ℕ, false, subst, sym}
use Rattle.saml_outside.specs.Files.{File}
use Rattle.crash_disk.specs.Counts.{Rose}
use Rattle.crash_disk.specs.Disk.{Image, DiskState, MayLeave, image_of}
use Rattle.crash_disk.specs.Moments.{Leaves}
use Rattle.http_wire.specs.declared.answer.Answer.{Answer}
use Rattle.http_wire.specs.declared.answer.Answer.TheVariants as answers
use Rattle.http_wire.specs.Requests.{Request}
use Rattle.conn_table.specs.Table.{Table}
use Rattle.serve_loop.specs.Turns.{Asked, Asks, Run, Turn}
use Rattle.serve_loop.specs.Worlds.{World}
use Rattle.record_ledger.specs.Ledger.{Held}
use Rattle.record_ledger.specs.Laws.{ImagesHoldRecords}
use Rattle.record_ledger.specs.Rules.{AreRecords, RecordRules}
use Rattle.provider_node.specs.declared.codes.TheConstants.{NO_MEMORY}
use Rattle.provider_node.specs.Histories.{IsAtStart, IsProviders}
use Rattle.provider_node.specs.Lasting.{AreKeptSince}
use Rattle.provider_node.specs.Points.{Point, points}
use Rattle.provider_node.specs.Recorded.{WhatIsAnsweredIsRecorded}
use Rattle.provider_node.specs.Staying.{SessionsStay, SessionsStayInAService}
use Rattle.provider_node.specs.Step.{AnswersBy, Provider, Steps, StepsOnDisk}
use Rattle.provider_node.specs.Causes.{GivesNoOwnCode}
use Rattle.provider_node.proofs.Added.{new_is_of_the_request}
use Rattle.provider_node.proofs.Causes.{each_has_its_cause}
use Rattle.provider_node.specs.Added.{DrawsAbove}
use Rattle.provider_run.specs.Headlines.{AddsOnlyItsOwn, AnswersForACause, AnswersOnceRecorded, EachGoes, EachRunCarries, EachRunIsAStart, HeadlineBy}
use Rattle.provider_run.specs.Headlines.{KeepsWhatIsVisible, ServedRun}
use Rattle.provider_run.specs.Providers.{BadSetUpBy, SetUpBy}
use Rattle.provider_run.specs.Runs.{Outside, world_of}
use Rattle.provider_run.proofs.Serving.{did}
use Rattle.provider_run.proofs.Ending.{at_end}
use Rattle.provider_run.proofs.Kept as any
use Rattle.provider_run.proofs.Kept.{of_turn}

-- ---- a request

-- what a law says of all that is served, of a request that was asked between two worlds
abbrev pub of_asked : {N H : Type 0} {Says : H → Request → (now faults later : ℕ) → Answer → (old new : N) → Type 0}
    (asked : Asked N) (before after : World N) → ((found : H) (request : Request) (now faults later : ℕ)
    (answer : Answer) (old new : N) → Says found request now faults later answer old new) → (found : H)
    → Says found asked.request asked.now before.disk_faults after.disk_faults asked.answer asked.node after.node
of_asked asked before after law found =
    law found asked.request asked.now before.disk_faults after.disk_faults asked.answer asked.node after.node

module _
    {Setup R : Type 0} (rules : RecordRules R) (Answers : AnswersBy Setup R) (asked : Asked (Provider Setup R)) where
  -- what it does, by the provider and the disk that it came to
  pub stepped : (before told : World (Provider Setup R)) → Asks (IsProviders rules Answers) asked before told
      → StepsOnDisk rules Answers asked.node asked.disk asked.request asked.now
      (Rose before.disk_faults told.disk_faults) asked.answer told.node told.disk
  stepped before told asks = subst (λ (n : Provider Setup R). StepsOnDisk rules Answers
      n asked.disk asked.request asked.now (Rose before.disk_faults told.disk_faults) asked.answer told.node told.disk)
      (sym asks.node) (subst (λ (d : Option DiskState). StepsOnDisk rules Answers before.node d asked.request asked.now
      (Rose before.disk_faults told.disk_faults) asked.answer told.node told.disk) (sym asks.disk) asks.answers.does)

  -- and by its answer
  pub stepped_to : (answer : Answer) (before told : World (Provider Setup R))
      → Asks (IsProviders rules Answers) asked before told → asked.answer ≡ answer → Steps rules
      Answers asked.node asked.disk asked.request asked.now (Rose before.disk_faults told.disk_faults) answer told.node
  stepped_to answer before told asks is = subst (λ (a : Answer). Steps rules Answers asked.node asked.disk
      asked.request asked.now (Rose before.disk_faults told.disk_faults) a told.node) is (stepped before told asks).step

  -- and where laws say that its page is recorded, it is
  pub once_recorded : (IsOfThese : Request → Type 0) → WhatIsAnsweredIsRecorded rules Answers IsOfThese
      → (before told : World (Provider Setup R)) → Asks (IsProviders rules Answers) asked before told
      → AnswersOnceRecorded rules Answers IsOfThese asked told
  once_recorded IsOfThese law before told asks bytes is these =
      law asked.node told.node asked.disk told.disk asked.request asked.now before.disk_faults told.disk_faults bytes
      (stepped_to (answers.Full bytes) before told asks is) asks.answers.owns these

  pub adds_its_own : (before told : World (Provider Setup R))
      → Asks (IsProviders rules Answers) asked before told → AddsOnlyItsOwn rules Answers asked
  adds_its_own before told asks image held r tells left is there new = new_is_of_the_request rules
      Answers asked.node asked.disk asked.request asked.now image held r tells (subst (λ (d : Option DiskState).
      IfSome d (λ x. MayLeave x (image_of x))) (sym asks.disk) asks.answers.reads) left is there new

  pub for_a_cause : GivesNoOwnCode Answers → (before told : World (Provider Setup R))
      → Asks (IsProviders rules Answers) asked before told → AnswersForACause rules Answers asked before told
  for_a_cause none_own before told asks =
      each_has_its_cause rules Answers none_own asked.node told.node asked.disk asked.request asked.now
      before.disk_faults told.disk_faults asked.answer (stepped before told asks).step

  pub keeps_visible : (AnswerAlike : ℕ → Held R → Held R → Type 0) → ((old new : Provider Setup R)
      (disk : Option DiskState) (request : Request) (now before after : ℕ) → AreRecords rules old.ledger.held.records →
      old.ledger.broken ≡ false → Steps rules Answers old disk request now (Rose before after) (answers.Fixed NO_MEMORY)
      new → AnswerAlike now new.ledger.held old.ledger.held) → (before told : World (Provider Setup R))
      → Asks (IsProviders rules Answers) asked before told → KeepsWhatIsVisible rules AnswerAlike asked told
  keeps_visible AnswerAlike starved before told asks are whole is =
      starved asked.node told.node asked.disk asked.request asked.now before.disk_faults told.disk_faults are whole
      (stepped_to (answers.Fixed NO_MEMORY) before told asks is)

pub each_goes : {N : Type 0} (Goes : Asked N → Type 0)
    → ((asked : Asked N) → Goes asked) → (turns : List (Turn N)) → EachGoes Goes turns
each_goes Goes goes [] = tt
each_goes Goes goes (turn ∷ past) = (of_turn Goes goes turn, each_goes Goes goes past)

-- ---- a run

module _ {Setup R : Type 0}
    (SetsUp : SetUpBy Setup) (address key : Setup → List ℕ) (rules : RecordRules R) (Answers : AnswersBy Setup R) where
  pub carries : (IsBad : BadSetUpBy) (Says : (left : ℕ → Image → Type 0) (told : Option (List File)) (file : List ℕ)
      (before : Outside) (turns : List (Turn (Provider Setup R))) (after : Outside) → ServedRun SetsUp address key rules
      Answers left told file before turns after → Type 0) (left : ℕ → Image → Type 0) → ((told : Option (List File))
      (file : List ℕ) (before : Outside) (turns : List (Turn (Provider Setup R))) (after : Outside) (run : ServedRun
      SetsUp address key rules Answers left told file before turns after) → Says left told file before turns after run)
      → EachRunCarries SetsUp IsBad address key rules Answers (HeadlineBy SetsUp address key rules Answers Says) left
  carries IsBad Says left say told file budget before turns result after runs =
      ⊎_elim inl (λ (node, last, opened, served, begins, serves).
      let run : ServedRun SetsUp address key rules Answers left told file before turns after = record {
        provider = node;
        last = last;
        opened = opened;
        budget = budget;
        served = served;
        begins = begins;
        serves = serves;
      } in inr (run, say told file before turns after run)) (did runs)

  pub is_a_start : ImagesHoldRecords rules → EachRunIsAStart SetsUp address key rules Answers
  is_a_start hold told file before opened provider turns kept behind tells begins run =
      any.is_a_start SetsUp address key rules Answers hold told file before opened provider tells begins turns kept behind run

  -- where the disk tells
  module _ (hold : ImagesHoldRecords rules) (left : ℕ → Image → Type 0) (told : Option (List File))
      (file : List ℕ) (before : Outside) (turns : List (Turn (Provider Setup R))) (after : Outside)
      (run : ServedRun SetsUp address key rules Answers left told file before turns after) (tells : IsSome before.disk) where
    at_start : IsAtStart rules (world_of run.provider run.opened)
    at_start = any.started SetsUp address key rules Answers hold told file before run.opened run.provider tells run.begins

    tells_then : IsSome run.opened.disk
    tells_then = any.still_tells SetsUp address key rules Answers hold told file before run.opened run.provider tells run.begins

    -- what the laws say of services, up to the last turn
    pub of_service : (P : (first last : World (Provider Setup R)) → List (Turn (Provider Setup R)) → Type 0)
        → ((first last : World (Provider Setup R)) (served : List (Turn (Provider Setup R))) (kept : Table) → IsAtStart
        rules first → IsSome first.disk → Run (IsProviders rules Answers) first served kept last → P first last served)
        → P (world_of run.provider run.opened) run.serves.last turns
    of_service P law =
        law (world_of run.provider run.opened) run.serves.last turns run.serves.kept at_start tells_then run.serves.run

    pub kept_since : DrawsAbove rules Answers → AreKeptSince rules Answers left
        (world_of run.provider run.opened) turns run.serves.kept run.serves.last run.serves.run
    kept_since draws = any.kept_ever_since SetsUp address key rules Answers hold told file
        before run.opened run.provider tells run.begins draws left run.budget after run.last turns run.served run.serves

    -- the disk behind the run is that behind its last turn, and so are its points
    pub left_then : (image : Image) → Leaves after.disk image → Leaves run.serves.last.disk image
    left_then image may = subst (λ (d : Option DiskState). Leaves d image)
        (at_end run.budget turns run.serves.last (world_of run.last after) run.served run.serves.ends).1 may

    pub sessions_stay : {X : Type 0} (Opened : List R → X → Type 0) (IsAsLeft : (moments : List ℕ) (start : Held R)
        → X → Held R → Type 0) → SessionsStayInAService rules Opened IsAsLeft Answers
        → SessionsStay rules Opened IsAsLeft Answers (world_of run.provider run.opened) (world_of run.last after) turns
    sessions_stay Opened IsAsLeft law = let is = of_service (SessionsStay rules Opened IsAsLeft Answers) law in
        record {
          records = is.records;
          are = is.are;
          stay = λ x image opened may. is.stay x image opened (left_then image may);
        }

    pub points_so : (P : List (Point (Provider Setup R)) → Type 0) → P (points (world_of run.provider run.opened) turns
        run.serves.last) → P (points (world_of run.provider run.opened) turns (world_of run.last after))
    points_so P is = any.points_behind P (world_of run.provider run.opened) turns run.serves.last (world_of run.last
        after) (at_end run.budget turns run.serves.last (world_of run.last after) run.served run.serves.ends) is

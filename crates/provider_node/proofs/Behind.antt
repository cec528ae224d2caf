-- What a provider does behind a draft, a compaction or an opening, seen from before it.
use Rattle.std.specs.Prelude.{IfErr, IfSome, IsErrOf, Option, None, Some, Result, Ok, Err}
use Rattle.std.proofs.Common.{◌≡◌, ⊎_elim, inl, inr, ℕ, true, subst, refl, ap, ◌∙◌}
use Rattle.owned_values.specs.Gives.{Gives}
use Rattle.crash_disk.specs.declared.file_no.FileNo.{FileNo}
use Rattle.crash_disk.specs.Disk.{DiskState, image_of}
use Rattle.http_wire.specs.declared.answer.Answer.{Answer}
use Rattle.http_wire.specs.declared.answer.Answer.TheVariants.{Fixed}
use Rattle.http_wire.specs.Requests.{Request}
use Rattle.gate_journal.specs.declared.fault.OpenFault.{OpenFault}
use Rattle.gate_journal.specs.declared.fault.OpenFault.TheVariants.{DiskFault, Foreign, NoMemory}
use Rattle.gate_journal.specs.Format.{Fault}
use Rattle.gate_journal.specs.Opening.{open_fault_of}
use Rattle.record_ledger.specs.Rules.{RecordRules}
use Rattle.record_ledger.specs.Calls.{committing, opening}
use Rattle.record_ledger.specs.Ledger.{Held, ledger_in, taken}
use Rattle.provider_node.specs.Calls.{Begins, CompactionCalls}
use Rattle.provider_node.specs.Step.{Adding, AnswersBy, HasPlace, Provider, IsWhole, IsBroken, MakesRoom, Serves, ServesOnDisk}
use Rattle.provider_node.specs.Step.{ServingCalls, Plain, Recorded, RecordedAfterCompaction, NoPlace, Failed, Starved}
use Rattle.provider_node.specs.Step.{NotOpened, StarvedAtOpening, StepsOnDisk, Strange}
use Rattle.provider_node.specs.Node.{CompactsFound, MadeAnew, Stays, Fails}
use Rattle.provider_node.specs.Serving.{code_of}

-- two providers with one setup and one key of IDs
pub record AreOfKind {Setup R : Type 0} (old mid : Provider Setup R) : Type 0 where
  pub setup : mid.setup ≡ old.setup
  pub key : mid.ledger.key ≡ old.ledger.key

module _ {Setup R : Type 0} where
  pub whole_from : (old mid new : Provider Setup R) (held : Held R)
      → AreOfKind old mid → IsWhole mid new held → IsWhole old new held
  whole_from old mid new held same whole =
      record { setup = whole.setup ∙ same.setup; key = whole.key ∙ same.key; unbroken = whole.unbroken; is = whole.is }

  pub broken_from : (old mid new : Provider Setup R) → AreOfKind old mid → IsBroken mid new → IsBroken old new
  broken_from old mid new same broken =
      record { setup = broken.setup ∙ same.setup; key = broken.key ∙ same.key; is_broken = broken.is_broken }

-- what is done by one of them is done by the other
module _ {Setup R : Type 0} (rules : RecordRules R)
    (Answers : AnswersBy Setup R) (found : Held R) (old mid new : Provider Setup R) (request : Request) (now : ℕ)
    (A B : Type 0) (answer : Answer) (told later : Option DiskState) (same : AreOfKind old mid) (more : A → B) where
  answers : (held : Held R) (a : Answer) (adds : Option R)
      → Answers mid.setup held request now a adds → Answers old.setup held request now a adds
  answers held a adds is = subst (λ (s : Setup). Answers s held request now a adds) same.setup is

  room : (held : Held R) → MakesRoom rules Answers mid.setup found request now held
      → MakesRoom rules Answers old.setup found request now held
  room held is = subst (λ (s : Setup). MakesRoom rules Answers s found request now held) same.setup is

  wholly : (held : Held R) → IsWhole mid new held → IsWhole old new held
  wholly held whole = whole_from old mid new held same whole

  of_case : (serves : Serves rules Answers found request now A answer mid new)
      → ServingCalls rules Answers found request now A answer mid new told later serves
      → ServesOnDisk rules Answers found request now B answer old new told later
  of_case (Plain is whole) calls =
      record { serves = Plain (answers found answer None is) (wholly found whole); calls = calls }
  of_case (Recorded r is place whole) calls =
      record { serves = Recorded r (answers found answer (Some r) is) place (wholly _ whole); calls = calls }
  of_case (RecordedAfterCompaction held r made is place whole) calls = record {
    serves = RecordedAfterCompaction held r (room held made) (answers held answer (Some r) is) place (wholly _ whole);
    calls = calls;
  }
  of_case (NoPlace held r another made is still page whole) calls = record {
    serves = NoPlace held r another (room held made) (answers held another (Some r) is) still page (wholly held whole);
    calls = calls;
  }
  of_case (Failed wanted other wants risen is broken) calls = record {
    serves = Failed wanted other
        (answers found other (Some wanted) wants) (more risen) is (broken_from old mid new same broken);
    calls = ⊎_elim inl (λ begun. inr (subst (λ (s : Setup). (one : Adding rules Answers s found request now told)
        × Begins (committing rules one.held one.r) one.disk later) same.setup begun)) calls;
  }
  of_case (Starved held (inl none) is whole) calls =
      record { serves = Starved held (inl none) is (wholly held whole); calls = calls }
  of_case (Starved held (inr made) is whole) calls =
      record { serves = Starved held (inr (room held made)) is (wholly held whole); calls = calls }

  pub serves_from : ServesOnDisk rules Answers found request now A answer mid new told later
      → ServesOnDisk rules Answers found request now B answer old new told later
  serves_from done = of_case done.serves done.calls

module _ {Setup R : Type 0} {rules : RecordRules R} where
  pub compacts_from : (now : ℕ) (found : Held R) (old mid new : Provider Setup R) (result : Result (Unit {0}) OpenFault)
      → AreOfKind old mid → CompactsFound rules now found result mid new → CompactsFound rules now found result old new
  compacts_from now found old mid new result same (MadeAnew held is made whole) =
      MadeAnew held is made (whole_from old mid new held same whole)
  compacts_from now found old mid new result same (Stays is whole) = Stays is (whole_from old mid new found same whole)
  compacts_from now found old mid new result same (Fails is broken) = Fails is (broken_from old mid new same broken)

module _ {Setup R : Type 0} (rules : RecordRules R) (Answers : AnswersBy Setup R) where
  module _ (found : Held R) (old new : Provider Setup R) (request : Request) (now : ℕ) (Risen : Type 0) where
    -- it failed
    uncompacted : (fault : OpenFault) (other : Answer) (wanted : R) (told later : Option DiskState)
        → Answers old.setup found request now other (Some wanted) → ¬ (HasPlace rules found wanted)
        → CompactsFound rules now found (Err fault) old new → (IsErrOf {T = Unit {0}} (Err fault) DiskFault → Risen) → CompactionCalls rules now found told later
        (Err fault) → ServesOnDisk rules Answers found request now Risen (Fixed (code_of fault)) old new told later
    uncompacted fault other wanted told later wants none (MadeAnew held is made whole) risen calls = cc
    uncompacted fault other wanted told later wants none (Stays is whole) risen calls = let same : fault ≡ NoMemory = cc in
        record {
          serves = Starved found (inl refl) (ap (λ (f : OpenFault). Fixed (code_of f)) same) whole;
          calls = subst (λ (f : OpenFault). CompactionCalls rules now found told later (Err f)) same calls;
        }
    uncompacted fault other wanted told later wants none (Fails is broken) risen calls = let same : fault ≡ DiskFault = cc in
        record {
          serves = Failed wanted other wants (risen is) (ap (λ (f : OpenFault). Fixed (code_of f)) same) broken;
          calls = inl (
            none,
            subst (λ (f : OpenFault). CompactionCalls rules now found told later (Err f)) same calls,
          );
        }

    -- a compaction that made no room
    pub serves_unmade : (result : Result (Unit {0}) OpenFault) (other : Answer) (wanted : R) (told later : Option
        DiskState) → Answers old.setup found request now other (Some wanted) → ¬ (HasPlace rules found wanted)
        → CompactsFound rules now found result old new → (IsErrOf result DiskFault → Risen) → CompactionCalls rules now found told later result → IfErr result
        (λ fault. ServesOnDisk rules Answers found request now Risen (Fixed (code_of fault)) old new told later)
    serves_unmade (Ok u) other wanted told later wants none compacts risen calls = tt
    serves_unmade (Err fault) other wanted told later wants none compacts risen calls =
        uncompacted fault other wanted told later wants none compacts risen calls

  -- a ledger that was not opened
  why : (disk : Option DiskState) (held : Held R) (file : FileNo) (place : ℕ) → IfSome disk (λ d.
      Gives {X = Unit {0}} (λ _. held) open_fault_of (Err (Foreign file place)) (taken (ledger_in rules (image_of d))))
      → IfSome disk (λ d. (fault : Fault) × (taken (ledger_in rules (image_of d)) ≡ Err fault))
  why None held file place gives = tt
  why (Some d) held file place gives = (record { file = file; place = place }, gives)

  pub unopened : (old new : Provider Setup R) (disk later : Option DiskState) (request : Request)
      (now : ℕ) (Risen : Type 0) (fault : OpenFault) (held : Held R) → old.ledger.broken ≡ true → IfSome disk
      (λ d. Gives {X = Unit {0}} (λ _. held) open_fault_of (Err fault) (taken (ledger_in rules (image_of d))))
      → IsBroken old new → (IsErrOf {T = Unit {0}} (Err fault) DiskFault → Risen) → Begins (opening rules) disk later
      → StepsOnDisk rules Answers old disk request now Risen (Fixed (code_of fault)) new later
  unopened old new disk later request now Risen DiskFault held was gives broken risen begun =
      record { step = NotOpened was (risen refl) refl broken; calls = begun }
  unopened old new disk later request now Risen (Foreign file place) held was gives broken risen begun =
      record { step = Strange was (why disk held file place gives) refl broken; calls = begun }
  unopened old new disk later request now Risen NoMemory held was gives broken risen begun =
      record { step = StarvedAtOpening was refl broken; calls = begun }

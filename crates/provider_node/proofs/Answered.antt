-- What is known of each answer over a ledger is known of the answer of a step.
use Rattle.std.specs.Prelude.{Option, None, Some}
use Rattle.std.proofs.Common.{◌≡◌, ◌⊎◌, inl, inr, ℕ, ◌≤◌, arith, subst, sym}
use Rattle.crash_disk.specs.Disk.{DiskState}
use Rattle.http_wire.specs.declared.answer.Answer.{Answer}
use Rattle.http_wire.specs.declared.answer.Answer.TheVariants.{Fixed}
use Rattle.http_wire.specs.Requests.{Request}
use Rattle.record_ledger.specs.Rules.{RecordRules}
use Rattle.record_ledger.specs.Ledger.{Held}
use Rattle.provider_node.specs.declared.codes.TheConstants.{DISK_FAULT, FOREIGN, FULL, NO_MEMORY}
use Rattle.provider_node.specs.Step as steps
use Rattle.provider_node.specs.Step.{AnswersBy, IsWhole, Provider, Serves, Steps}

module _ {Setup R : Type 0} (rules : RecordRules R) (Answers : AnswersBy Setup R) (request : Request) (now : ℕ)
    (Risen : Type 0) (answer : Answer) (old new : Provider Setup R) where
  -- what holds of each answer, and of the codes of every provider, holds of what is answered
  module _ (Holds : Answer → Type 0)
      (over : (held : Held R) (adds : Option R) → Answers old.setup held request now answer adds → Holds answer)
      (own : (code : ℕ) → code ≤ 53 → Holds (Fixed code)) where
    coded : (code : ℕ) → code ≤ 53 → answer ≡ Fixed code → Holds answer
    coded code few is = subst Holds (sym is) (own code few)

    pub served : (found : Held R) → Serves rules Answers found request now Risen answer old new → Holds answer
    served found (steps.Plain answers whole) = over found None answers
    served found (steps.Recorded r answers place whole) = over found (Some r) answers
    served found (steps.RecordedAfterCompaction held r room answers place whole) = over held (Some r) answers
    served found (steps.NoPlace held r another room answers still is whole) = coded FULL (omega arith) is
    served found (steps.Failed wanted other wants risen is broken) = coded DISK_FAULT (omega arith) is
    served found (steps.Starved held which is whole) = coded NO_MEMORY (omega arith) is

    pub answered : (disk : Option DiskState) → Steps rules Answers old disk request now Risen answer new → Holds answer
    answered disk (steps.WithLedger whole serves) = served old.ledger.held serves
    answered disk (steps.WithOpened found broken is serves) = served found serves
    answered disk (steps.NotOpened was risen is broken) = coded DISK_FAULT (omega arith) is
    answered disk (steps.Strange was none is broken) = coded FOREIGN (omega arith) is
    answered disk (steps.StarvedAtOpening was is broken) = coded NO_MEMORY (omega arith) is

  -- where no answer to a request adds a record it is answered so, or there was no memory, and the ledger is as it was
  module _ (found : Held R) (never : (other : Answer) (r : R) → ¬ (Answers old.setup found request now other (Some r)))
    where
      pub plainly : Serves rules Answers found request now Risen answer old new
          → (Answers old.setup found request now answer None ⊎ (answer ≡ Fixed NO_MEMORY)) × IsWhole old new found
      plainly (steps.Plain answers whole) = (inl answers, whole)
      plainly (steps.Recorded r answers place whole) = absurd (never answer r answers)
      plainly (steps.RecordedAfterCompaction held r room answers place whole) =
          absurd (never room.room.other room.room.wanted room.room.wants)
      plainly (steps.NoPlace held r another room answers unplaced is whole) =
          absurd (never room.room.other room.room.wanted room.room.wants)
      plainly (steps.Failed wanted other wants risen is broken) = absurd (never other wanted wants)
      plainly (steps.Starved held (inl same) is whole) = (inr is, subst (IsWhole old new) same whole)
      plainly (steps.Starved held (inr room) is whole) = absurd (never room.room.other room.room.wanted room.room.wants)

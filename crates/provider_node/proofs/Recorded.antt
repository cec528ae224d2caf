-- That a page which stands for a record is sent only where the record is kept.
use Rattle.std.specs.Prelude.{Option, None, Some, Ok}
use Rattle.std.proofs.Common.{◌≡◌, ℕ, List, subst}
use Rattle.crash_disk.specs.Counts.{Rose}
use Rattle.crash_disk.specs.Disk.{DiskState, Image}
use Rattle.crash_disk.specs.Moments.{Leaves}
use Rattle.http_wire.specs.declared.answer.Answer.TheVariants.{Fixed, Full}
use Rattle.http_wire.specs.Requests.{Request}
use Rattle.record_ledger.specs.Rules.{RecordRules}
use Rattle.record_ledger.specs.Ledger.{Held, held_with, ledger_in}
use Rattle.provider_node.specs.Recorded.{IsRecorded, WhatIsAnsweredIsRecorded}
use Rattle.provider_node.specs.Step as steps
use Rattle.provider_node.specs.Step.{AnswersBy, IsWhole, OwnsDisk, Provider, Serves, Steps}
use Rattle.provider_node.proofs.Serving.{settled}

no_page : (code : ℕ) (bytes : List ℕ) → Full bytes ≡ Fixed code → ⊥
no_page code bytes is = cc

-- a step whose answer is a page: it stands for no record, or its record is kept
module _ {Setup R : Type 0} (rules : RecordRules R) (Answers : AnswersBy Setup R) (request : Request) (now : ℕ)
    (bytes : List ℕ) (old new : Provider Setup R) (later : Option DiskState) (own : OwnsDisk rules new later) where
  kept : (held : Held R)
      → IsWhole old new held → (image : Image) → Leaves later image → ledger_in rules image ≡ Ok (Some held)
  kept held whole image left = subst (λ (h : Held R). ledger_in rules image ≡ Ok (Some h)) whole.is
      (settled rules later new.ledger image whole.unbroken own left)

  pub page_served : (found : Held R) (Risen : Type 0) → ¬ (Answers old.setup found request now (Full bytes) None)
      → Serves rules Answers found request now Risen (Full bytes) old new
      → IsRecorded rules Answers old.setup request now (Full bytes) later
  page_served found Risen never (steps.Plain answers whole) = absurd (never answers)
  page_served found Risen never (steps.Recorded r answers place whole) =
      record { held = found; r = r; stands = answers; kept = kept (held_with r found) whole }
  page_served found Risen never (steps.RecordedAfterCompaction held r room answers place whole) =
      record { held = held; r = r; stands = answers; kept = kept (held_with r held) whole }
  page_served found Risen never (steps.NoPlace held r another room answers unplaced is whole) =
      absurd (no_page _ bytes is)
  page_served found Risen never (steps.Failed wanted other wants risen is broken) = absurd (no_page _ bytes is)
  page_served found Risen never (steps.Starved held which is whole) = absurd (no_page _ bytes is)

  pub page_stepped : (disk : Option DiskState) (Risen : Type 0)
      → ((found : Held R) → ¬ (Answers old.setup found request now (Full bytes) None)) → Steps rules Answers
      old disk request now Risen (Full bytes) new → IsRecorded rules Answers old.setup request now (Full bytes) later
  page_stepped disk Risen never (steps.WithLedger whole serves) =
      page_served old.ledger.held Risen (never old.ledger.held) serves
  page_stepped disk Risen never (steps.WithOpened found broken is serves) = page_served found Risen (never found) serves
  page_stepped disk Risen never (steps.NotOpened was risen is broken) = absurd (no_page _ bytes is)
  page_stepped disk Risen never (steps.Strange was fault is broken) = absurd (no_page _ bytes is)
  page_stepped disk Risen never (steps.StarvedAtOpening was is broken) = absurd (no_page _ bytes is)

-- so it is of each request to one of these services where a page that stands for no record is none of theirs
pub answered_recorded : {Setup R : Type 0} (rules : RecordRules R) (Answers : AnswersBy Setup R)
    (IsOfThese : Request → Type 0)
    → ((setup : Setup) (held : Held R) (request : Request) (now : ℕ) (bytes : List ℕ) → IsOfThese request
    → ¬ (Answers setup held request now (Full bytes) None)) → WhatIsAnsweredIsRecorded rules Answers IsOfThese
answered_recorded rules Answers IsOfThese never old new disk later request now before after bytes step own is =
    page_stepped rules Answers request now bytes old new later own disk (Rose before after)
    (λ found answers. never old.setup found request now bytes is answers) step

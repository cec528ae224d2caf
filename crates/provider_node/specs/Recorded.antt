-- What stands behind an answer.
use Rattle.std.specs.Prelude.{◌≡◌, ℕ, List, Option, Some, Ok}
use Rattle.crash_disk.specs.Counts.{Rose}
use Rattle.crash_disk.specs.Disk.{Image, DiskState}
use Rattle.crash_disk.specs.Moments.{Leaves}
use Rattle.http_wire.specs.declared.answer.Answer.{Answer}
use Rattle.http_wire.specs.declared.answer.Answer.TheVariants.{Full}
use Rattle.http_wire.specs.Requests.{Request}
use Rattle.record_ledger.specs.Rules.{RecordRules}
use Rattle.record_ledger.specs.Ledger.{Held, held_with, ledger_in}
use Rattle.provider_node.specs.Step.{AnswersBy, OwnsDisk, Provider, Steps}

module _ {Setup R : Type 0} (rules : RecordRules R) (Answers : AnswersBy Setup R)
    (setup : Setup) (request : Request) (now : ℕ) (answer : Answer) (disk : Option DiskState) where
  -- the answer stands for a record, and each ledger that a crash may leave has it behind the others
  pub record IsRecorded : Type 0 where
    pub held : Held R
    pub r : R
    pub stands : Answers setup held request now answer (Some r)
    pub kept : (image : Image) → Leaves disk image → ledger_in rules image ≡ Ok (Some (held_with r held))

-- Whatever page is answered to a request that goes to one of these services, its record is in every image that a crash
-- may leave behind the step: it was written before the answer is sent.
abbrev pub WhatIsAnsweredIsRecorded : {Setup R : Type 0} → RecordRules R → AnswersBy Setup R
    → (IsOfThese : Request → Type 0) → Type 0
WhatIsAnsweredIsRecorded {Setup} {R} rules Answers IsOfThese =
    (old new : Provider Setup R) (disk later : Option DiskState) (request : Request) (now before after : ℕ)
    (bytes : List ℕ) → Steps rules Answers old disk request now (Rose before after) (Full bytes) new
    → OwnsDisk rules new later → IsOfThese request → IsRecorded rules Answers old.setup request now (Full bytes) later

-- Of which request a record is that stands in a ledger: whatever was answered, and also where a crash cut the answer;
-- and that its numbers are new.
use Rattle.std.specs.Prelude.{◌≡◌, ℕ, ◌≤◌, true, false, All, Contains, Option, Some, IfSome, IsSome, Ok}
use Rattle.crash_disk.specs.Disk.{Image, DiskState, MayLeave, image_of}
use Rattle.crash_disk.specs.Moments.{Leaves}
use Rattle.http_wire.specs.declared.answer.Answer.{Answer}
use Rattle.http_wire.specs.Requests.{Request}
use Rattle.ledger_rules.specs.Numbers.{Drawn}
use Rattle.record_ledger.specs.Rules.{RecordRules}
use Rattle.record_ledger.specs.Ledger.{Held, ledger_in, next_number, taken}
use Rattle.provider_node.specs.Causes.{IsAddedOver}
use Rattle.provider_node.specs.Step.{AnswersBy, Provider, StepLeaves}

module _ {Setup R : Type 0} (rules : RecordRules R) (old : Provider Setup R) (disk : Option DiskState) (r : R) where
  -- A record stands in no ledger that a request may find: not in the provider's while this is whole, and while it is
  -- broken in none that may be opened from the disk.
  pub record IsNew : Type 0 where
    pub in_ledger : old.ledger.broken ≡ false → ¬ (Contains old.ledger.held.records r)
    pub on_disk : old.ledger.broken ≡ true → (image : Image) (held : Held R) → Leaves disk image
        → taken (ledger_in rules image) ≡ Ok held → ¬ (Contains held.records r)

module _ {Setup R : Type 0} (Answers : AnswersBy Setup R) (setup : Setup) (request : Request) (now : ℕ) (r : R) where
  -- A request adds this record: over some ledger, with some answer, be it one that was never sent.
  pub record IsAddedBy : Type 0 where
    pub held : Held R
    pub answer : Answer
    pub adds : Answers setup held request now answer (Some r)

-- the numbers of a record were not drawn before
abbrev pub IsAbove : {R : Type 0} → RecordRules R → Held R → R → Type 0
IsAbove rules held r = All (λ (d : Drawn). next_number rules held ≤ d.number) (rules.drawn r)

-- The numbers of each record that is added with an answer were not drawn before, whatever the setup, the ledger, the
-- request and the moment.
abbrev pub DrawsAbove : {Setup R : Type 0} → RecordRules R → AnswersBy Setup R → Type 0
DrawsAbove {Setup} {R} rules Answers = (setup : Setup) (held : Held R) (request : Request)
    (now : ℕ) (answer : Answer) (r : R) → Answers setup held request now answer (Some r) → IsAbove rules held r

-- Each record that stands in an image which a crash inside the answer to a request may leave, or one behind it, and
-- stood nowhere before, is one that this request adds, over the ledger that it finds or what a compaction makes of it.
abbrev pub WhatIsNewIsOfTheRequest : {Setup R : Type 0} → RecordRules R → AnswersBy Setup R → Type 0
WhatIsNewIsOfTheRequest {Setup} {R} rules Answers = (old : Provider Setup R) (disk : Option DiskState)
    (request : Request) (now : ℕ) (image : Image) (held : Held R) (r : R) → IsSome disk → IfSome disk
    (λ d. MayLeave d (image_of d)) → StepLeaves rules Answers old disk request now image → ledger_in rules image ≡ Ok
    (Some held) → Contains held.records r → IsNew rules old disk r → IsAddedOver rules Answers old disk request now r

-- What becomes of a ledger where there was no memory for an answer.
use Rattle.std.specs.Prelude.{◌≡◌, ◌⊎◌, ℕ, true, false, List, [], ◌∷◌, ◌++◌, Option, Some}
use Rattle.crash_disk.specs.Counts.{Rose}
use Rattle.crash_disk.specs.Disk.{DiskState}
use Rattle.http_wire.specs.declared.answer.Answer.TheVariants.{Fixed}
use Rattle.http_wire.specs.Requests.{Request}
use Rattle.record_ledger.specs.Rules.{RecordRules, AreRecords}
use Rattle.record_ledger.specs.Ledger.{Held}
use Rattle.record_ledger.specs.Compacting.{Compacts}
use Rattle.record_ledger.specs.Runs.{IsVisibleThroughout, Stays}
use Rattle.provider_node.specs.Step.{AnswersBy, Provider, Steps}
use Rattle.provider_node.specs.declared.codes.TheConstants.{NO_MEMORY}

-- no code stands for a record
abbrev pub CodesAddNothing : {Setup R : Type 0} → AnswersBy Setup R → Type 0
CodesAddNothing {Setup} {R} Answers = (setup : Setup) (held : Held R) (request : Request) (now code : ℕ) (r : R)
    → ¬ (Answers setup held request now (Fixed code) (Some r))

-- The ledger is as it was, or as one compaction at the moment makes it.
abbrev pub IsSameOrCompacted : {R : Type 0} → RecordRules R → (now : ℕ) → (old new : Held R) → Type 0
IsSameOrCompacted rules now old new = (new ≡ old) ⊎ Compacts rules now old new

-- Where there was no memory and the ledger was not broken, it is the same or compacted; so each record with a row that
-- is visible at that moment is still there, with those that name it, and its row is visible.
pub record Keeps {R : Type 0} (rules : RecordRules R) (now : ℕ) (old new : Held R) : Type 0 where
  pub same : IsSameOrCompacted rules now old new
  pub stays : (front behind : List R) (r : R) → old.records ≡ front ++ r ∷ behind
      → IsVisibleThroughout rules old.header.horizon (now ∷ []) r → Stays rules r behind [] new
  pub visible : (r : R)
      → IsVisibleThroughout rules old.header.horizon (now ∷ []) r → rules.has_visible now new.header.horizon r ≡ true

abbrev pub WhatIsVisibleStays : {Setup R : Type 0} → RecordRules R → AnswersBy Setup R → Type 0
WhatIsVisibleStays {Setup} {R} rules Answers = CodesAddNothing Answers → (old new : Provider Setup R) (disk : Option
    DiskState) (request : Request) (now before after : ℕ) → old.ledger.broken ≡ false → Steps rules Answers
    old disk request now (Rose before after) (Fixed NO_MEMORY) new → Keeps rules now old.ledger.held new.ledger.held

-- `AnswerAlike` says that at a moment all that may be asked of the rows of two ledgers is answered alike. It is so of
-- the ledger behind a request and the one before, where there was no memory and the ledger was not broken.
abbrev pub RowsAnswerAsBefore : {Setup R : Type 0}
    → RecordRules R → AnswersBy Setup R → (AnswerAlike : (now : ℕ) → (one other : Held R) → Type 0) → Type 0
RowsAnswerAsBefore {Setup} {R} rules Answers AnswerAlike =
    (old new : Provider Setup R) (disk : Option DiskState) (request : Request) (now before after : ℕ)
    → AreRecords rules old.ledger.held.records → old.ledger.broken ≡ false → Steps rules Answers old disk request now
    (Rose before after) (Fixed NO_MEMORY) new → AnswerAlike now new.ledger.held old.ledger.held

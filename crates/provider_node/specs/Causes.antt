-- The ledger that a step finds, the record that it adds over this, and the codes that a provider answers for itself,
-- where it can't go on, with what each stands for.
use Rattle.std.specs.Prelude.{◌≡◌, ◌≢◌, ◌⊎◌, ℕ, true, false, Option, Some, IfSome, Err}
use Rattle.crash_disk.specs.Counts.{Rose}
use Rattle.crash_disk.specs.Disk.{DiskState, image_of}
use Rattle.gate_journal.specs.Format.{Fault}
use Rattle.http_wire.specs.declared.answer.Answer.{Answer}
use Rattle.http_wire.specs.declared.answer.Answer.TheVariants.{Fixed}
use Rattle.http_wire.specs.Requests.{Request}
use Rattle.record_ledger.specs.Rules.{RecordRules}
use Rattle.record_ledger.specs.Ledger.{Held, ledger_in, taken}
use Rattle.provider_node.specs.Step.{AnswersBy, HasPlace, IsFound, MakesRoom, Provider, Steps}
use Rattle.provider_node.specs.declared.codes.TheConstants.{DISK_FAULT, FOREIGN, FULL, NO_MEMORY}

-- the answer is none of the codes that a provider answers for itself
pub record IsNoOwnCode (answer : Answer) : Type 0 where
  pub no_fault : answer ≢ Fixed DISK_FAULT
  pub not_full : answer ≢ Fixed FULL
  pub not_starved : answer ≢ Fixed NO_MEMORY
  pub not_foreign : answer ≢ Fixed FOREIGN

-- It is so of each answer to a request where nothing fails, whatever the setup, the ledger and the moment.
abbrev pub GivesNoOwnCode : {Setup R : Type 0} → AnswersBy Setup R → Type 0
GivesNoOwnCode {Setup} {R} Answers = (setup : Setup) (held : Held R) (request : Request) (now : ℕ) (answer : Answer)
    (adds : Option R) → Answers setup held request now answer adds → IsNoOwnCode answer

-- A step finds this ledger: the provider's own or, where that is broken, the one that is opened from its disk.
abbrev pub Finds : {Setup R : Type 0} → RecordRules R → Provider Setup R → Option DiskState → Held R → Type 0
Finds rules old disk found = ((old.ledger.broken ≡ false) × (found ≡ old.ledger.held))
    ⊎ ((old.ledger.broken ≡ true) × IsFound rules disk found)

module _ {Setup R : Type 0} (rules : RecordRules R) (Answers : AnswersBy Setup R)
    (old : Provider Setup R) (disk : Option DiskState) (request : Request) (now : ℕ) where
  -- A request is answered so, with a record that it adds or with none: over the ledger that the step finds, or over
  -- what the one compaction makes of this.
  pub record IsAnsweredOver (answer : Answer) (adds : Option R) : Type 0 where
    pub held : Held R
    pub answers : Answers old.setup held request now answer adds
    pub over : (found : Held R) × Finds rules old disk found
        × ((held ≡ found) ⊎ MakesRoom rules Answers old.setup found request now held)

  -- A request adds this record with some answer, be it one that was never sent.
  abbrev pub IsAddedOver : R → Type 0
  IsAddedOver r = (answer : Answer) × IsAnsweredOver answer (Some r)

  -- A record was to be added to the ledger that the step found, and there was no place for it; nor was there one for
  -- the record that was to be added to what one compaction made of this ledger.
  pub record HasNoRoom : Type 0 where
    pub found : Held R
    pub finds : Finds rules old disk found
    pub held : Held R
    pub makes_room : MakesRoom rules Answers old.setup found request now held
    pub wanted : R
    pub other : Answer
    pub wants : Answers old.setup held request now other (Some wanted)
    pub none : ¬ (HasPlace rules held wanted)

  -- The ledger is broken and, as far as the disk tells, this stands for no ledger.
  pub record IsForeign : Type 0 where
    pub broken : old.ledger.broken ≡ true
    pub foreign : IfSome disk (λ d. (fault : Fault) × (taken (ledger_in rules (image_of d)) ≡ Err fault))

  -- The page that the disk failed is answered only where its count of faults rose, that there is no room only where
  -- there is none, and that the disk holds a foreign ledger only where it does.
  pub record HasItsCause (Risen : Type 0) (answer : Answer) : Type 0 where
    pub failed : answer ≡ Fixed DISK_FAULT → Risen
    pub full : answer ≡ Fixed FULL → HasNoRoom
    pub foreign : answer ≡ Fixed FOREIGN → IsForeign

-- So it is of each step, where the answers are so.
abbrev pub EachCodeHasItsCause : {Setup R : Type 0} → RecordRules R → AnswersBy Setup R → Type 0
EachCodeHasItsCause {Setup} {R} rules Answers = GivesNoOwnCode Answers → (old new : Provider Setup R) (disk : Option
    DiskState) (request : Request) (now before after : ℕ) (answer : Answer)
    → Steps rules Answers old disk request now (Rose before after) answer new
    → HasItsCause rules Answers old disk request now (Rose before after) answer

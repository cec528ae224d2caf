-- What a provider that keeps a ledger does at one request. What it answers, and which record it adds with an answer, is
-- a definition of its own, which stands in the place of `Answers`.
use Rattle.std.specs.Prelude.{◌≡◌, ◌⊎◌, ℕ, Bool, true, false, List, Option, None, Some, IfSome, Ok, Err}
use Rattle.std.proofs.Common.{inr}
use Rattle.crash_disk.specs.Disk.{Image, DiskState, MayLeave, image_of}
use Rattle.gate_journal.specs.Format.{Fault}
use Rattle.http_wire.specs.declared.answer.Answer.{Answer}
use Rattle.http_wire.specs.declared.answer.Answer.TheVariants.{Fixed}
use Rattle.http_wire.specs.Requests.{Request}
use Rattle.record_ledger.specs.Rules.{RecordRules, AreRecords}
use Rattle.record_ledger.specs.Ledger.{Held, OpenedLedger, IsFitting, IsOwn, ledger_in, taken, held_with}
use Rattle.record_ledger.specs.Calls.{opening, committing}
use Rattle.record_ledger.specs.Drafts.{is_full}
use Rattle.record_ledger.specs.Compacting.{Compacts}
use Rattle.provider_node.specs.Calls.{BeginsCompaction, Begins, CommittingLeaves, CompactingLeaves, Makes}
use Rattle.provider_node.specs.Calls.{MakesCompaction, OpeningLeaves}
use Rattle.provider_node.specs.declared.codes.TheConstants.{DISK_FAULT, FOREIGN, FULL, NO_MEMORY}

-- a ledger, as a step sees it: what it holds, the key of its IDs, and whether a call failed since it was opened
pub record Ledger (R : Type 0) : Type 0 where
  pub held : Held R
  pub key : List ℕ
  pub broken : Bool

-- an opened ledger seen so: without the memory that it has ready
abbrev pub seen : {R S : Type 0} → OpenedLedger R S → Ledger R
seen opened = record { held = opened.held; key = opened.key; broken = opened.broken }

-- a provider: what it is set up with, and its ledger
pub record Provider (Setup R : Type 0) : Type 0 where
  pub setup : Setup
  pub ledger : Ledger R

abbrev pub provider : {Setup R : Type 0} → Setup → Ledger R → Provider Setup R
provider setup ledger = record { setup = setup; ledger = ledger }

-- What says what is answered to a request where nothing fails: by this setup, over this ledger, at this moment, with
-- the record that is added.
abbrev pub AnswersBy : (Setup R : Type 0) → Type 1
AnswersBy Setup R = Setup → Held R → Request → ℕ → Answer → Option R → Type 0

-- from the disk this ledger is opened, as far as the disk tells
abbrev pub IsFound : {R : Type 0} → RecordRules R → Option DiskState → Held R → Type 0
IsFound rules disk found = IfSome disk (λ d. taken (ledger_in rules (image_of d)) ≡ Ok found)

-- there is room for a record: fewer rows of its kind are kept than may be, and it fits
pub record HasPlace {R : Type 0} (rules : RecordRules R) (held : Held R) (r : R) : Type 0 where
  pub few : is_full rules held.records r ≡ false
  pub fits : IsFitting rules held r

module _ {Setup R : Type 0} (old new : Provider Setup R) where
  -- after a request the ledger is whole and holds this
  pub record IsWhole (held : Held R) : Type 0 where
    pub setup : new.setup ≡ old.setup
    pub key : new.ledger.key ≡ old.ledger.key
    pub unbroken : new.ledger.broken ≡ false
    pub is : new.ledger.held ≡ held

  -- after a request the ledger is broken
  pub record IsBroken : Type 0 where
    pub setup : new.setup ≡ old.setup
    pub key : new.ledger.key ≡ old.ledger.key
    pub is_broken : new.ledger.broken ≡ true

-- A REQUEST OVER THE LEDGER THAT IT FINDS

module _ {Setup R : Type 0} (rules : RecordRules R)
    (Answers : AnswersBy Setup R) (setup : Setup) (found : Held R) (request : Request) (now : ℕ) where
  -- A record was to be added to the ledger that was found, which holds records, and there was no place for it.
  pub record WantsRoom : Type 0 where
    pub wanted : R
    pub other : Answer
    pub wants : Answers setup found request now other (Some wanted)
    pub none : ¬ (HasPlace rules found wanted)
    pub are : AreRecords rules found.records

  -- So it was, and one compaction made this of the ledger.
  pub record MakesRoom (held : Held R) : Type 0 where
    pub room : WantsRoom
    pub made : Compacts rules now found held

  -- A record that a request adds, from the moment on at which it is begun to be written: over the ledger that was
  -- found, with nothing written before, or over that which one compaction made, behind the calls of this.
  pub record Adding (told : Option DiskState) : Type 0 where
    pub held : Held R
    pub disk : Option DiskState
    pub over : ((held ≡ found) × (disk ≡ told)) ⊎ (MakesRoom held × MakesCompaction rules now found told disk)
    pub r : R
    pub answer : Answer
    pub adds : Answers setup held request now answer (Some r)
    pub place : HasPlace rules held r

  -- What a crash while a request is served over a ledger may leave, with what the disk tells as that begins: this
  -- ledger, before a call; it, or it after the one compaction, amid the calls of this, where there was no place for a
  -- record; either with the record that the request adds or without, amid those of its commit.
  pub data ServingLeaves (told : Option DiskState) (image : Image) : Type 0 where
    AtFirst : ledger_in rules image ≡ Ok (Some found) → IfSome told (λ d. MayLeave d image) → ServingLeaves told image
    InCompaction : WantsRoom → CompactingLeaves rules now found told image → ServingLeaves told image
    InCommit : (one : Adding told) → CommittingLeaves rules one.r one.held one.disk image → ServingLeaves told image

module _ {Setup R : Type 0} (rules : RecordRules R) (Answers : AnswersBy Setup R)
    (found : Held R) (request : Request) (now : ℕ) (Risen : Type 0) (answer : Answer) (old new : Provider Setup R) where
  -- What is done at a request over the ledger that it finds: the request and the moment; whether the disk's count of
  -- faults rose; the answer; the provider before and after.
  pub data Serves : Type 0 where
    -- nothing is recorded
    Plain : Answers old.setup found request now answer None → IsWhole old new found → Serves
    -- a record is added
    Recorded : (r : R) → Answers old.setup found request now answer (Some r)
        → HasPlace rules found r → IsWhole old new (held_with r found) → Serves
    -- there was no place for it, and after one compaction there is
    RecordedAfterCompaction : (held : Held R) (r : R)
        → MakesRoom rules Answers old.setup found request now held → Answers old.setup held request now answer (Some r)
        → HasPlace rules held r → IsWhole old new (held_with r held) → Serves
    -- there is none after it either
    NoPlace : (held : Held R) (r : R) (another : Answer)
        → MakesRoom rules Answers old.setup found request now held → Answers old.setup held request now another (Some r)
        → ¬ (HasPlace rules held r) → answer ≡ Fixed FULL → IsWhole old new held → Serves
    -- a record was to be added, and the disk failed in the compaction or while the record was written
    Failed : (wanted : R) (other : Answer) → Answers old.setup found request now other (Some wanted)
        → Risen → answer ≡ Fixed DISK_FAULT → IsBroken old new → Serves
    -- there was no memory: nothing is recorded, and where there was no place for a record one compaction may have been
    -- made
    Starved : (held : Held R) → (held ≡ found) ⊎ MakesRoom rules Answers old.setup found request now held
        → answer ≡ Fixed NO_MEMORY → IsWhole old new held → Serves

  module _ (told later : Option DiskState) where
    -- What the disk tells before and after, in each case of what is done over a ledger: which calls are made on it.
    abbrev pub ServingCalls : Serves → Type 0
    -- all those of a commit; of a compaction and then of a commit; of a compaction
    ServingCalls (Recorded r answers place whole) = Makes (committing rules found r) told later
    ServingCalls (RecordedAfterCompaction held r room answers place whole) = (between : Option DiskState)
        × MakesCompaction rules now found told between × Makes (committing rules held r) between later
    ServingCalls (NoPlace held r another room answers still is whole) = MakesCompaction rules now found told later
    ServingCalls (Starved held (inr room) is whole) = MakesCompaction rules now found told later
    -- a beginning of those of a compaction, where there was no place for the record, or of a commit: over the ledger
    -- that was found, or behind all those of the one compaction
    ServingCalls (Failed wanted other wants risen is broken) =
        (¬ (HasPlace rules found wanted) × BeginsCompaction rules now found told later)
        ⊎ ((one : Adding rules Answers old.setup found request now told)
        × Begins (committing rules one.held one.r) one.disk later)
    -- no call
    ServingCalls other = later ≡ told

    -- What is done over a ledger, by its cases, and in the same case which calls are made.
    pub record ServesOnDisk : Type 0 where
      pub serves : Serves
      pub calls : ServingCalls serves

-- A STEP

module _ {Setup R : Type 0} (rules : RecordRules R)
    (Answers : AnswersBy Setup R) (old : Provider Setup R) (disk : Option DiskState) (request : Request) (now : ℕ) where
  module _ (Risen : Type 0) (answer : Answer) (new : Provider Setup R) where
    -- The step of a provider at one request. A ledger that is broken is opened again first.
    pub data Steps : Type 0 where
      WithLedger : old.ledger.broken ≡ false → Serves rules Answers old.ledger.held request now Risen answer old new → Steps
      WithOpened : (found : Held R) → old.ledger.broken ≡ true
          → IsFound rules disk found → Serves rules Answers found request now Risen answer old new → Steps
      -- the disk failed, it stands for no ledger, or there was no memory: the ledger stays broken
      NotOpened : old.ledger.broken ≡ true → Risen → answer ≡ Fixed DISK_FAULT → IsBroken old new → Steps
      Strange : old.ledger.broken ≡ true → IfSome disk (λ d. (fault : Fault)
          × (taken (ledger_in rules (image_of d)) ≡ Err fault)) → answer ≡ Fixed FOREIGN → IsBroken old new → Steps
      StarvedAtOpening : old.ledger.broken ≡ true → answer ≡ Fixed NO_MEMORY → IsBroken old new → Steps

    module _ (later : Option DiskState) where
      -- Which calls it makes on its disk, in each case. Those of the opening of a broken ledger come first; where it is
      -- not opened, a beginning of them.
      abbrev pub StepCalls : Steps → Type 0
      StepCalls (WithLedger whole serves) =
          ServingCalls rules Answers old.ledger.held request now Risen answer old new disk later serves
      StepCalls (WithOpened found broken is serves) = (opened : Option DiskState) × Makes (opening rules) disk opened
          × ServingCalls rules Answers found request now Risen answer old new opened later serves
      StepCalls other = Begins (opening rules) disk later

      -- What a step does, by its cases, and in the same case which calls are made.
      pub record StepsOnDisk : Type 0 where
        pub step : Steps
        pub calls : StepCalls step

  module _ (image : Image) where
    -- What a crash at a moment of a request may leave: what one while it is served over a ledger may leave, and while a
    -- broken ledger is opened again what one inside the opening may leave.
    pub data StepLeaves : Type 0 where
      InLedger : old.ledger.broken ≡ false
          → ServingLeaves rules Answers old.setup old.ledger.held request now disk image → StepLeaves
      InOpened : (found : Held R) (opened : Option DiskState)
          → old.ledger.broken ≡ true → IsFound rules disk found → Makes (opening rules) disk opened
          → ServingLeaves rules Answers old.setup found request now opened image → StepLeaves
      InOpening : old.ledger.broken ≡ true → OpeningLeaves rules disk image → StepLeaves

-- a ledger as one that is opened and has no memory ready
abbrev pub opened_as : {R : Type 0} → Ledger R → OpenedLedger R (Unit {0})
opened_as l = record { held = l.held; key = l.key; broken = l.broken; payload_spare = None; standing = tt }

-- the disk is a ledger's own, and a provider's
abbrev pub Owns : {R : Type 0} → RecordRules R → Option DiskState → Ledger R → Type 0
Owns rules disk ledger = IsOwn rules disk (opened_as ledger)

abbrev pub OwnsDisk : {Setup R : Type 0} → RecordRules R → Provider Setup R → Option DiskState → Type 0
OwnsDisk rules provider disk = Owns rules disk provider.ledger

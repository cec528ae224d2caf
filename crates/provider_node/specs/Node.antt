-- What a restart and a compaction of a provider do.
use Rattle.std.specs.Prelude.{◌≡◌, ℕ, true, false, Option, IfSome, IsSomeAnd, IsOk, Result, Ok, Err, OnOk, OnErr}
use Rattle.owned_values.specs.Gives.{Gives}
use Rattle.crash_disk.specs.Counts.{Rose}
use Rattle.crash_disk.specs.Disk.{Image, DiskState, MayLeave, image_of}
use Rattle.crash_disk.specs.Plans.{IsCarriedOut}
use Rattle.gate_journal.specs.declared.fault.OpenFault.{OpenFault}
use Rattle.gate_journal.specs.declared.fault.OpenFault.TheVariants.{DiskFault, NoMemory}
use Rattle.gate_journal.specs.Opening.{open_fault_of}
use Rattle.serve_loop.specs.Worlds.{NodeRules}
use Rattle.record_ledger.specs.Rules.{RecordRules}
use Rattle.record_ledger.specs.Ledger.{Held, ledger_in, taken}
use Rattle.record_ledger.specs.Calls.{opening}
use Rattle.record_ledger.specs.Compacting.{Compacts}
use Rattle.provider_node.specs.Calls.{CompactingLeaves, CompactionCalls, Makes, OpeningLeaves}
use Rattle.provider_node.specs.Step.{AnswersBy, Provider, IsFound, IsWhole, IsBroken, OwnsDisk, StepsOnDisk, StepLeaves}

-- What a crash may leave of the disk can be opened.
abbrev pub MayOpen : {R : Type 0} → RecordRules R → Option DiskState → Type 0
MayOpen rules told = IfSome told (λ disk. (image : Image) → MayLeave disk image → IsOk (ledger_in rules image))

module _ {Setup R : Type 0} (rules : RecordRules R) (old : Provider Setup R) (disk : Option DiskState)
    (result : Result (Unit {0}) OpenFault) (new : Provider Setup R) (later : Option DiskState) where
  -- A restart opens the ledger of the disk again, in the words of its ledger: at an error it is broken, and else whole.
  -- It makes the changing calls of an opening, all of them or, at an error, a beginning.
  pub record Restarts : Type 0 where
    pub setup : new.setup ≡ old.setup
    pub key : new.ledger.key ≡ old.ledger.key
    pub gives : IfSome disk
        (λ d. Gives (λ _. new.ledger.held) open_fault_of result (taken (ledger_in rules (image_of d))))
    pub whole : OnOk result (new.ledger.broken ≡ false)
    pub fails : OnErr result ((new.ledger.held ≡ old.ledger.held) × (new.ledger.broken ≡ true))
    pub calls : IfSome disk (λ d. IsSomeAnd later (IsCarriedOut result (opening rules d) d))

module _ {Setup R : Type 0} (rules : RecordRules R)
    (now : ℕ) (found : Held R) (result : Result (Unit {0}) OpenFault) (old new : Provider Setup R) where
  -- What a compaction does to the ledger that it finds: it is made anew; there was no memory, and it stays; the disk
  -- failed, and it is broken.
  pub data CompactsFound : Type 0 where
    MadeAnew : (held : Held R) → result ≡ Ok tt → Compacts rules now found held → IsWhole old new held → CompactsFound
    Stays : result ≡ Err NoMemory → IsWhole old new found → CompactsFound
    Fails : result ≡ Err DiskFault → IsBroken old new → CompactsFound

module _ {Setup R : Type 0} (rules : RecordRules R) (old : Provider Setup R) (disk : Option DiskState) (now : ℕ) where
  module _ (result : Result (Unit {0}) OpenFault) (new : Provider Setup R) (later : Option DiskState) where
    -- What a compaction of a provider does, and which changing calls it makes. A ledger that is broken is opened again
    -- first.
    pub data CompactionOf : Type 0 where
      OfLedger : old.ledger.broken ≡ false → CompactsFound rules now old.ledger.held result old new
          → CompactionCalls rules now old.ledger.held disk later result → CompactionOf
      OfOpened : (found : Held R) (opened : Option DiskState) → old.ledger.broken ≡ true
          → IsFound rules disk found → Makes (opening rules) disk opened → CompactsFound rules now found result old new
          → CompactionCalls rules now found opened later result → CompactionOf
      NotBegun : old.ledger.broken ≡ true
          → Restarts rules old disk result new later → new.ledger.broken ≡ true → CompactionOf

  module _ (image : Image) where
    -- What a crash inside a compaction may leave: the ledger that it finds, or that made anew, amid its calls; and
    -- while a broken one is opened again what a restart may leave.
    pub data CompactionLeaves : Type 0 where
      InCompaction : old.ledger.broken ≡ false → CompactingLeaves rules now old.ledger.held disk image → CompactionLeaves
      InCompactionOfOpened : (found : Held R) (opened : Option DiskState)
          → old.ledger.broken ≡ true → IsFound rules disk found
          → Makes (opening rules) disk opened → CompactingLeaves rules now found opened image → CompactionLeaves
      InRestart : old.ledger.broken ≡ true → OpeningLeaves rules disk image → CompactionLeaves

-- What is said of the calls of a provider.
abbrev pub provider_rules : {Setup R : Type 0} → RecordRules R → AnswersBy Setup R → NodeRules (Provider Setup R)
provider_rules records Answers = record {
  own = OwnsDisk records;
  step = λ old disk request now before after. StepsOnDisk records Answers old disk request now (Rose before after);
  leaves = StepLeaves records Answers;
  reopens = λ old disk before after result new later. Restarts records old disk result new later;
  reopening_leaves = λ old disk. OpeningLeaves records disk;
  compacts = λ old disk now before after result new later. CompactionOf records old disk now result new later;
  compaction_leaves = CompactionLeaves records;
}

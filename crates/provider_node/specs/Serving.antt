-- What the parts of a step do.
use Rattle.std.specs.Prelude.{◌≡◌, ℕ, ◌≤◌, false, List, Option}
use Rattle.crash_disk.specs.Disk.{DiskState}
use Rattle.gate_journal.specs.declared.fault.OpenFault.{OpenFault}
use Rattle.gate_journal.specs.declared.fault.OpenFault.TheVariants as faults
use Rattle.http_wire.specs.declared.answer.Answer.{Answer}
use Rattle.http_wire.specs.declared.answer.Answer.TheVariants.{Fixed}
use Rattle.record_ledger.specs.Calls.{committing}
use Rattle.record_ledger.specs.Ledger.{held_with}
use Rattle.record_ledger.specs.Rules.{RecordRules}
use Rattle.saml_time.specs.declared.TheConstants.{LAST}
use Rattle.provider_node.specs.Calls.{Begins, Makes}
use Rattle.provider_node.specs.Step.{Ledger, Owns, Provider, IsBroken, IsWhole}
use Rattle.provider_node.specs.declared.codes.TheConstants.{DISK_FAULT, FOREIGN, NO_MEMORY}

-- A record is added behind those of a ledger, with an answer: it was, by all calls of a commit; there was no memory for
-- the answer, and no call is made; the disk failed once it was made, at a beginning of them.
pub data Adds {Setup R : Type 0} (rules : RecordRules R) (IsPage : Answer → Type 0) (r : R)
    (Risen : Type 0) (answer : Answer) (old new : Provider Setup R) (told later : Option DiskState) : Type 0 where
  Added : IsPage answer → IsWhole old new (held_with r old.ledger.held)
      → Makes (committing rules old.ledger.held r) told later → Adds rules IsPage r Risen answer old new told later
  NotMade : answer ≡ Fixed NO_MEMORY
      → IsWhole old new old.ledger.held → later ≡ told → Adds rules IsPage r Risen answer old new told later
  Lost : (other : Answer) → IsPage other → Risen → answer ≡ Fixed DISK_FAULT → IsBroken old new
      → Begins (committing rules old.ledger.held r) told later → Adds rules IsPage r Risen answer old new told later

-- the code of a fault of an opening or a compaction
abbrev pub code_of : OpenFault → ℕ
code_of faults.DiskFault = DISK_FAULT
code_of (faults.Foreign file place) = FOREIGN
code_of faults.NoMemory = NO_MEMORY

-- a request can be served: the ledger is whole and draws IDs by this key, and the disk is its own
pub record CanServe {R : Type 0}
    (rules : RecordRules R) (key : List ℕ) (ledger : Ledger R) (disk : Option DiskState) (now : ℕ) : Type 0 where
  pub moment : now ≤ LAST
  pub key_is : ledger.key ≡ key
  pub whole : ledger.broken ≡ false
  pub own : Owns rules disk ledger

-- What a disk stands for.
use Rattle.std.specs.Prelude.{IfSome, Option, None, Some, Ok}
use Rattle.std.proofs.Common.{◌≡◌}
use Rattle.owned_values.specs.Gives.{Gives}
use Rattle.crash_disk.specs.Disk.{DiskState, image_of}
use Rattle.gate_journal.specs.Opening.{open_fault_of}
use Rattle.record_ledger.specs.Rules.{RecordRules}
use Rattle.record_ledger.specs.Ledger.{Held, ledger_in, taken}

-- what a disk stands for that tells, from what was opened of it
pub stands : {R : Type 0} (rules : RecordRules R) (disk : Option DiskState) (held : Held R) (u : Unit {0})
    → IfSome disk (λ d. Gives (λ _. held) open_fault_of (Ok u) (taken (ledger_in rules (image_of d))))
    → IfSome disk (λ d. taken (ledger_in rules (image_of d)) ≡ Ok held)
stands rules None held u gives = tt
stands rules (Some d) held u gives = gives

use Rattle.std.specs.Prelude.{Err}
use Rattle.std.proofs.Common.{◌≡◌, inr, rules}
use Rattle.crash_disk.specs.declared.file_no.Failed.{Failed}
use Rattle.crash_disk.specs.declared.change.Change.TheVariants.{Write}
use Rattle.crash_disk.specs.InMemory.{changes_in_memory, elapses_in_memory}
use Rattle.crash_disk.proofs.mem_disk.MemDiskDisk.write_at.Goals as goal

pub returns-in-Ok-clause-changes : goal.returns-in-Ok-clause-changes
returns-in-Ok-clause-changes c =
    let same : c.in-Ok.bytes ≡ c.args.bytes.now = search rules in
    rw (← same) (changes_in_memory _ _ _ _ c.change.ensures.calls)

pub returns-in-Ok-clause-time : goal.returns-in-Ok-clause-time
returns-in-Ok-clause-time c = elapses_in_memory _ _ _ _ c.change.ensures.calls

pub returns-in-Err-clause-changes : goal.returns-in-Err-clause-changes
returns-in-Err-clause-changes c = changes_in_memory {T = Unit {0}} {E = Failed} (Write c.args.file c.args.at c.args.bytes.now) c.args.self.now c.starve.new.self (Err c.starve.result) (inr c.starve.ensures.starved)

pub returns-in-Err-clause-time : goal.returns-in-Err-clause-time
returns-in-Err-clause-time c = elapses_in_memory {T = Unit {0}} {E = Failed} (Write c.args.file c.args.at c.args.bytes.now) c.args.self.now c.starve.new.self (Err c.starve.result) (inr c.starve.ensures.starved)

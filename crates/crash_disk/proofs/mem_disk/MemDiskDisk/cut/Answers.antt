use Rattle.crash_disk.specs.InMemory.{changes_in_memory, elapses_in_memory}
use Rattle.crash_disk.proofs.mem_disk.MemDiskDisk.cut.Goals as goal

pub returns-clause-changes : goal.returns-clause-changes
returns-clause-changes c = changes_in_memory _ _ _ _ c.change.ensures.calls

pub returns-clause-time : goal.returns-clause-time
returns-clause-time c = elapses_in_memory _ _ _ _ c.change.ensures.calls

use Rattle.std.proofs.Common.{◌≡◌, true, rules}
use Rattle.crash_disk.specs.InMemory.{elapses_unread}
use Rattle.crash_disk.proofs.mem_disk.MemDiskDisk.read_at.Goals as goal

pub returns-then-self-clause-time : goal.returns-then-self-clause-time
returns-then-self-clause-time c =
    let stopped : c.args.self.now.stopped ≡ true = search rules in
    elapses_unread c.args.self.now _ stopped (search rules)

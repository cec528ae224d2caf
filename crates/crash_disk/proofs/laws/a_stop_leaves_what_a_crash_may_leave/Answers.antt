use Rattle.crash_disk.specs.Disk.{begun}
use Rattle.crash_disk.specs.Memory.{state_of}
use Rattle.crash_disk.specs.Soundness.{sound-begun, left_by_a_crash}
use Rattle.crash_disk.specs.InMemory.{sound-state}
use Rattle.crash_disk.proofs.laws.a_stop_leaves_what_a_crash_may_leave.Goals as goal

pub returns : goal.returns
returns c m change pick = left_by_a_crash pick (begun change (state_of m)) (sound-begun change (state_of m) (sound-state m))

use Rattle.std.proofs.Common.{◌≡◌, ℕ, ◌<◌, length, take, get_or, if◌then◌else◌}
use Rattle.crash_disk.specs.Ranges.{is_in}
use Rattle.crash_disk.proofs.range.mark_ranges.Given as goal

abbrev pub invariant-loop-range : goal.invariant-loop-range
invariant-loop-range l = (i : ℕ) → i < length l.initial.to → get_or l.to i 0 ≡ (if is_in i (take l.range-index l.ranges) then 1 else get_or l.initial.to i 0)

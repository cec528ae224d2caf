use Rattle.std.proofs.Common.{◌≡◌, ℕ, take, get_or}
use Rattle.crash_disk.specs.Ranges.{IsOutside}
use Rattle.crash_disk.proofs.range.copy_ranges.Given as goal

abbrev pub invariant-loop-range : goal.invariant-loop-range
invariant-loop-range l = (i : ℕ) → (IsOutside i (take l.range-index l.ranges) → get_or l.initial.to i 0 ≡ get_or l.from i 0) → get_or l.to i 0 ≡ get_or l.from i 0

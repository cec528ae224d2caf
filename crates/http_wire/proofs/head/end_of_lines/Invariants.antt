use Rattle.std.proofs.Common.{◌≡◌, ℕ, ◌<◌, false}
use Rattle.http_wire.proofs.Ending.{ends_at}
use Rattle.http_wire.proofs.head.end_of_lines.Given as goal

-- no empty line stands in front of the index
abbrev pub invariant-loop-i : goal.invariant-loop-i
invariant-loop-i l = (k : ℕ) → k < l.i → ends_at l.bytes k ≡ false

use Rattle.std.proofs.Common.{◌≡◌, ℕ, ◌<◌, get_or}
use Rattle.text_lines.proofs.line.first_line.Given as goal

-- no line feed stands in front of the index
abbrev pub invariant-loop-i : goal.invariant-loop-i
invariant-loop-i l = (k : ℕ) → k < l.i → get_or l.rest k 0 ≡ 10 → ⊥

use Rattle.std.proofs.Common.{◌≡◌, ℕ, ◌<◌, get_or}
use Rattle.post_agent.proofs.cut.cut.Given as goal

-- the byte does not stand in front of the index
abbrev pub invariant-loop-i : goal.invariant-loop-i
invariant-loop-i l = (k : ℕ) → k < l.i → get_or l.bytes k 0 ≡ l.stop → ⊥

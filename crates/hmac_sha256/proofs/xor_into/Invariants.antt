use Rattle.std.proofs.Common.{◌≡◌, ℕ, ◌<◌, ◌≤◌, length, get_or, bit_xor}
use Rattle.hmac_sha256.proofs.xor_into.Given as goal

-- the bytes below i are combined, and the others are as they were
abbrev pub invariant-loop-i : goal.invariant-loop-i
invariant-loop-i l =
    (length l.sum ≡ 32)
    × ((k : ℕ) → k < l.i → get_or l.sum k 0 ≡ bit_xor (get_or l.fn.sum k 0) (get_or l.other k 0))
    × ((k : ℕ) → l.i ≤ k → get_or l.sum k 0 ≡ get_or l.fn.sum k 0)

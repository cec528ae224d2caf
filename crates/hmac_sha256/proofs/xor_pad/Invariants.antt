use Rattle.std.proofs.Common.{◌≡◌, ℕ, ◌<◌, ◌≤◌, length, get_or, bit_xor}
use Rattle.hmac_sha256.proofs.xor_pad.Given as goal

-- the bytes before the index are combined, and the others are as they were
abbrev pub invariant-loop-byte : goal.invariant-loop-byte
invariant-loop-byte l =
    (length l.byte-items ≡ 64)
    × ((k : ℕ) → k < l.byte-index → get_or l.byte-items k 0 ≡ bit_xor (get_or l.block k 0) l.pad)
    × ((k : ℕ) → l.byte-index ≤ k → get_or l.byte-items k 0 ≡ get_or l.block k 0)

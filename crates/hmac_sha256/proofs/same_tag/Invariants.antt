use Rattle.std.proofs.Common.{◌≡◌, ℕ, ◌<◌, get_or}
use Rattle.hmac_sha256.proofs.same_tag.Given as goal

-- the difference is zero exactly where the bytes before i are the same
abbrev pub invariant-loop-i : goal.invariant-loop-i
invariant-loop-i l =
    (l.difference ≡ 0 → (k : ℕ) → k < l.i → get_or l.a k 0 ≡ get_or l.b k 0)
    × (((k : ℕ) → k < l.i → get_or l.a k 0 ≡ get_or l.b k 0) → l.difference ≡ 0)

-- The next round of PBKDF2.
use Rattle.std.proofs.Common.{◌≡◌, ℕ, zero, suc, ◌+◌, ◌≤◌, List, refl, add-one, arith}
use Rattle.hmac_sha256.specs.Hmac.{hmac}
use Rattle.hmac_sha256.specs.Pbkdf2.{nth_hmac, xor_bytes, pbkdf2}

pub nth_hmac-next : (p s : List ℕ) (j : ℕ) → nth_hmac p s (j + 1) ≡ hmac p (nth_hmac p s j)
unfolding nth_hmac
nth_hmac-next p s j = rw add-one refl

pub pbkdf2-next : (p s : List ℕ) (j : ℕ) → 1 ≤ j
    → pbkdf2 p s (j + 1) ≡ xor_bytes (pbkdf2 p s j) (nth_hmac p s (j + 1))
unfolding pbkdf2
pbkdf2-next p s zero positive = absurd (omega arith)
pbkdf2-next p s (suc j) positive = rw add-one refl

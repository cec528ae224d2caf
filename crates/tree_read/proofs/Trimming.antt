-- Where a text may be cut when white space is taken off its ends.
use Rattle.std.proofs.Common.{◌≡◌, ℕ, ◌+◌, ◌-◌, ◌<◌, ◌≤◌, List, length, get_or, reverse, ap, arith}
use Rattle.std.specs.Str.{IsUtf8, IsCharBoundary}
use Rattle.std.proofs.lemmas.Str.{IsCharBoundary-after_ascii}
use Rattle.tree_read.specs.Texts.{behind_white}

-- without the white space at the end
abbrev pub before_white : List ℕ → List ℕ
before_white bytes = reverse (behind_white (reverse bytes))

-- behind a byte of ASCII
pub cut_behind : (text bytes : List ℕ) (i : ℕ) → bytes ≡ text → IsUtf8 text → i ≤ length bytes → (0 < i → get_or bytes (i - 1) 0 < 128) → 0 < i →
    IsCharBoundary text i
cut_behind text bytes i same utf8 within ascii some =
    let back : i - 1 + 1 ≡ i = omega arith in
    let low : get_or text (i - 1) 0 < 128 = rw (← same) (ascii some) in
    rw back at (IsCharBoundary-after_ascii text (i - 1) utf8 (omega (arith, ap length same)) low)

-- in front of one, or at the end
pub cut_before : (text bytes : List ℕ) (i : ℕ) → bytes ≡ text → i ≤ length bytes → (i < length bytes → get_or bytes i 0 < 128) → IsCharBoundary text i
cut_before text bytes i same within ascii =
    rw (← same) (within, λ inside high. absurd (omega (arith, ascii inside)))

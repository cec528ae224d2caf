-- What stands in front of a byte.
use Rattle.std.proofs.Common.{◌≡◌, ℕ, ◌<◌, ◌≤◌, true, false, ◌==◌, List, length, take, get_or, sym, ap, ◌∙◌, arith}
use Rattle.std.specs.List.{before_first}
use Rattle.std.proofs.lemmas.Bool.Decides.{nat_tests}
use Rattle.std.proofs.lemmas.List.{take_all}
use Rattle.std.proofs.lemmas.List.Sums.{position_or_len_is}

other_byte : (b c : ℕ) → (b ≡ c → ⊥) → (b == c) ≡ false
other_byte b c h = grind (arith, nat_tests)

same_byte : (b c : ℕ) → b ≡ c → (b == c) ≡ true
same_byte b c h = grind (arith, nat_tests)

pub first_place : (bytes : List ℕ) (stop i : ℕ) → i ≤ length bytes → ((k : ℕ) → k < i → get_or bytes k 0 ≡ stop → ⊥) → (i < length bytes → get_or bytes i 0 ≡ stop) →
    take i bytes ≡ before_first (λ b. b == stop) bytes
first_place bytes stop i within none here =
    ap (λ n. take n bytes)
    (sym (position_or_len_is (λ b. b == stop) bytes i 0 within (λ k h. other_byte (get_or bytes k 0) stop (none k h)) (λ h. same_byte (get_or bytes i 0) stop (here h))))

pub no_place : (bytes : List ℕ) (stop i : ℕ) → i ≡ length bytes → ((k : ℕ) → k < i → get_or bytes k 0 ≡ stop → ⊥) → bytes ≡ before_first (λ b. b == stop) bytes
no_place bytes stop i end none =
    sym (take_all i bytes (omega arith)) ∙ first_place bytes stop i (omega arith) none (λ h. absurd (omega arith))

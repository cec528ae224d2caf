-- Three digits of a status.
use Rattle.std.proofs.Common.{◌≡◌, ℕ, ◌+◌, ◌-◌, ◌*◌, ◌/◌, ◌%◌, ◌<◌, ◌≤◌, Bool, true, false, cond, ◌&&◌, List, [], ◌∷◌, take, drop, None, Some, refl, sym, ap, ◌∙◌, arith, nat_lt, subst}
use Rattle.std.specs.Char.{is_ascii_digit}
use Rattle.std.specs.Option.{option_map}
use Rattle.std.proofs.lemmas.Bool.Decides.{nat_tests}
use Rattle.xml_spec.proofs.Tests.{both_true, and_true}
use Rattle.http.specs.StatusCode.{IsStatusCode, IsCodeText, code_digits}
use Rattle.post_agent.specs.Reading.{status_by, status_in}
use Rattle.post_agent.proofs.Options.{passed}

is_digit : (d : ℕ) → 48 ≤ d → d ≤ 57 → is_ascii_digit d ≡ true
is_digit d low high = grind (arith, nat_tests)

digit_low : (d : ℕ) → is_ascii_digit d ≡ true → 48 ≤ d
digit_low d is = grind (arith, nat_tests)

digit_high : (d : ℕ) → is_ascii_digit d ≡ true → d ≤ 57
digit_high d is = grind (arith, nat_tests)

lt_true : (a b : ℕ) → a < b → nat_lt a b ≡ true
lt_true a b h = grind (arith, nat_tests)

true_lt : (a b : ℕ) → nat_lt a b ≡ true → a < b
true_lt a b h = grind (arith, nat_tests)

-- the digits of a status give it
pub status_by-code_digits : (n : ℕ) → IsStatusCode n → status_by (code_digits n) ≡ Some n
status_by-code_digits n is =
    let low : 100 ≤ n = is.0 in
    let high : n < 1000 = is.1 in
    let a : is_ascii_digit (48 + n / 100) ≡ true = is_digit (48 + n / 100) (omega arith) (omega arith) in
    let b : is_ascii_digit (48 + n / 10 % 10) ≡ true = is_digit (48 + n / 10 % 10) (omega arith) (omega arith) in
    let d : is_ascii_digit (48 + n % 10) ≡ true = is_digit (48 + n % 10) (omega arith) (omega arith) in
    let first : nat_lt 48 (48 + n / 100) ≡ true = lt_true 48 (48 + n / 100) (omega arith) in
    let all = and_true _ _ (and_true _ _ (and_true _ _ a b) d) first in
    ap (λ t. cond t (Some ((48 + n / 100 - 48) * 100 + (48 + n / 10 % 10 - 48) * 10 + (48 + n % 10 - 48))) None) all
    ∙ ap Some (let e : (48 + n / 100 - 48) * 100 + (48 + n / 10 % 10 - 48) * 10 + (48 + n % 10 - 48)
    ≡ n = omega arith in e)

-- what three such digits write
abbrev digits_are_code : (a b c : ℕ) → 48 < a → a ≤ 57 → 48 ≤ b → b ≤ 57 → 48 ≤ c → c ≤ 57 → IsCodeText (a ∷ b ∷ c ∷ [])
digits_are_code a b c a_low a_high b_low b_high c_low c_high =
    let n = (a - 48) * 100 + (b - 48) * 10 + (c - 48) in
    let hundreds : a ≡ 48 + n / 100 = omega arith in
    let tens : b ≡ 48 + n / 10 % 10 = omega arith in
    let ones : c ≡ 48 + n % 10 = omega arith in
    (n, (omega arith, omega arith), (λ i. hundreds i ∷ tens i ∷ ones i ∷ []))

-- other bytes give none
pub no_status : (digits : List ℕ) → ¬ (IsCodeText digits) → status_by digits ≡ None
no_status [] other = refl
no_status (a ∷ []) other = refl
no_status (a ∷ b ∷ []) other = refl
no_status (a ∷ b ∷ c ∷ d ∷ rest) other = refl
no_status (a ∷ b ∷ c ∷ []) other =
    by_test (is_ascii_digit a && is_ascii_digit b && is_ascii_digit c && nat_lt 48 a) refl
  where
    by_test : (t : Bool) → (is_ascii_digit a && is_ascii_digit b && is_ascii_digit c && nat_lt 48 a) ≡ t →
        cond t (Some ((a - 48) * 100 + (b - 48) * 10 + (c - 48))) None ≡ None
    by_test false h = refl
    by_test true h =
        let one = both_true (is_ascii_digit a && is_ascii_digit b && is_ascii_digit c) (nat_lt 48 a) h in
        let two = both_true (is_ascii_digit a && is_ascii_digit b) (is_ascii_digit c) one.0 in
        let three = both_true (is_ascii_digit a) (is_ascii_digit b) two.0 in
        absurd (other (digits_are_code a b c (true_lt 48 a one.1) (digit_high a three.0) (digit_low b three.1)
        (digit_high b three.1) (digit_low c two.1) (digit_high c two.1)))

pub no_status_in : (bytes : List ℕ) → ¬ (IsCodeText (take 3 bytes)) → None ≡ status_in bytes
no_status_in bytes other = ap (option_map (λ status. (status, drop 3 bytes))) (sym (no_status (take 3 bytes) other))

-- what three digits give is the status that they write
pub status_by-some : (digits : List ℕ) (n : ℕ) → status_by digits ≡ Some n → IsStatusCode n × (digits ≡ code_digits n)
status_by-some [] n e = absurd (cc)
status_by-some (a ∷ []) n e = absurd (cc)
status_by-some (a ∷ b ∷ []) n e = absurd (cc)
status_by-some (a ∷ b ∷ c ∷ d ∷ rest) n e = absurd (cc)
status_by-some (a ∷ b ∷ c ∷ []) n e =
    let value = passed (is_ascii_digit a && is_ascii_digit b && is_ascii_digit c && nat_lt 48 a)
    ((a - 48) * 100 + (b - 48) * 10 + (c - 48)) n e in
    let one = both_true (is_ascii_digit a && is_ascii_digit b && is_ascii_digit c) (nat_lt 48 a) value.test in
    let two = both_true (is_ascii_digit a && is_ascii_digit b) (is_ascii_digit c) one.0 in
    let three = both_true (is_ascii_digit a) (is_ascii_digit b) two.0 in
    let code = digits_are_code a b c (true_lt 48 a one.1) (digit_high a three.0) (digit_low b three.1)
    (digit_high b three.1) (digit_low c two.1) (digit_high c two.1) in
    let same : code.0 ≡ n = value.same in
    (subst IsStatusCode same code.1, code.2 ∙ ap code_digits same)

-- Numbers that digits write.
use Rattle.std.proofs.Common.{◌≡◌, ℕ, zero, suc, ◌+◌, ◌-◌, ◌*◌, ◌^◌, ◌<◌, ◌≤◌, true, ◌&&◌, not, nat_le, List, [], ◌∷◌, ◌++◌, length, take, get_or, refl, sym, ap, ◌∙◌, arith}
use Rattle.std.specs.Char.{digit_value, is_ascii_digit}
use Rattle.std.specs.List.{list_all}
use Rattle.std.specs.Str.Parse.{digits_value, digits_value_after}
use Rattle.std.proofs.lemmas.Bool.Decides.{nat_tests}
use Rattle.std.proofs.lemmas.List.{take_more}
use native.Mathlib.Nat.{pow-suc}
use Rattle.xml_spec.specs.Bytes.{is_empty}
use Rattle.xml_spec.proofs.Tests.{both_true}
use Rattle.http_wire.specs.Lines.{is_length}

-- one digit more
digit_more : (n : ℕ) (digits : List ℕ) (c : ℕ) → digits_value_after 10 n (digits ++ c ∷ []) ≡ digits_value_after 10 n digits * 10 + digit_value c
digit_more n [] c = refl
digit_more n (d ∷ digits) c = digit_more (n * 10 + digit_value d) digits c

-- what a digit is
pub record IsDigit (b : ℕ) : Type 0 where
  pub low : 48 ≤ b
  pub high : b ≤ 57
  pub value : digit_value b ≡ b - 48

digit : (b : ℕ) → is_ascii_digit b ≡ true → IsDigit b
digit b h =
    let low : 48 ≤ b = grind (arith, nat_tests) in
    let high : b ≤ 57 = grind (arith, nat_tests) in
    record { low = low; high = high; value = grind (arith, nat_tests) }

each_digit : (digits : List ℕ) (i : ℕ) → i < length digits → list_all is_ascii_digit digits ≡ true → IsDigit (get_or digits i 0)
each_digit [] i within all = absurd (omega arith)
each_digit (b ∷ digits) zero within all = digit b (both_true (is_ascii_digit b) (list_all is_ascii_digit digits) all).0
each_digit (b ∷ digits) (suc i) within all = each_digit digits i (omega arith) (both_true (is_ascii_digit b) (list_all is_ascii_digit digits) all).1

-- what a length is
pub record IsLength (value : List ℕ) : Type 0 where
  pub short : length value ≤ 10
  pub digits : list_all is_ascii_digit value ≡ true

pub length_digits : (value : List ℕ) → is_length value ≡ true → IsLength value
length_digits value h =
    let parts = both_true (not (is_empty value) && nat_le (length value) 10) (list_all is_ascii_digit value) h in
    let short = (both_true (not (is_empty value)) (nat_le (length value) 10) parts.0).1 in
    record { short = grind (arith, nat_tests, short); digits = parts.1 }

power_more : (i : ℕ) → 10 ^ (i + 1) ≡ 10 ^ i * 10
power_more i = ap (λ n. 10 ^ n) (let e : i + 1 ≡ suc i = omega arith in e) ∙ pow-suc 10 i

-- one digit more makes the number, which has no more digits than were read
pub number_more : (digits : List ℕ) (i n d : ℕ) → i < length digits → is_length digits ≡ true → n ≡ digits_value 10 (take i digits) → n < 10 ^ i →
    d ≡ get_or digits i 0 - 48 → (n * 10 + d ≡ digits_value 10 (take (i + 1) digits)) × (n * 10 + d < 10 ^ (i + 1))
number_more digits i n d within valid value bound is_digit =
    let b = get_or digits i 0 in
    let this = each_digit digits i within (length_digits digits valid).digits in
    let more : digits_value 10 (take (i + 1) digits) ≡ digits_value 10 (take i digits) * 10 + digit_value b =
    ap (digits_value 10) (take_more digits i 0 within) ∙ digit_more 0 (take i digits) b in
    let made : n * 10 + d ≡ digits_value 10 (take i digits) * 10 + digit_value b = λ k. value k * 10 + (is_digit ∙ sym this.value) k in
    (made ∙ sym more, omega (arith, power_more i, this.high, this.low, is_digit))

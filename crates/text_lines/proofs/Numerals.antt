-- Numbers that are read.
use Rattle.std.proofs.Common.{◌≡◌, ℕ, ◌<◌, ◌≤◌, ◌^◌, Bool, true, false, cond, ◌&&◌, not, List, [], ◌∷◌, length, Some, None, Result, Err, nat_le, refl, sym, ap, ◌∙◌, arith}
use Rattle.std.specs.Char.{is_ascii_digit}
use Rattle.std.specs.List.{list_all}
use Rattle.std.specs.Str.{all_ascii_digits}
use Rattle.std.specs.Str.Parse.{digits_value, ParsesUnsigned}
use Rattle.std.proofs.lemmas.Bool.Decides.{nat_tests}
use Rattle.std.proofs.lemmas.Str.Parse.{IsNumeralModel, numerals_by_value, tells_all_ascii_digits, parse_digits}
use Rattle.xml_spec.specs.Bytes.{is_empty}
use Rattle.xml_spec.proofs.Tests.{both_true}
use Rattle.text_lines.specs.Numbers.{is_decimal, has_leading_zero, number_of}

abbrev own : IsNumeralModel (λ ds. all_ascii_digits ds ≡ true) (digits_value 10)
own = numerals_by_value (λ ds. all_ascii_digits ds ≡ true) tells_all_ascii_digits

same_digits : (word : List ℕ) → all_ascii_digits word ≡ list_all is_ascii_digit word
same_digits [] = refl
same_digits (c ∷ word) = ap (λ b. is_ascii_digit c && b) (same_digits word)

some_digit : (word : List ℕ) → not (is_empty word) ≡ true → 0 < length word
some_digit [] h = absurd (let clash : false ≡ true = h in cc)
some_digit (c ∷ word) h = omega arith

too_great : (word : List ℕ) (most : ℕ) → most < digits_value 10 word → number_of most word ≡ None
too_great word most great =
    let above : nat_le (digits_value 10 word) most ≡ false = grind (arith, nat_tests) in
    by_tests (is_decimal word) (nat_le (digits_value 10 word) most) above
  where
    by_tests : (d m : Bool) → m ≡ false → cond (d && m) (Some (digits_value 10 word)) None ≡ None
    by_tests d true h = absurd (cc)
    by_tests true false h = refl
    by_tests false false h = refl

-- a word that is decimal and can't be parsed spells a number that is too great
pub unparsed_number : {E : Type 0} (word : List ℕ) (most : ℕ) (r : Result ℕ E) (e : E) → is_decimal word ≡ true → most < 2 ^ 64 →
    ParsesUnsigned 64 10 word r → r ≡ Err e → None ≡ number_of most word
unparsed_number word most r e decimal fits parsed failed =
    let some = both_true (not (is_empty word)) (list_all is_ascii_digit word) (both_true _ (not (has_leading_zero word)) decimal).0 in
    let said = rw failed at (parse_digits own 64 word r parsed (same_digits word ∙ some.1)) in
    let great : 2 ^ 64 ≤ digits_value 10 word = by_range (digits_value 10 word) (λ small. said (some_digit word some.0, small)) in
    sym (too_great word most (omega (arith, great, fits)))
  where
    by_range : (n : ℕ) → ¬ (n < 2 ^ 64) → 2 ^ 64 ≤ n
    by_range n h = omega (arith, h)

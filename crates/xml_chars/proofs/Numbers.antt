-- Which digits bytes begin with is determined, and so is the number that they write.
use Rattle.std.proofs.Common.{◌≡◌, ℕ, suc, zero, ◌+◌, ◌*◌, ◌<◌, ◌≤◌, ◌⊎◌, inl, inr, min, Bool, true, false, List, [], ◌∷◌, ◌++◌, length, take, drop, get_or, refl, sym, ◌∙◌, ap, subst, arith, add-one, length-take, length-drop, drop-cons}
use Rattle.std.specs.List.{list_all}
use Rattle.std.specs.Char.{digit_value, is_digit, OutOfScalarRange}
use Rattle.std.specs.Str.Parse.{AllDigits, digits_value}
use Rattle.std.proofs.lemmas.Bool.Decides.{nat_tests}
use Rattle.std.proofs.lemmas.List.{take-append-drop}
use Rattle.std.proofs.Math.Nat.{mul-le-mul_left}
use Rattle.xml_spec.specs.Bytes.{AllPass, begins_with}
use Rattle.xml_spec.specs.Ascii.{semicolon}
use Rattle.xml_spec.specs.Characters.{InRanges, char_ranges}
use Rattle.xml_spec.proofs.Tests.{and_true, both_true}
use Rattle.xml_spec.proofs.Classes.{in_ranges-true, true-in_ranges}
use Rattle.xml_spec.proofs.Runs.{same_run}
use Rattle.xml_chars.specs.Reading.{BeginsWithNumber}

pub digits_pass : (P : ℕ → Bool) (radix : ℕ) → ((d : ℕ) → digit_value d < radix → P d ≡ true) → (ds : List ℕ) → AllDigits radix ds → AllPass P ds
digits_pass P radix each [] h = refl
digits_pass P radix each (d ∷ ds) h = and_true (P d) (list_all P ds) (each d h.0) (digits_pass P radix each ds h.1)

pub passed_digits : (P : ℕ → Bool) (radix : ℕ) → ((d : ℕ) → P d ≡ true → digit_value d < radix) → (ds : List ℕ) → AllPass P ds → AllDigits radix ds
passed_digits P radix each [] h = tt
passed_digits P radix each (d ∷ ds) h =
    let both = both_true (P d) (list_all P ds) h in
    (each d both.0, passed_digits P radix each ds both.1)

-- one more digit, where numbers above a bound count as the bound
pub bounded_step : (bound v r d : ℕ) → 1 ≤ r → min (min bound v * r + d) bound ≡ min bound (v * r + d)
bounded_step bound v r d h = grind (arith, mul-le-mul_left)

abbrev in_base : ℕ → ℕ → Bool
in_base radix b = is_digit b radix

stops : (P : ℕ → Bool) (bytes : List ℕ) (n : ℕ) → (n < length bytes → P (get_or bytes n 0) ≡ false) → begins_with P (drop n bytes) ≡ false
stops P [] zero h = refl
stops P [] (suc n) h = refl
stops P (b ∷ bytes) zero h = h (omega arith)
stops P (b ∷ bytes) (suc n) h = stops P bytes n (λ k. h (omega arith))

-- the first n bytes are digits, and the one behind them is none
pub record Leads (radix n : ℕ) (bytes : List ℕ) : Type 0 where
  pub base : radix ≤ 36
  pub within : n ≤ length bytes
  pub digits : AllDigits radix (take n bytes)
  pub all_of_them : n < length bytes → radix ≤ digit_value (get_or bytes n 0)

same_number : {radix n : ℕ} {bytes : List ℕ} (character : ℕ) (rest : List ℕ) → Leads radix n bytes → (b : BeginsWithNumber radix bytes character rest) →
    (b.digits ≡ take n bytes) × (semicolon ∷ rest ≡ drop n bytes)
same_number {radix} {n} {bytes} character rest l b =
    same_run (in_base radix) b.digits (take n bytes) (semicolon ∷ rest) (drop n bytes)
    (digits_pass (in_base radix) radix (λ d h. grind (arith, nat_tests)) b.digits b.numeral.1)
    (digits_pass (in_base radix) radix (λ d h. grind (arith, nat_tests)) (take n bytes) l.digits)
    (let base : radix ≤ 36 = l.base in grind (arith, nat_tests))
    (stops (in_base radix) bytes n (λ k. let above : radix ≤ digit_value (get_or bytes n 0) = l.all_of_them k in grind (arith, nat_tests)))
    (sym b.printed ∙ sym (take-append-drop n bytes))

-- no digit stands there, or no semicolon behind the digits
abbrev IsCut : ℕ → List ℕ → Type 0
IsCut n bytes = (n ≡ 0) ⊎ ((n ≡ length bytes) ⊎ ((n < length bytes) × (get_or bytes n 0 ≡ semicolon → ⊥)))

pub cut_fails : {radix n : ℕ} {bytes : List ℕ} → Leads radix n bytes → IsCut n bytes → (character : ℕ) (rest : List ℕ) → BeginsWithNumber radix bytes character rest → ⊥
cut_fails {radix} {n} {bytes} l cut character rest b =
    let same = same_number character rest l b in
    elim cut [
      | inl none ↦ (let some : 0 < length b.digits = b.numeral.0 in
          let short : length b.digits ≡ length (take n bytes) = ap length same.0 in
          omega (arith, length-take n bytes))
      | inr (inl end) ↦ (let long : length (semicolon ∷ rest) ≡ length (drop n bytes) = ap length same.1 in
          omega (arith, length-drop n bytes))
      | inr (inr other) ↦ (let within : n < length bytes = other.0 in
          let behind : semicolon ∷ rest ≡ get_or bytes n 0 ∷ drop (suc n) bytes = same.1 ∙ drop-cons bytes n 0 within in
          other.1 (cc))
    ]

pub char_bounds : (c : ℕ) → InRanges char_ranges c → (c < 0xD800) ⊎ ((0xE000 ≤ c) × (c ≤ 0x10FFFF))
char_bounds c h = grind arith

-- the number that was read, bounded as it is, is that of the character
value_is : {radix n : ℕ} {bytes : List ℕ} (value : ℕ) → Leads radix n bytes → value ≡ min 0x110000 (digits_value radix (take n bytes)) →
    (character : ℕ) (rest : List ℕ) → BeginsWithNumber radix bytes character rest → InRanges char_ranges value
value_is {radix} {n} {bytes} value l v character rest b =
    let same = same_number character rest l b in
    let ranges = in_ranges-true char_ranges character b.allowed in
    let bounds = char_bounds character ranges in
    let number : digits_value radix (take n bytes) ≡ character = ap (digits_value radix) (sym same.0) ∙ b.meant in
    let whole : character ≡ value = grind arith in
    subst (InRanges char_ranges) whole ranges

pub surrogate_fails : {radix n : ℕ} {bytes : List ℕ} (value : ℕ) → Leads radix n bytes → value ≡ min 0x110000 (digits_value radix (take n bytes)) →
    OutOfScalarRange value → (character : ℕ) (rest : List ℕ) → BeginsWithNumber radix bytes character rest → ⊥
surrogate_fails {radix} {n} {bytes} value l v out character rest b =
    let bounds = char_bounds value (value_is value l v character rest b) in
    grind arith

pub other_char_fails : {radix n : ℕ} {bytes : List ℕ} (value : ℕ) → Leads radix n bytes → value ≡ min 0x110000 (digits_value radix (take n bytes)) →
    (InRanges char_ranges value → ⊥) → (character : ℕ) (rest : List ℕ) → BeginsWithNumber radix bytes character rest → ⊥
other_char_fails value l v out character rest b = out (value_is value l v character rest b)

pub number_read : {radix n : ℕ} {bytes : List ℕ} (value : ℕ) → Leads radix n bytes → value ≡ min 0x110000 (digits_value radix (take n bytes)) →
    0 < n → n < length bytes → get_or bytes n 0 ≡ semicolon → InRanges char_ranges value →
    (n + 1 ≤ length bytes) × BeginsWithNumber radix bytes value (drop (n + 1) bytes)
number_read {radix} {n} {bytes} value l v some within closed allowed = (
  omega arith,
  record {
    digits = take n bytes;
    numeral = (omega (arith, length-take n bytes), l.digits);
    meant = (let bounds = char_bounds value allowed in grind arith);
    allowed = true-in_ranges char_ranges value allowed;
    printed = sym (take-append-drop n bytes) ∙ ap (λ rest. take n bytes ++ rest) (drop-cons bytes n 0 within ∙ (rw closed (rw add-one refl)));
  },
)

-- Bytes below 256, and their digits.
use Rattle.std.proofs.Common.{◌≡◌, ◌/◌, ◌%◌, ◌<◌, ◌^◌, ℕ, suc, zero, inl, inr, lit<, List, [], ◌∷◌, length, true, false, ◌≤◌, ◌⊎◌, ◌==◌, refl, ap, arith, slice_index}
use Rattle.std.proofs.Math.Nat.{mod-lt}
use Rattle.std.proofs.lemmas.Bool.Decides.{nat_tests}
use Rattle.std.proofs.lemmas.List.Elements.{All-nil, All-cons, All-head, All-tail, All-get_or}
use Rattle.std.proofs.lemmas.List.Sums.{AllPass-from_list_all}
use Rattle.std.proofs.lemmas.List.{get_or_past}
use Rattle.std.proofs.lemmas.Bool.{cases_lt}
use Rattle.std.specs.Int.{w32, w64, to_le_bytes, to_be_bytes, byte_at, bytes_low_first, bytes_high_first}
use Rattle.std.specs.List.{All, AllPass}
use Rattle.hex.specs.Hex.{encode_lower, encode_with, lower_digits, IsBytes, decode_of}
use Rattle.hex.proofs.HexLemmas.{decode_of-encode_lower}
use Rattle.xml_spec.specs.Ascii.{colon}
use Rattle.xml_spec.specs.Characters.{is_char, is_name_char, char_ranges, name_ranges}
use Rattle.xml_spec.proofs.Classes.{true-in_ranges}
use Rattle.saml_ids.specs.Names.{is_lower_hex}

abbrev IsByte : ℕ → Type 0
IsByte b = b < 256

abbrev pub AllBytes : List ℕ → Type 0
AllBytes bytes = All IsByte bytes

byte_at-below : (i n : ℕ) → byte_at i n < 256
byte_at-below zero n = mod-lt n (lit< tt)
byte_at-below (suc i) n = mod-lt (n / 256 ^ suc i) (lit< tt)

AllBytes-low_first : (i k n : ℕ) → AllBytes (bytes_low_first i k n)
AllBytes-low_first i zero n = All-nil IsByte
AllBytes-low_first i (suc k) n =
    All-cons IsByte (byte_at i n) (bytes_low_first (suc i) k n) (byte_at-below i n) (AllBytes-low_first (suc i) k n)

AllBytes-high_first : (k n : ℕ) → AllBytes (bytes_high_first k n)
AllBytes-high_first zero n = All-nil IsByte
AllBytes-high_first (suc k) n =
    All-cons IsByte (byte_at k n) (bytes_high_first k n) (byte_at-below k n) (AllBytes-high_first k n)

-- what a number is written as is bytes
pub AllBytes-to_le_bytes : (n : ℕ) → AllBytes (to_le_bytes w32 n)
AllBytes-to_le_bytes n = AllBytes-low_first 0 4 n

pub AllBytes-to_be_bytes : (n : ℕ) → AllBytes (to_be_bytes w64 n)
AllBytes-to_be_bytes n = AllBytes-high_first 8 n

IsBytes-from_all : (bytes : List ℕ) → AllBytes bytes → IsBytes bytes
IsBytes-from_all bytes all i = elim (cases_lt i (length bytes)) [
  | inl within ↦ All-get_or IsByte bytes i 0 within all
  | inr past ↦ let e : slice_index bytes i ≡ 0 = get_or_past bytes i 0 past in omega (arith, e)
]

abbrev IsHexDigit : ℕ → Type 0
IsHexDigit c = is_lower_hex c ≡ true

-- each digit of the table is one
table_digit : (d : ℕ) → d < 16 → IsHexDigit (slice_index lower_digits d)
table_digit d below = All-get_or IsHexDigit lower_digits d 0 below (AllPass-from_list_all is_lower_hex lower_digits refl)

-- bytes are written in lower hex digits
pub AllPass-encode_lower : (bytes : List ℕ) → AllBytes bytes → AllPass is_lower_hex (encode_lower bytes)
unfolding encode_with
AllPass-encode_lower [] all = All-nil IsHexDigit
AllPass-encode_lower (b ∷ bytes) all =
    let byte : b < 256 = All-head IsByte b bytes all in
    let high = slice_index lower_digits (b / 16) in
    let low = slice_index lower_digits (b % 16) in
    All-cons IsHexDigit high (low ∷ encode_lower bytes) (table_digit (b / 16) (omega arith))
    (All-cons IsHexDigit low (encode_lower bytes) (table_digit (b % 16) (omega arith)) (AllPass-encode_lower bytes (All-tail IsByte b bytes all)))

-- the digits tell the bytes
pub encode_lower-injective : (xs ys : List ℕ) → AllBytes xs → AllBytes ys → encode_lower xs ≡ encode_lower ys → xs ≡ ys
encode_lower-injective xs ys all_xs all_ys same =
    let read_xs = decode_of-encode_lower xs (IsBytes-from_all xs all_xs) in
    let read_ys = decode_of-encode_lower ys (IsBytes-from_all ys all_ys) in
    let both : decode_of (encode_lower xs) ≡ decode_of (encode_lower ys) = ap decode_of same in
    cc

-- a lower hex digit is ASCII, and may stand in a name and in a text
pub lower_hex_ascii : (c : ℕ) → is_lower_hex c ≡ true → c < 128
lower_hex_ascii c digit = grind (arith, nat_tests)

digit_or_letter : (c : ℕ) → is_lower_hex c ≡ true → ((48 ≤ c) × (c ≤ 57)) ⊎ ((97 ≤ c) × (c ≤ 122))
digit_or_letter c digit = grind (arith, nat_tests)

pub lower_hex_in_name : (c : ℕ) → is_lower_hex c ≡ true → is_name_char c ≡ true
lower_hex_in_name c digit = elim (digit_or_letter c digit) [
  | inl is ↦ true-in_ranges name_ranges c (inr (inr (inl is)))
  | inr is ↦ true-in_ranges name_ranges c (inr (inr (inr (inr (inr (inr (inr (inr (inr (inl is))))))))))
]

pub lower_hex_in_text : (c : ℕ) → is_lower_hex c ≡ true → is_char c ≡ true
lower_hex_in_text c digit = elim (digit_or_letter c digit) [
  | inl is ↦ true-in_ranges char_ranges c (inr (inr (inr (inl (omega arith, omega arith)))))
  | inr is ↦ true-in_ranges char_ranges c (inr (inr (inr (inl (omega arith, omega arith)))))
]

pub lower_hex_no_colon : (c : ℕ) → is_lower_hex c ≡ true → (c == colon) ≡ false
lower_hex_no_colon c digit = grind (arith, nat_tests)

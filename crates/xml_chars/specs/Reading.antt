-- What a reader of references finds at the beginning of bytes: XML 1.0 (fifth edition), 4.1 and 4.6.
use Rattle.std.specs.Prelude.{◌≡◌, ℕ, ◌≤◌, List, ◌∷◌, ◌++◌, Option, MatchOption, length, drop, IsTrue, ⊤}
use Rattle.std.specs.Str.Parse.{IsNumeral, digits_value}
use Rattle.xml_spec.specs.Ascii.{semicolon}
use Rattle.xml_spec.specs.Characters.{is_char}
use Rattle.xml_spec.specs.Syntax.{Reference, Decimal, Hexadecimal, print_reference, character_of, IsReference}

-- The bytes begin with a valid reference to the character, and the rest stands behind it.
pub record BeginsWithReference (bytes : List ℕ) (character : ℕ) (rest : List ℕ) : Type 0 where
  pub reference : Reference
  pub valid : IsReference reference
  pub meant : character_of reference ≡ character
  pub printed : bytes ≡ print_reference reference ++ rest

-- No valid reference stands at the beginning of the bytes.
abbrev pub BeginsWithNone : List ℕ → Type 0
BeginsWithNone bytes = (r : Reference) (rest : List ℕ) → IsReference r → bytes ≡ print_reference r ++ rest → ⊥

-- the kinds of references: any, the five entities of 4.6, and character references in base 10 and 16
abbrev pub IsAnyKind : Reference → Type 0
IsAnyKind r = ⊤

abbrev pub IsEntity : Reference → Type 0
IsEntity (Decimal digits) = ⊥
IsEntity (Hexadecimal digits) = ⊥
IsEntity _ = ⊤

abbrev pub IsDecimal : Reference → Type 0
IsDecimal (Decimal digits) = ⊤
IsDecimal _ = ⊥

abbrev pub IsHexadecimal : Reference → Type 0
IsHexadecimal (Hexadecimal digits) = ⊤
IsHexadecimal _ = ⊥

-- The answer is the character of the valid reference of this kind at the beginning of the bytes and the number of its
-- bytes, and none where no valid reference of this kind stands there.
abbrev pub ReadsKind : (Reference → Type 0) → List ℕ → Option (ℕ × ℕ) → Type 0
ReadsKind IsKind bytes answer = MatchOption answer
    ((r : Reference) (rest : List ℕ) → IsKind r → IsReference r → bytes ≡ print_reference r ++ rest → ⊥)
    (λ read. (read.1 ≤ length bytes) × BeginsWithReference bytes read.0 (drop read.1 bytes))

-- The bytes begin with digits in a base, at least one, and a semicolon; the digits write the number of a character that
-- XML allows.
pub record BeginsWithNumber (radix : ℕ) (bytes : List ℕ) (character : ℕ) (rest : List ℕ) : Type 0 where
  pub digits : List ℕ
  pub numeral : IsNumeral radix digits
  pub meant : digits_value radix digits ≡ character
  pub allowed : IsTrue (is_char character)
  pub printed : bytes ≡ digits ++ semicolon ∷ rest

-- The answer is the character and the number of bytes up to behind the semicolon, and none where no such number begins
-- the bytes.
abbrev pub ReadsNumber : ℕ → List ℕ → Option (ℕ × ℕ) → Type 0
ReadsNumber radix bytes answer = MatchOption answer
    ((character : ℕ) (rest : List ℕ) → BeginsWithNumber radix bytes character rest → ⊥)
    (λ read. (read.1 ≤ length bytes) × BeginsWithNumber radix bytes read.0 (drop read.1 bytes))

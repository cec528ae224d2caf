-- Numbers as people write them: decimal, without sign and without leading zeros.
use Rattle.std.specs.Prelude.{ℕ, Bool, false, ◌&&◌, not, ◌==◌, List, [], ◌∷◌, Option, None, Some, nat_le, if◌then◌else◌}
use Rattle.std.specs.List.{list_all}
use Rattle.std.specs.Char.{is_ascii_digit}
use Rattle.std.specs.Str.Parse.{digits_value}
use Rattle.xml_spec.specs.Bytes.{is_empty}
use Rattle.owned_values.specs.Options.{◌>>=◌}

-- '0'
abbrev pub digit_zero : ℕ
digit_zero = 48

-- a zero in front of other digits
abbrev pub has_leading_zero : List ℕ → Bool
has_leading_zero [] = false
has_leading_zero (digit ∷ digits) = digit == digit_zero && not (is_empty digits)

abbrev pub is_decimal : List ℕ → Bool
is_decimal word = not (is_empty word) && list_all is_ascii_digit word && not (has_leading_zero word)

-- the number that a word spells, where it is at most `most`
abbrev pub number_of : ℕ → List ℕ → Option ℕ
number_of most word =
    if is_decimal word && nat_le (digits_value 10 word) most then Some (digits_value 10 word) else None

-- the same, from 1 on
abbrev pub positive : ℕ → List ℕ → Option ℕ
positive most word = do
  number ← number_of most word
  if number == 0 then None else Some number

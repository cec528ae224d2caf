-- The form of an ID.
use Rattle.std.specs.Prelude.{◌≡◌, ◌||◌, ℕ, Bool, List, [], ◌∷◌, length}
use Rattle.std.specs.Char.{is_ascii_digit}
use Rattle.std.specs.Int.{is_in_range}
use Rattle.std.specs.List.{AllPass}

-- `0` to `9` and `a` to `f`
abbrev pub is_lower_hex : ℕ → Bool
is_lower_hex c = is_ascii_digit c || is_in_range 97 102 c

-- `_` and 56 lower hex digits
abbrev pub IsIdForm : List ℕ → Type 0
IsIdForm [] = ⊥
IsIdForm (first ∷ digits) = (first ≡ 95) × (length digits ≡ 56) × AllPass is_lower_hex digits

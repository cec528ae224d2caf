-- The words of a line.
use Rattle.std.specs.Prelude.{ℕ, ◌==◌, List, [], ◌∷◌, Option, None, Some, if◌then◌else◌}
use Rattle.std.specs.List.{list_any, slice_split}
use Rattle.xml_spec.specs.Ascii.{space_character}
use Rattle.xml_spec.specs.Bytes.{is_empty}

-- a line in two: what stands in front of its first space, and what stands behind it, none where there is no space
pub record Parts : Type 0 where
  pub first : List ℕ
  pub rest : Option (List ℕ)

abbrev pub with_first : ℕ → Parts → Parts
with_first b parts = record { first = b ∷ parts.first; rest = parts.rest }

abbrev pub parts_of : List ℕ → Parts
parts_of [] = record { first = []; rest = None }
parts_of (b ∷ bytes) =
    if b == space_character then record { first = []; rest = Some bytes } else with_first b (parts_of bytes)

-- what stands between the spaces of a line
abbrev pub between_spaces : List ℕ → List (List ℕ)
between_spaces line = slice_split (λ b. b == space_character) line

-- the words of a line, which one space separates; none where a word would be empty
abbrev pub words_of : List ℕ → Option (List (List ℕ))
words_of line = if list_any is_empty (between_spaces line) then None else Some (between_spaces line)

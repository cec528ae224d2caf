-- Bytes that are cut in two.
use Rattle.std.specs.Prelude.{ℕ, nat_eq, ◌==◌, List, [], ◌∷◌, length, drop, Option, None, Some, option_and_then, if◌then◌else◌}
use Rattle.std.specs.List.{starts_with}
use Rattle.std.specs.Option.{option_map}
use Rattle.xml_spec.specs.Ascii.{quotation_mark}

-- what stands behind a front, none where the bytes do not begin with it
abbrev pub behind : List ℕ → List ℕ → Option (List ℕ)
behind front bytes = if starts_with nat_eq bytes front then Some (drop (length front) bytes) else None

-- a byte in front of the first of two parts
abbrev pub with_first : ℕ → List ℕ × List ℕ → List ℕ × List ℕ
with_first b parts = (b ∷ parts.0, parts.1)

-- what stands in front of the first such byte, and what stands behind it, none where there is no such byte
abbrev pub cut : ℕ → List ℕ → Option (List ℕ × List ℕ)
cut stop [] = None
cut stop (b ∷ bytes) = if b == stop then Some ([], bytes) else option_map (with_first b) (cut stop bytes)

-- what stands between a front and the next quotation mark, and what stands behind that mark
abbrev pub quoted : List ℕ → List ℕ → Option (List ℕ × List ℕ)
quoted front bytes = option_and_then (cut quotation_mark) (behind front bytes)

-- The levels of a scope: the innermost first, each with its pairs of a prefix and a number, the latest first.
use Rattle.std.specs.Prelude.{ℕ, List, [], ◌∷◌, Option, None}
use Rattle.std.specs.Option.{option_or}
use Rattle.std.specs.Map.{lookup}
use Rattle.std.specs.Str.{bytes_eq}

-- a prefix, as bytes, and the number of its namespace
abbrev pub Pair : Type 0
Pair = List ℕ × ℕ

-- what one start tag declares
abbrev pub Level : Type 0
Level = List Pair

-- "The scope of a namespace declaration declaring a prefix extends from the beginning of the start-tag in which it
-- appears to the end of the corresponding end-tag, excluding the scope of any inner declarations with the same NSAttName
-- part" (Namespaces in XML 1.0, 6.1): the latest pair of the innermost level that has the prefix
abbrev pub lookup_of : List ℕ → List Level → Option ℕ
lookup_of prefix [] = None
lookup_of prefix (level ∷ outer) = option_or (lookup (λ declared. bytes_eq declared prefix) level) (lookup_of prefix outer)

-- the levels after one more pair of the innermost
abbrev pub declared_in : List ℕ → ℕ → List Level → List Level
declared_in prefix name [] = []
declared_in prefix name (level ∷ outer) = ((prefix, name) ∷ level) ∷ outer

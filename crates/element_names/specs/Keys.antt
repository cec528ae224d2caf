-- Whether names differ: as they are written, and with the numbers of their namespaces.
use denote.Ref.{Bor}
use Rattle.std.specs.Prelude.{ℕ, ◌==◌, Bool, true, ◌&&◌, not, List, [], ◌∷◌}
use Rattle.std.specs.List.{list_any}
use Rattle.std.specs.Str.{bytes_eq}

-- no two of the names are equal
abbrev pub are_apart : List (List ℕ) → Bool
are_apart [] = true
are_apart (name ∷ names) = not (list_any (λ other. bytes_eq other name) names) && are_apart names

-- a name with the number of its namespace, and whether two are equal
abbrev pub Key : Type 0
Key = ℕ × Bor (List ℕ)

abbrev pub KeyView : Type 0
KeyView = ℕ × List ℕ

abbrev pub key_view : Key → KeyView
key_view key = (key.0, key.1.now)

abbrev pub same_key : Key → Key → Bool
same_key one other = (one.0 == other.0) && bytes_eq one.1.now other.1.now

-- no two of the keys are equal
abbrev pub are_distinct : List Key → Bool
are_distinct [] = true
are_distinct (key ∷ keys) = not (list_any (λ other. same_key other key) keys) && are_distinct keys

-- Words on a value that may be absent.
use Rattle.std.specs.Prelude.{ℕ, Bool, true, false, List, [], ◌∷◌, Option, None, Some, option_and_then, if◌then◌else◌}
use Rattle.std.specs.Str.{bytes_eq, is_utf8}

-- what follows on a value, where it is there
infixl 10 ◌>>=◌
abbrev pub ◌>>=◌ : {X Y : Type 0} → Option X → (X → Option Y) → Option Y
o >>= f = option_and_then f o

-- bytes that are UTF-8
abbrev pub in_utf8 : List ℕ → Option (List ℕ)
in_utf8 bytes = if is_utf8 bytes then Some bytes else None

-- the text is there, and it is this one
abbrev pub is_there : (wanted : List ℕ) → Option (List ℕ) → Bool
is_there wanted None = false
is_there wanted (Some text) = bytes_eq text wanted

-- the text is this one, where it is there
abbrev pub is_if_any : (wanted : List ℕ) → Option (List ℕ) → Bool
is_if_any wanted None = true
is_if_any wanted (Some text) = bytes_eq text wanted

-- the one item that there is, none where there are none or more
abbrev pub only : {X : Type 0} → List X → Option X
only [] = None
only (x ∷ []) = Some x
only (x ∷ y ∷ others) = None

-- that there is one item or none, and which
abbrev pub at_most_one : {X : Type 0} → List X → Option (Option X)
at_most_one [] = Some None
at_most_one (x ∷ []) = Some (Some x)
at_most_one (x ∷ y ∷ others) = None

-- The conditions of a rule, and the texts in them.
use Rattle.std.specs.Prelude.{ℕ, ◌+◌, ◌-◌, ◌*◌, ◌==◌, List, [], ◌∷◌, codes, Option, None, Some, option_and_then, if◌then◌else◌}
use Rattle.std.specs.Int.{is_in_range}
use Rattle.std.specs.Option.{option_map}
use Rattle.std.specs.Str.{bytes_eq}
use Rattle.access_policy.specs.declared.rule.Condition.{Condition}
use Rattle.access_policy.specs.declared.rule.Condition.TheVariants.{Has, Lacks, User}
use Rattle.owned_values.specs.Options.{◌>>=◌, in_utf8}

-- `0` to `9` and `a` to `f`
abbrev pub hex_digit : ℕ → Option ℕ
hex_digit digit =
    if is_in_range 48 57 digit then Some (digit - 48)
    else if is_in_range 97 102 digit then Some (digit - 97 + 10)
    else None

abbrev pub hex_byte : ℕ → ℕ → Option ℕ
hex_byte high low = do
  h ← hex_digit high
  l ← hex_digit low
  Some (16 * h + l)

-- the first and the others, where both are there
abbrev pub put : {X : Type 0} → Option X → Option (List X) → Option (List X)
put first others = do
  x ← first
  xs ← others
  Some (x ∷ xs)

-- '\'
abbrev pub backslash : ℕ
backslash = 92

-- the bytes that a word spells: `\` and two digits stand for a byte, every other byte for itself
abbrev pub unescaped : List ℕ → Option (List ℕ)
unescaped [] = Some []
unescaped (b ∷ []) = if b == backslash then None else Some (b ∷ [])
unescaped (b ∷ high ∷ []) = if b == backslash then None else put (Some b) (unescaped (high ∷ []))
unescaped (b ∷ high ∷ low ∷ bytes) =
    if b == backslash then put (hex_byte high low) (unescaped bytes) else put (Some b) (unescaped (high ∷ low ∷ bytes))

-- the text that a word spells
abbrev pub text_of : List ℕ → Option (List ℕ)
text_of word = option_and_then in_utf8 (unescaped word)

-- `user NAME`
abbrev pub user : List ℕ → Option Condition
user name = option_map User (text_of name)

-- `has ATTRIBUTE VALUE` or `lacks ATTRIBUTE VALUE`, of these texts
abbrev pub tested_of : List ℕ → List ℕ → List ℕ → Option Condition
tested_of kind attribute value =
    if bytes_eq kind (codes "has") then Some (Has attribute value)
    else if bytes_eq kind (codes "lacks") then Some (Lacks attribute value)
    else None

abbrev pub tested : List ℕ → List ℕ → List ℕ → Option Condition
tested kind attribute value = do
  a ← text_of attribute
  v ← text_of value
  tested_of kind a v

-- the conditions that words spell one after the other
abbrev pub conditions_of : List (List ℕ) → Option (List Condition)
conditions_of [] = Some []
conditions_of (kind ∷ []) = None
conditions_of (kind ∷ word ∷ []) = if bytes_eq kind (codes "user") then put (user word) (Some []) else None
conditions_of (kind ∷ word ∷ value ∷ words) =
    if bytes_eq kind (codes "user") then put (user word) (conditions_of (value ∷ words))
    else put (tested kind word value) (conditions_of words)

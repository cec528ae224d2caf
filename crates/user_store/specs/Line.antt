-- One line of a file of users: a user, or a value of an attribute of the last user.
use Rattle.std.specs.Prelude.{ℕ, ◌≤◌, List, [], ◌∷◌, codes, Option, None, Some, option_and_then, if◌then◌else◌}
use Rattle.std.specs.Option.{option_map}
use Rattle.std.specs.Result.{result_ok}
use Rattle.std.specs.Str.{bytes_eq}
use Rattle.hex.specs.Hex.{decode_of, decode_sized}
use Rattle.xml_spec.specs.Bytes.{is_empty}
use Rattle.text_lines.specs.Words.{Parts, parts_of, words_of}
use Rattle.text_lines.specs.Numbers.{positive}
use Rattle.user_store.specs.declared.line.TheConstants.{MOST_ROUNDS}
use Rattle.user_store.specs.declared.line.UserLine.{UserLine}
use Rattle.user_store.specs.declared.line.UserLine.TheVariants.{User, Attribute}
use Rattle.user_store.specs.declared.user.TheConstants.{VALUE_LENGTH}
use Rattle.owned_values.specs.Options.{◌>>=◌}

-- RFC 8018, 4.2: the iteration count, from 1
abbrev pub rounds_of : List ℕ → Option ℕ
rounds_of word = positive MOST_ROUNDS word

-- pairs of hexadecimal digits of either case, each pair a byte
abbrev pub bytes_of : List ℕ → Option (List ℕ)
bytes_of word = result_ok (decode_of word)

-- the same for as many bytes as a value has
abbrev pub value_of : List ℕ → Option (List ℕ)
value_of word = result_ok (decode_sized word VALUE_LENGTH)

-- `user NAME ROUNDS SALT VALUE`
abbrev pub user_of : List (List ℕ) → Option UserLine
user_of (key ∷ name ∷ rounds ∷ salt ∷ value ∷ []) = if bytes_eq key (codes "user") then (do
  count ← rounds_of rounds
  salted ← bytes_of salt
  tag ← value_of value
  Some (User (record { name = name; attributes = []; salt = salted; rounds = count; value = tag }))) else None
user_of words = None

-- a name, which is not empty, and a value, which may be
abbrev pub named_value : Parts → Option UserLine
named_value parts = if is_empty parts.first then None else option_map (λ value. Attribute parts.first value) parts.rest

-- `attr NAME VALUE`, behind its key: the value is all that stands behind the name and a space
abbrev pub attribute_of : List ℕ → Option UserLine
attribute_of behind = named_value (parts_of behind)

-- the line that a text spells
abbrev pub line_of : List ℕ → Option UserLine
line_of text =
    if bytes_eq (parts_of text).first (codes "attr") then option_and_then attribute_of (parts_of text).rest
    else option_and_then user_of (words_of text)

-- a user has one round at least
abbrev pub HasRounds : UserLine → Type 0
HasRounds (User user) = 1 ≤ user.rounds
HasRounds (Attribute name value) = Unit {0}

-- The users of a text, and their passwords.
use Rattle.std.specs.Prelude.{ℕ, Bool, ◌&&◌, ◌||◌, nat_le, List, [], ◌∷◌, ◌++◌, length, find, Option, None, Some, Result, option_and_then, if◌then◌else◌}
use Rattle.std.specs.List.{list_any}
use Rattle.std.specs.Option.{option_map}
use Rattle.std.specs.Str.{bytes_eq}
use Rattle.hmac_sha256.specs.Pbkdf2.{pbkdf2}
use Rattle.owned_values.specs.declared.attributes.Attribute.{Attribute}
use Rattle.text_lines.specs.Lines.{said, with_lines}
use Rattle.user_store.specs.declared.fault.UserFault.{UserFault}
use Rattle.user_store.specs.declared.fault.UserFault.TheVariants as faults
use Rattle.user_store.specs.declared.line.UserLine.{UserLine}
use Rattle.user_store.specs.declared.line.UserLine.TheVariants as lines
use Rattle.user_store.specs.declared.user.User.{User}
use Rattle.user_store.specs.declared.users.TheConstants.{MAX_USERS}
use Rattle.user_store.specs.Line.{line_of}

-- ---- passwords

abbrev pub has_name : List ℕ → User → Bool
has_name name user = bytes_eq name user.name

-- RFC 8018, 5.2: the user's value is the first block of the key that is derived from the password, the salt and the rounds
abbrev pub is_password : List ℕ → User → Bool
is_password password user = bytes_eq (pbkdf2 password user.salt user.rounds) user.value

-- the user of this name and this password
abbrev pub checked : List User → List ℕ → List ℕ → Option User
checked users name password = find (λ user. has_name name user && is_password password user) users

-- ---- the users of a text

-- one of the users has this name
abbrev pub has_user : List User → List ℕ → Bool
has_user users name = list_any (has_name name) users

-- the users with one more attribute of the last; none where there is no user
abbrev pub with_attribute : Attribute → List User → Option (List User)
with_attribute attribute [] = None
with_attribute attribute (user ∷ []) = Some (record user { attributes = user.attributes ++ attribute ∷ [] } ∷ [])
with_attribute attribute (user ∷ next ∷ users) = option_map (λ others. user ∷ others) (with_attribute attribute (next ∷ users))

-- the users with one more; none where it is one too many, or one of its name is before it
abbrev pub with_user : User → List User → Option (List User)
with_user user before =
    if nat_le MAX_USERS (length before) || has_user before user.name then None else Some (before ++ user ∷ [])

-- the users with what a line says; none where it is bad
abbrev pub with_line : List User → UserLine → Option (List User)
with_line before (lines.User user) = with_user user before
with_line before (lines.Attribute name value) = with_attribute (record { name = name; values = value ∷ [] }) before

-- the users with what the text of a line says
abbrev pub with_text : (number : ℕ) → (text : List ℕ) → List User → Option (List User)
with_text number text before = option_and_then (with_line before) (line_of text)

-- the users of a text, or the number of the first line that is bad
abbrev pub users : List ℕ → Result (List User) ℕ
users text = with_lines with_text [] (said text)

-- the number that a fault gives, none for want of memory
abbrev pub fault_of : UserFault → Option ℕ
fault_of (faults.Line number) = Some number
fault_of faults.NoMemory = None

-- How a text is printed in one piece: only visible characters of ASCII, and no space.
use Rattle.std.specs.Prelude.{ℕ, ◌+◌, ◌/◌, ◌%◌, Bool, ◌&&◌, not, ◌==◌, List, [], ◌∷◌, nat_le, if◌then◌else◌}
use Rattle.std.specs.List.{flat_map}

-- '\'
abbrev pub backslash : ℕ
backslash = 92

-- '='
abbrev pub equals_sign : ℕ
equals_sign = 61

-- a visible character of ASCII but the backslash
abbrev pub is_plain : ℕ → Bool
is_plain b = nat_le 33 b && nat_le b 126 && not (b == backslash)

-- a digit of base 16, in lower case
abbrev pub hex_digit : ℕ → ℕ
hex_digit n = if nat_le 10 n then 87 + n else 48 + n

-- a byte as a backslash and two digits
abbrev pub coded_byte : ℕ → List ℕ
coded_byte b = backslash ∷ hex_digit (b / 16 % 16) ∷ hex_digit (b % 16) ∷ []

-- a byte as it is printed: a plain one as it is, another as a backslash and two digits
abbrev pub escaped_byte : ℕ → List ℕ
escaped_byte b = if is_plain b then b ∷ [] else coded_byte b

-- a text as it is printed
abbrev pub escaped : List ℕ → List ℕ
escaped text = flat_map escaped_byte text

-- The same in front of a '=', which it is not to hold.
abbrev pub escaped_name_byte : ℕ → List ℕ
escaped_name_byte b = if b == equals_sign then coded_byte b else escaped_byte b

abbrev pub escaped_name : List ℕ → List ℕ
escaped_name name = flat_map escaped_name_byte name

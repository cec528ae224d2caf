-- Texts of ASCII alone.
use Rattle.std.specs.Prelude.{ℕ, Bool, ◌&&◌, nat_lt}
use Rattle.xml_spec.specs.Characters.{is_char}

-- a character of ASCII that XML allows: XML 1.0, 2.2
abbrev pub is_ascii_char : ℕ → Bool
is_ascii_char b = nat_lt b 128 && is_char b

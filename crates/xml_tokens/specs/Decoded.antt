-- What is meant by the value of an attribute that is kept as it is written between its quotes: XML 1.0 (fifth edition),
-- 2.11, 3.3.3, 4.1 and 4.6.
use Rattle.std.specs.Prelude.{◌≡◌, ℕ, ◌<◌, length, Bool, true, false, ◌&&◌, ◌==◌, nat_eq, List, [], ◌∷◌, ◌++◌, drop, codes, if◌then◌else◌}
use Rattle.std.specs.List.{starts_with}
use Rattle.std.specs.Char.{encode_utf8}
use Rattle.std.specs.Str.{bytes_eq}
use Rattle.std.specs.Str.Parse.{digits_value}
use Rattle.xml_spec.specs.Ascii.{line_feed, carriage_return, space_character, quotation_mark, ampersand, apostrophe, semicolon, less_than, greater_than}
use Rattle.xml_spec.specs.Meaning.{as_blank}
use Rattle.xml_chars.specs.Reading.{BeginsWithNone}

-- the character that is written as this name or number between '&' and ';'
abbrev pub referred_character : List ℕ → ℕ
referred_character name =
    if bytes_eq name (codes "lt") then less_than
    else if bytes_eq name (codes "gt") then greater_than
    else if bytes_eq name (codes "amp") then ampersand
    else if bytes_eq name (codes "apos") then apostrophe
    else if bytes_eq name (codes "quot") then quotation_mark
    else if starts_with nat_eq name (codes "#x") then digits_value 16 (drop 2 name)
    else digits_value 10 (drop 1 name)

-- a place in a value: among literal characters, behind a carriage return or not; or in a reference, behind these bytes
pub data Place : Type 0 where
  Plain : (return : Bool) → Place
  Named : (name : List ℕ) → Place

-- what the bytes from such a place on mean
abbrev pub value_from : Place → List ℕ → List ℕ
value_from place [] = []
value_from (Plain return) (b ∷ bytes) =
    if b == ampersand then value_from (Named []) bytes
    else if b == carriage_return then space_character ∷ value_from (Plain true) bytes
    else if return && b == line_feed then value_from (Plain false) bytes
    else as_blank b ∷ value_from (Plain false) bytes
value_from (Named name) (b ∷ bytes) =
    if b == semicolon then encode_utf8 (referred_character name) ++ value_from (Plain false) bytes
    else value_from (Named (name ++ b ∷ [])) bytes

abbrev pub value_of : List ℕ → List ℕ
value_of bytes = value_from (Plain false) bytes

-- a valid reference begins at each ampersand
pub record HasReferences (bytes : List ℕ) : Type 0 where
  pub each : (front back : List ℕ) → bytes ≡ front ++ ampersand ∷ back → ¬ (BeginsWithNone (ampersand ∷ back))

-- the bytes begin with what means this character, and go on with the rest
pub record IsNext (bytes : List ℕ) (character : ℕ) (behind : List ℕ) : Type 0 where
  pub front : List ℕ
  pub some : 0 < length front
  pub split : bytes ≡ front ++ behind
  pub means : value_of bytes ≡ encode_utf8 character ++ value_of behind

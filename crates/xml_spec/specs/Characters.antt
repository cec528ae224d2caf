-- Characters and names: XML 1.0 (fifth edition), 2.2 and 2.3; Namespaces in XML 1.0, 3 and 4.
-- A character is its code point. A text is its bytes in UTF-8.
use Rattle.std.specs.Prelude.{◌≡◌, ℕ, ◌≤◌, ◌⊎◌, Bool, ◌&&◌, ◌==◌, List, [], ◌∷◌, Option, Some, None, nat_le, if◌then◌else◌, IsTrue, MatchOption, unwrap_or}
use Rattle.std.specs.List.{list_all, list_any}
use Rattle.std.specs.Option.{option_map}
use Rattle.std.specs.Str.{encode_utf8_all}
use Rattle.xml_spec.specs.Ascii.{colon}

-- a class of characters is a list of ranges, from the first character to the last
abbrev pub Ranges : Type 0
Ranges = List (ℕ × ℕ)

-- the character stands in one of the ranges
abbrev pub InRanges : Ranges → ℕ → Type 0
InRanges [] c = ⊥
InRanges (range ∷ ranges) c = ((range.0 ≤ c) × (c ≤ range.1)) ⊎ InRanges ranges c

-- the same as a test
abbrev pub in_ranges : Ranges → ℕ → Bool
in_ranges ranges c = list_any (λ range. nat_le range.0 c && nat_le c range.1) ranges

-- [2] Char ::= #x9 | #xA | #xD | [#x20-#xD7FF] | [#xE000-#xFFFD] | [#x10000-#x10FFFF]
abbrev pub char_ranges : Ranges
char_ranges = (0x9, 0x9) ∷ (0xA, 0xA) ∷ (0xD, 0xD) ∷ (0x20, 0xD7FF) ∷ (0xE000, 0xFFFD) ∷ (0x10000, 0x10FFFF) ∷ []

-- [4] NameStartChar ::= ":" | [A-Z] | "_" | [a-z] | [#xC0-#xD6] | [#xD8-#xF6] | [#xF8-#x2FF]
--     | [#x370-#x37D] | [#x37F-#x1FFF] | [#x200C-#x200D] | [#x2070-#x218F] | [#x2C00-#x2FEF]
--     | [#x3001-#xD7FF] | [#xF900-#xFDCF] | [#xFDF0-#xFFFD] | [#x10000-#xEFFFF]
abbrev pub name_start_ranges : Ranges
name_start_ranges =
    (58, 58) ∷ (65, 90) ∷ (95, 95) ∷ (97, 122) ∷ (0xC0, 0xD6) ∷ (0xD8, 0xF6) ∷ (0xF8, 0x2FF)
    ∷ (0x370, 0x37D) ∷ (0x37F, 0x1FFF) ∷ (0x200C, 0x200D) ∷ (0x2070, 0x218F) ∷ (0x2C00, 0x2FEF)
    ∷ (0x3001, 0xD7FF) ∷ (0xF900, 0xFDCF) ∷ (0xFDF0, 0xFFFD) ∷ (0x10000, 0xEFFFF) ∷ []

-- [4a] NameChar ::= NameStartChar | "-" | "." | [0-9] | #xB7 | [#x0300-#x036F] | [#x203F-#x2040]
abbrev pub name_ranges : Ranges
name_ranges =
    (45, 45) ∷ (46, 46) ∷ (48, 57) ∷ (0xB7, 0xB7) ∷ (0x300, 0x36F) ∷ (0x203F, 0x2040) ∷ name_start_ranges

abbrev pub is_char : ℕ → Bool
is_char c = in_ranges char_ranges c

abbrev pub is_name_start : ℕ → Bool
is_name_start c = in_ranges name_start_ranges c

abbrev pub is_name_char : ℕ → Bool
is_name_char c = in_ranges name_ranges c

-- the bytes are the UTF-8 of characters that XML allows
pub record IsText (bytes : List ℕ) : Type 0 where
  pub characters : List ℕ
  pub allowed : IsTrue (list_all is_char characters)
  pub spelled : bytes ≡ encode_utf8_all characters

-- [5] Name ::= NameStartChar (NameChar)*, in UTF-8
pub record IsName (bytes : List ℕ) : Type 0 where
  pub first : ℕ
  pub others : List ℕ
  pub starts : IsTrue (is_name_start first)
  pub goes_on : IsTrue (list_all is_name_char others)
  pub spelled : bytes ≡ encode_utf8_all (first ∷ others)

-- what stands before the first colon and what stands behind it
abbrev pub at_colon : List ℕ → Option (List ℕ × List ℕ)
at_colon [] = None
at_colon (b ∷ bytes) =
    if b == colon then Some ([], bytes) else option_map (λ parts. (b ∷ parts.0, parts.1)) (at_colon bytes)

-- Namespaces, [4] NCName: a Name without a colon
abbrev pub IsNoColonName : List ℕ → Type 0
IsNoColonName name = IsName name × (at_colon name ≡ None)

-- Namespaces, [7] QName ::= PrefixedName | UnprefixedName; [8] PrefixedName ::= Prefix ':' LocalPart,
-- where both are NCNames
abbrev pub IsQualifiedName : List ℕ → Type 0
IsQualifiedName name = MatchOption (at_colon name) (IsName name) (λ parts. IsNoColonName parts.0 × IsNoColonName parts.1)

-- the prefix, empty where there is none, and the local part
abbrev pub prefix_of : List ℕ → List ℕ
prefix_of name = unwrap_or (option_map (λ parts. parts.0) (at_colon name)) []

abbrev pub local_of : List ℕ → List ℕ
local_of name = unwrap_or (option_map (λ parts. parts.1) (at_colon name)) name

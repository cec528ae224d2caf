-- What is meant by a text of an element that is kept as it is written, with its references and CDATA sections: XML 1.0 (fifth
-- edition), 2.4, 2.7, 2.11, 4.1 and 4.6.
use Rattle.std.specs.Prelude.{◌≡◌, ℕ, zero, suc, ◌<◌, ◌-◌, Bool, true, false, ◌&&◌, not, ◌==◌, nat_eq, List, [], ◌∷◌, ◌++◌, length, take, codes, if◌then◌else◌, IsTrue}
use Rattle.std.specs.List.{starts_with, flat_map, AllByRecursion}
use Rattle.std.specs.Char.{encode_utf8}
use mathlib.Core.Path.{refl}
use Rattle.std.specs.Coded.{Coded, code_by, coded×}
use Rattle.xml_spec.specs.Codes.{coded_bytes}
use Rattle.xml_spec.specs.Ascii.{line_feed, carriage_return, ampersand, semicolon, less_than}
use Rattle.xml_spec.specs.Bytes.{begins_with, no_two}
use Rattle.xml_spec.specs.Syntax.{character_of, Item, Characters, Refers, Section, is_characters, print_item, IsItem}
use Rattle.xml_spec.specs.Meaning.{line_ends}
use Rattle.xml_tokens.specs.Lexing.{is_character_byte}
use Rattle.xml_tokens.specs.Decoded.{referred_character}
use Rattle.xml_tokens.specs.declared.text.Part.{Part}
use Rattle.xml_tokens.specs.declared.text.Part.TheVariants as parts

-- A place in a text: among characters, behind a carriage return or not; in a reference, behind these bytes; in a section, behind
-- a carriage return or not; in the sign that begins a section or in the one that ends it, with so many bytes between the
-- next one and the last.
pub data TextPlace : Type 0 where
  Among : (return : Bool) → TextPlace
  Referring : (name : List ℕ) → TextPlace
  Within : (return : Bool) → TextPlace
  Opening : (left : ℕ) → TextPlace
  Closing : (left : ℕ) → TextPlace

-- what the bytes from such a place on mean
abbrev pub characters_from : TextPlace → List ℕ → List ℕ
characters_from place [] = []
characters_from (Among return) (b ∷ bytes) =
    if b == ampersand then characters_from (Referring []) bytes
    else if b == less_than then characters_from (Opening 7) bytes
    else if b == carriage_return then line_feed ∷ characters_from (Among true) bytes
    else if return && b == line_feed then characters_from (Among false) bytes
    else b ∷ characters_from (Among false) bytes
characters_from (Referring name) (b ∷ bytes) =
    if b == semicolon then encode_utf8 (referred_character name) ++ characters_from (Among false) bytes
    else characters_from (Referring (name ++ b ∷ [])) bytes
characters_from (Within return) (b ∷ bytes) =
    if starts_with nat_eq (b ∷ bytes) (codes "]]>") then characters_from (Closing 1) bytes
    else if b == carriage_return then line_feed ∷ characters_from (Within true) bytes
    else if return && b == line_feed then characters_from (Within false) bytes
    else b ∷ characters_from (Within false) bytes
characters_from (Opening zero) (b ∷ bytes) = characters_from (Within false) bytes
characters_from (Opening (suc left)) (b ∷ bytes) = characters_from (Opening left) bytes
characters_from (Closing zero) (b ∷ bytes) = characters_from (Among false) bytes
characters_from (Closing (suc left)) (b ∷ bytes) = characters_from (Closing left) bytes

abbrev pub characters_of : List ℕ → List ℕ
characters_of bytes = characters_from (Among false) bytes

-- what an item is a piece of a text, and what it adds to it
abbrev pub is_text : Item → Bool
is_text (Characters bytes) = true
is_text (Refers reference) = true
is_text (Section bytes) = true
is_text _ = false

abbrev pub item_text : Item → List ℕ
item_text (Characters bytes) = line_ends bytes
item_text (Refers reference) = encode_utf8 (character_of reference)
item_text (Section bytes) = line_ends bytes
item_text _ = []

abbrev pub IsTextItem : Item → Type 0
IsTextItem item = IsItem item × IsTrue (is_text item)

-- the bytes are those of such items, of which no two neighbours are runs of characters
pub record IsWrittenText (bytes : List ℕ) : Type 0 where
  pub items : List Item
  pub each : AllByRecursion IsTextItem items
  pub apart : IsTrue (no_two is_characters items)
  pub printed : bytes ≡ flat_map print_item items

-- the last element passes the test
abbrev pub ends_with : (Item → Bool) → List Item → Bool
ends_with test [] = false
ends_with test (item ∷ []) = test item
ends_with test (item ∷ (next ∷ items)) = ends_with test (next ∷ items)

-- a text was read up to what stands behind it; a run of characters is as long as it can be
pub record IsReadText (from behind : List ℕ) : Type 0 where
  pub items : List Item
  pub each : AllByRecursion IsTextItem items
  pub apart : IsTrue (no_two is_characters items)
  pub whole : IsTrue (not (ends_with is_characters items && begins_with is_character_byte behind))
  pub printed : from ≡ flat_map print_item items ++ behind

-- what was read of a text so far means this, and this stands behind it
pub record RunView : Type 0 where
  pub text : List ℕ
  pub behind : List ℕ

abbrev pub coded_run : Coded RunView
coded_run =
    code_by (List ℕ × List ℕ) (coded× coded_bytes coded_bytes) (λ v. (v.text, v.behind)) (λ p. record { text = p.0; behind = p.1 })
    (λ _. refl)

abbrev pub run_view : List ℕ → List ℕ → RunView
run_view from behind = record { text = characters_of (take (length from - length behind) from); behind = behind }

-- what a part of a text means
abbrev pub part_text : Part → List ℕ
part_text (parts.Literal text) = line_ends text.now
part_text (parts.Referred character) = encode_utf8 character

-- the bytes begin with what means this, and a text follows
pub record IsNextPart (bytes meant behind : List ℕ) : Type 0 where
  pub shorter : length behind < length bytes
  pub written : IsWrittenText behind
  pub means : characters_of bytes ≡ meant ++ characters_of behind

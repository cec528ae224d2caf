-- Characters that are written as references.
use Rattle.std.specs.Prelude.{ℕ, Bool, ◌||◌, not, ◌==◌, List}
use Rattle.xml_spec.specs.Ascii.{tab, line_feed, carriage_return, quotation_mark, ampersand, less_than, greater_than}
use Rattle.xml_spec.specs.Canonical.{escape_text_byte, escape_value_byte}
use Rattle.canon_octets.specs.declared.escape.Place.{Place}
use Rattle.canon_octets.specs.declared.escape.Place.TheVariants as places

-- what is written for a byte that stands in a text or in an attribute's value
abbrev pub escape_byte : Place → ℕ → List ℕ
escape_byte places.Text b = escape_text_byte b
escape_byte places.Value b = escape_value_byte b

-- Canonical XML, 2.3, "Text Nodes": written as they are, in a text, are all but the ampersand, the angle brackets
-- and #xD
abbrev pub is_kept_in_text : ℕ → Bool
is_kept_in_text b = not (b == ampersand || b == less_than || b == greater_than || b == carriage_return)

-- Canonical XML, 2.3, "Attribute Nodes": written as they are, in a value, are all but the ampersand, the open angle
-- bracket, the quotation mark, #x9, #xA and #xD
abbrev pub is_kept_in_value : ℕ → Bool
is_kept_in_value b =
    not
    (b == ampersand || b == less_than || b == quotation_mark || b == tab || b == line_feed
    || b == carriage_return)

-- the byte is written as it is in this place
abbrev pub is_kept : Place → ℕ → Bool
is_kept places.Text b = is_kept_in_text b
is_kept places.Value b = is_kept_in_value b

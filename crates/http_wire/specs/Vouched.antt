-- Whom an answer vouches for: two field lines (RFC 9110, 5) that a server writes for a proxy in front of an application. The name is
-- percent-encoded (RFC 3986, 2.1), the attributes are a form (URL Standard, 5).
use Rattle.std.specs.Prelude.{ℕ, ◌==◌, Bool, ◌&&◌, not, List, [], ◌∷◌, ◌++◌, map, codes, if◌then◌else◌}
use Rattle.std.specs.Char.{is_ascii_graphic}
use Rattle.std.specs.List.{flat_map}
use Rattle.httparse.specs.Ascii.{crlf_bytes}
use Rattle.percent_encoding.specs.Percent.{percent_sign, percent_encode_byte}
use Rattle.form_urlencoded.specs.Form.{extend_pairs}
use Rattle.owned_values.specs.declared.attributes.Attribute.{Attribute}
use Rattle.http_wire.specs.Answers.{status_line, page_lines, field_line}

-- ---- a name

-- a byte that a name keeps: a visible character of ASCII, 0x21 to 0x7E, but `%`
abbrev pub is_name_byte : ℕ → Bool
is_name_byte b = is_ascii_graphic b && not (b == percent_sign)

-- RFC 3986, 2.1: "A percent-encoded octet is encoded as a character triplet, consisting of the percent character "%" followed by the
-- two hexadecimal digits representing that octet's numeric value", and producers "should use uppercase hexadecimal digits"
abbrev pub name_byte : ℕ → List ℕ
name_byte b = if is_name_byte b then b ∷ [] else percent_encode_byte b

abbrev pub escaped_name : List ℕ → List ℕ
escaped_name name = flat_map name_byte name

-- ---- attributes

-- one pair for each value of an attribute
abbrev pub value_pairs : Attribute → List (List ℕ × List ℕ)
value_pairs attribute = map (λ value. (attribute.name, value)) attribute.values

-- and of each attribute, in order
abbrev pub pairs_of : List Attribute → List (List ℕ × List ℕ)
pairs_of attributes = flat_map value_pairs attributes

-- URL Standard, 5.2: the pairs as application/x-www-form-urlencoded
abbrev pub attributes_form : List Attribute → List ℕ
attributes_form attributes = extend_pairs [] (pairs_of attributes)

-- ---- the answer

-- the two lines
abbrev pub user_line : List ℕ → List ℕ
user_line name = field_line (codes "Remote-User") (escaped_name name)

abbrev pub attributes_line : List Attribute → List ℕ
attributes_line attributes = field_line (codes "Remote-Attributes") (attributes_form attributes)

-- RFC 9110, 15.3.1: 200, OK; without a body
unfoldable pub vouched_answer : List ℕ → List Attribute → List ℕ
vouched_answer name attributes = status_line 200 ++ page_lines 0 ++ user_line name ++ attributes_line attributes ++ crlf_bytes

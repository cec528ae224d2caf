-- Cookies and media types as a client sends them: RFC 6265, 4.2, and RFC 9110, 8.3.
use Rattle.std.specs.Prelude.{ℕ, Bool, ◌==◌, List, [], ◌∷◌, codes, reverse, find, Option, None, Some, if◌then◌else◌}
use Rattle.std.specs.List.{filter_map, before_first, after_first, list_any, slice_split}
use Rattle.std.specs.Option.{option_map}
use Rattle.std.specs.Str.{bytes_eq, str_eq_ignore_ascii_case}
use Rattle.httparse.specs.Grammar.{trim_ows}
use Rattle.xml_spec.specs.Ascii.{space_character, semicolon, equals_sign}

-- ---- cookies

-- what stands between the semicolons
abbrev pub pieces : List ℕ → List (List ℕ)
pieces header = slice_split (λ b. b == semicolon) header

-- the text from its first byte on that is no space
abbrev pub behind_spaces : List ℕ → List ℕ
behind_spaces [] = []
behind_spaces (b ∷ text) = if b == space_character then behind_spaces text else b ∷ text

-- the text without the spaces at its ends
abbrev pub without_spaces : List ℕ → List ℕ
without_spaces text = reverse (behind_spaces (reverse (behind_spaces text)))

-- a name and a value
abbrev pub Pair : Type 0
Pair = List ℕ × List ℕ

-- RFC 6265, 4.1.1: "cookie-pair = cookie-name "=" cookie-value": what stands round the first `=`, since a name holds none
abbrev pub pair_of : List ℕ → Option Pair
pair_of text =
    if list_any (λ b. b == equals_sign) text
    then Some (before_first (λ b. b == equals_sign) text, after_first (λ b. b == equals_sign) text)
    else None

-- the value of the first pair of this name in the pieces; a piece that is no pair is passed over
abbrev pub value_in : List ℕ → List (List ℕ) → Option (List ℕ)
value_in name found = option_map (λ pair. pair.1) (find (λ pair. bytes_eq pair.0 name) (filter_map (λ piece. pair_of (without_spaces piece)) found))

-- RFC 6265, 4.2.1: "cookie-string = cookie-pair *( ";" SP cookie-pair )"; any number of spaces is taken, also none
abbrev pub cookie_value : List ℕ → List ℕ → Option (List ℕ)
cookie_value header name = value_in name (pieces header)

-- ---- media types

-- RFC 9110, 8.3.1: "media-type = type "/" subtype parameters", where each parameter begins with OWS ";"
abbrev pub media_type : List ℕ → List ℕ
media_type value = trim_ows (before_first (λ b. b == semicolon) value)

-- RFC 9110, 8.3.1: "The type and subtype tokens are case-insensitive." URL Standard, 5: the type of a form
abbrev pub is_form_type : List ℕ → Bool
is_form_type value = str_eq_ignore_ascii_case (media_type value) (codes "application/x-www-form-urlencoded")

-- Texts in HTML: what is written for them, and what is read there again (HTML Living Standard, 13.1 and 13.2.5).
use Rattle.std.specs.Prelude.{ℕ, zero, suc, ◌-◌, Bool, ◌||◌, ◌==◌, List, [], ◌∷◌, codes, length, find, nat_eq, Option, Some, option_and_then, if◌then◌else◌}
use Rattle.std.specs.List.{flat_map, starts_with}
use Rattle.std.specs.Option.{option_map}
use Rattle.xml_spec.specs.Ascii.{ampersand, less_than, greater_than, quotation_mark, apostrophe}

-- 13.1.2.3 and 13.1.3: a `<` begins a tag, and a quotation mark ends the value of an attribute that is written in these
-- marks; 13.1.4: an ampersand begins a character reference. Each of these, and `>`, is written as a reference.
abbrev pub escape_byte : ℕ → List ℕ
escape_byte b =
    if b == ampersand then codes "&amp;"
    else if b == less_than then codes "&lt;"
    else if b == greater_than then codes "&gt;"
    else if b == quotation_mark then codes "&quot;"
    else if b == apostrophe then codes "&#39;"
    else b ∷ []

abbrev pub escape : List ℕ → List ℕ
escape text = flat_map escape_byte text

-- the bytes that begin or end a tag or the value of an attribute
abbrev pub is_markup : ℕ → Bool
is_markup b = b == less_than || b == greater_than || b == quotation_mark || b == apostrophe

-- 13.1.4 and 13.5: five references, and the characters that they stand for
abbrev pub references : List (List ℕ × ℕ)
references =
    (codes "&amp;", ampersand) ∷ (codes "&lt;", less_than) ∷ (codes "&gt;", greater_than)
    ∷ (codes "&quot;", quotation_mark) ∷ (codes "&#39;", apostrophe) ∷ []

-- the reference that begins the text, one of the five
abbrev pub reference_of : List ℕ → Option (List ℕ × ℕ)
reference_of text = find (λ reference. starts_with nat_eq text reference.0) references

-- 13.2.5.72: what is read of a text behind so many bytes of a reference that was read already; none where an ampersand
-- begins no reference
abbrev pub read_behind : ℕ → List ℕ → Option (List ℕ)
read_behind behind [] = Some []
read_behind (suc behind) (b ∷ text) = read_behind behind text
read_behind zero (b ∷ text) =
    if b == ampersand
    then option_and_then (λ reference. option_map (λ rest. reference.1 ∷ rest) (read_behind (length reference.0 - 1) text)) (reference_of (b ∷ text))
    else option_map (λ rest. b ∷ rest) (read_behind 0 text)

-- the characters that a text in HTML stands for, none where an ampersand in it begins none of the five references
abbrev pub read_text : List ℕ → Option (List ℕ)
read_text text = read_behind 0 text

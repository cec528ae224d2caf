-- The numbers that records draw, and the IDs that have them.
use Rattle.std.specs.Prelude.{◌≡◌, ℕ, ◌+◌, ◌^◌, ◌<◌, max, nat_le, nat_lt, Bool, true, ◌&&◌, List, [], ◌∷◌, length, take, slice_index, Option, Some, IfSome}
use Rattle.std.specs.List.{list_all}
use Rattle.std.specs.Str.{bytes_eq}
use Rattle.std.specs.Int.{w64, to_be_bytes}
use Rattle.hex.specs.Hex.{encode_lower}
use Rattle.text_lines.specs.Lines.{is_text}

-- an ID that a record draws, and its number
pub record Drawn : Type 0 where
  pub number : ℕ
  pub id : List ℕ

-- the front of each ID of a number: `_`, and the number's 16 lower hex digits, the high ones first
abbrev pub number_text : ℕ → List ℕ
number_text n = 95 ∷ encode_lower (to_be_bytes w64 n)

-- whether an ID begins with this number
unfoldable pub has_number : ℕ → List ℕ → Bool
has_number n id = bytes_eq (take 17 id) (number_text n)

-- the least number above all these
abbrev pub above : List Drawn → ℕ
above [] = 0
above (d ∷ drawn) = max (d.number + 1) (above drawn)

-- numbers end below this one
abbrev pub NUMBER_END : ℕ
NUMBER_END = 2 ^ 63

-- whether the numbers are this one or greater, and below the end, and each ID begins with its number
abbrev pub are_fresh : ℕ → List Drawn → Bool
are_fresh least drawn =
    list_all (λ d. nat_le least d.number && nat_lt d.number NUMBER_END && has_number d.number d.id) drawn

-- XML 1.0, 2.2: whether bytes are the UTF-8 of characters that a document may hold
unfoldable pub is_xml_text : List ℕ → Bool
is_xml_text text = is_text text

-- each number is less than the next
abbrev pub Ascend : List ℕ → Type 0
Ascend numbers = (j k : ℕ) → j < k → k < length numbers → slice_index numbers j < slice_index numbers k

-- each number is below this one
abbrev pub AreBelow : ℕ → List ℕ → Type 0
AreBelow n numbers = (k : ℕ) → k < length numbers → slice_index numbers k < n

-- the only place at which a number may stand with which the ID begins, where there is one
pub record IsPlaceOf (numbers : List ℕ) (id : List ℕ) (place : Option ℕ) : Type 0 where
  pub within : IfSome place (λ p. p < length numbers)
  pub only : (k : ℕ) → k < length numbers → has_number (slice_index numbers k) id ≡ true → place ≡ Some k

-- the numbers of rows, and how many more fit in without memory
pub record NumbersView : Type 0 where
  pub listed : List ℕ
  pub spare : ℕ

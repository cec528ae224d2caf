-- The order of an index: a list of the places of rows, counted from 0, that is sorted by a key of theirs.
use Rattle.std.specs.Prelude.{◌≡◌, ℕ, ◌+◌, ◌<◌, List, [], length, slice_index, slice_index_or}
use Rattle.std.specs.List.{range_with_len}
use Rattle.std.specs.List.Sorted.{IsPermutation}
use Rattle.std.specs.Ordering.{nat_cmp, ordering_then}
use Rattle.std.specs.declared.cmp.Ordering.{Ordering}
use Rattle.std.specs.declared.cmp.Ordering.TheVariants.{Less}
use Rattle.std.specs.Cmp.Lexicographic.{slice_cmp}

-- a key: a text, or one text and then another; a key of one text has the empty one behind it
pub record KeyTexts : Type 0 where
  pub first : List ℕ
  pub second : List ℕ

abbrev pub one_text : List ℕ → KeyTexts
one_text text = record { first = text; second = [] }

-- keys compare by bytes
abbrev pub key_order : KeyTexts → KeyTexts → Ordering
key_order a b = ordering_then (slice_cmp nat_cmp a.first b.first) (slice_cmp nat_cmp a.second b.second)

abbrev pub key_at : List KeyTexts → ℕ → KeyTexts
key_at keys place = slice_index_or keys place (one_text [])

-- places compare by the key that stands there, and those of equal keys by number
abbrev pub place_order : List KeyTexts → (p q : ℕ) → Ordering
place_order keys p q = ordering_then (key_order (key_at keys p) (key_at keys q)) (nat_cmp p q)

-- each place of these keys stands there exactly once, and each is less than the next
pub record IsOrder (keys : List KeyTexts) (places : List ℕ) : Type 0 where
  pub each_once : IsPermutation (range_with_len 0 (length keys)) places
  pub ascends : (k : ℕ) → k + 1 < length places → place_order keys (slice_index places k) (slice_index places (k + 1)) ≡ Less

-- A table of texts, each once, and the numbers that its texts have.
use Rattle.std.specs.Prelude.{◌≡◌, ℕ, ◌==◌, ◌<◌, length, slice_index, slice_index_or, List, [], ◌∷◌, ◌++◌, String, Some, if◌then◌else◌, slice_get}
use Rattle.std.specs.List.{list_any}
use Rattle.std.specs.declared.alloc.Global.{Global}
use Rattle.std.specs.BTreeMap.{BTreeMap, get_by_text}
use Rattle.std.specs.Ordering.{nat_cmp}
use Rattle.std.specs.Str.{bytes_eq}
use Rattle.xml_spec.specs.Canonical.{byte_order}

-- the table with a text, at the end where it was not there before
abbrev pub added : List (List ℕ) → List ℕ → List (List ℕ)
added table text = if list_any (λ t. bytes_eq t text) table then table else table ++ text ∷ []

-- the number of each text
abbrev pub Index : Type 0
Index = BTreeMap (String Global) ℕ

-- the index has just the table's texts, each with its one place
pub record IsIndexed (table : List (List ℕ)) (numbers : Index) : Type 0 where
  pub leads : (text : List ℕ) (n : ℕ) → get_by_text numbers text ≡ Some n → slice_get table n ≡ Some text
  pub finds : (text : List ℕ) (n : ℕ) → slice_get table n ≡ Some text → get_by_text numbers text ≡ Some n

-- two numbers have the same text only where they are the same
pub record HasEachOnce (table : List (List ℕ)) : Type 0 where
  pub each : (one other : ℕ) → one < length table → other < length table →
      (one == other) ≡ bytes_eq (slice_index_or table one []) (slice_index_or table other [])

-- each number has a rank: two ranks are in the order that the bytes of the texts are in
pub record AreRanks (table : List (List ℕ)) (ranks : List ℕ) : Type 0 where
  pub count : length ranks ≡ length table
  pub order : (one other : ℕ) → one < length table → other < length table →
      nat_cmp (slice_index ranks one) (slice_index ranks other)
      ≡ byte_order (slice_index_or table one []) (slice_index_or table other [])

-- Which rows a document keeps.
use Rattle.tree_rows.specs.Shaped.{is_element, IsShaped}
use Rattle.std.specs.Prelude.{◌≡◌, ℕ, suc, List, [], ◌∷◌, ◌++◌, if◌then◌else◌, IsTrue}
use Rattle.xml_spec.specs.Document.{Spells, IsRange}
use Rattle.tree_rows.specs.Rows.{Row, nodes_at}

-- how many of the rows are elements
abbrev pub elements_in : List Row → ℕ
elements_in [] = 0
elements_in (row ∷ rows) = if is_element row.shape then suc (elements_in rows) else elements_in rows

-- each element stands in the text where its row says
abbrev pub HaveRanges : List ℕ → List Row → Type 0
HaveRanges text rows =
    (front back : List Row) (row : Row) → rows ≡ front ++ row ∷ back → IsTrue (is_element row.shape) →
    IsRange text (elements_in front) (record { start = row.start; end = row.end })

-- what a text that was read to its end is
pub record IsRead (text : List ℕ) (rows : List Row) : Type 0 where
  pub spells : Spells text (nodes_at 0 rows)
  pub shaped : IsShaped rows
  pub ranges : HaveRanges text rows

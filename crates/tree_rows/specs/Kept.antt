-- How rows are kept: the attributes of all elements in one list.
use Rattle.std.specs.Prelude.{ℕ, ◌≤◌, List, length, drop, map, slice_range, ⊤}
use Rattle.std.specs.List.{AllByRecursion}
use Rattle.xml_tokens.specs.Views.{attribute_view}
use Rattle.xml_tokens.specs.declared.token.Attribute.{Attribute}
use Rattle.tree_rows.specs.Rows as rows
use Rattle.tree_rows.specs.Views.{RowsView, leaf_shape, row_of}
use Rattle.tree_rows.specs.declared.node.Link.{Link}
use Rattle.tree_rows.specs.declared.rows.Node.{Node}
use Rattle.tree_rows.specs.declared.rows.Node.TheVariants as nodes
use Rattle.tree_rows.specs.declared.rows.Row.{Row}

-- a node whose attributes stand in this list
abbrev pub node_shape : List Attribute → Node → rows.Shape
node_shape list (nodes.Element name from to) = rows.ElementShape name (map attribute_view (slice_range list from to))
node_shape list (nodes.Leaf leaf) = leaf_shape leaf

abbrev pub row_view : List Attribute → Row → rows.Row
row_view list row = row_of row.place (node_shape list row.node)

abbrev pub row_views : List Attribute → List Row → List rows.Row
row_views list kept = map (row_view list) kept

abbrev pub links_of : List Row → List Link
links_of kept = map (λ (row : Row). row.place.link) kept

abbrev pub rows_view : List Row → List Attribute → ℕ → RowsView
rows_view kept list used = record {
  rows = row_views list kept;
  links = links_of kept;
  pending = map attribute_view (drop used list);
}

-- the attributes of a node are among so many
abbrev pub IsWithin : ℕ → Node → Type 0
IsWithin count (nodes.Element name from to) = (from ≤ to) × (to ≤ count)
IsWithin count (nodes.Leaf leaf) = ⊤

abbrev pub AreWithin : ℕ → List Row → Type 0
AreWithin count kept = AllByRecursion (λ (row : Row). IsWithin count row.node) kept

-- those of the rows are the first of the list
pub record IsKept (kept : List Row) (list : List Attribute) (used : ℕ) : Type 0 where
  pub within : AreWithin used kept
  pub inside : used ≤ length list

-- How the definitions see rows.
use Rattle.std.specs.Prelude.{List, [], ◌∷◌, ◌++◌, map}
use Rattle.xml_spec.specs.Tree as tree
use Rattle.xml_spec.specs.Meaning.{line_ends}
use Rattle.xml_tokens.specs.Views.{attribute_view}
use Rattle.tree_rows.specs.Rows as rows
use Rattle.tree_rows.specs.declared.node.Link.{Link}
use Rattle.tree_rows.specs.declared.node.Place.{Place}
use Rattle.tree_rows.specs.declared.node.Leaf.{Leaf}
use Rattle.tree_rows.specs.declared.node.Leaf.TheVariants as leaves
use Rattle.tree_rows.specs.declared.node.Shape.{Shape}
use Rattle.tree_rows.specs.declared.node.Shape.TheVariants as shapes

-- rows with their links, and the attributes of the tag that was read last and is no row so far
pub record RowsView : Type 0 where
  pub rows : List rows.Row
  pub links : List Link
  pub pending : List tree.Attribute

abbrev pub leaf_shape : Leaf → rows.Shape
leaf_shape (leaves.Text text) = rows.TextShape text
leaf_shape (leaves.Comment text) = rows.CommentShape (line_ends text.now)
leaf_shape (leaves.Instruction target value) = rows.InstructionShape target.now (line_ends value.now)

abbrev pub shown_shape : Shape → rows.Shape
shown_shape (shapes.Element name attributes) = rows.ElementShape name.now (map attribute_view attributes.now)
shown_shape (shapes.Leaf leaf) = leaf_shape leaf.now

-- the row of a node at this place
abbrev pub row_of : Place → rows.Shape → rows.Row
row_of place shape = record { depth = place.depth; start = place.span.start; end = place.span.end; shape = shape }

-- one more row, with these attributes left
abbrev pub with_row : RowsView → Place → rows.Shape → List tree.Attribute → RowsView
with_row v place shape pending = record {
  rows = v.rows ++ row_of place shape ∷ [];
  links = v.links ++ place.link ∷ [];
  pending = pending;
}

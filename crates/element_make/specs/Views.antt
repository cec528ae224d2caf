-- How the definitions see what the program keeps.
use Rattle.std.specs.Prelude.{◌≡◌, List, map, reverse, string_bytes}
use Rattle.xml_spec.specs.Tree as tree
use Rattle.element_make.specs.Made as made
use Rattle.element_make.specs.Pieces as pieces
use Rattle.element_make.specs.Writing as writing
use Rattle.element_make.specs.declared.piece.Attribute.{Attribute}
use Rattle.element_make.specs.declared.piece.Tag.{Tag}
use Rattle.element_make.specs.declared.piece.Piece.{Piece}
use Rattle.element_make.specs.declared.tag.Open.{Open}
use Rattle.element_make.specs.declared.tag.Lent.{Lent}
use Rattle.element_make.specs.declared.piece.Piece.TheVariants as kinds

abbrev pub attribute_view : Attribute → tree.Attribute
attribute_view a = record { name = a.name.now; value = string_bytes a.value }

abbrev pub attribute_views : List Attribute → List tree.Attribute
attribute_views attributes = map attribute_view attributes

abbrev pub piece_view : Piece → pieces.Piece
piece_view (kinds.Start tag) = pieces.StartPiece tag.ns tag.local.now (attribute_views tag.attributes.items)
piece_view (kinds.Text text) = pieces.TextPiece (string_bytes text)
piece_view kinds.End = pieces.EndPiece

abbrev pub piece_views : List Piece → List pieces.Piece
piece_views kept = map piece_view kept

-- an element of this tag with this content
abbrev pub made_view : Tag → List Piece → made.Made
made_view tag content = record {
  ns = tag.ns;
  local = tag.local.now;
  attributes = attribute_views tag.attributes.items;
  kids = pieces.content_of (piece_views content);
}

-- attributes that are lent
abbrev pub lent_view : Lent → tree.Attribute
lent_view a = record { name = a.name.now; value = a.value.now }

abbrev pub lent_views : List Lent → List tree.Attribute
lent_views lent = map lent_view lent

abbrev pub open_view : Open → writing.Open
open_view element = record { ns = element.ns; local = element.local.now; inside = element.inside }

-- the open elements, kept with the innermost last
abbrev pub open_views : List Open → List writing.Open
open_views kept = reverse (map open_view kept)

-- the pieces are those of nodes, and the element is one that can be made
pub record IsKept (tag : Tag) (content : List Piece) : Type 0 where
  pub whole : piece_views content ≡ pieces.pieces_of (pieces.content_of (piece_views content))
  pub made : made.IsMade (made_view tag content)

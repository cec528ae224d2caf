-- What is tested of a single element: its depth, how many attributes it has, and that no two names are equal.
use Rattle.std.specs.Prelude.{ℕ, Bool, true, ◌&&◌, length, nat_lt, nat_le}
use Rattle.xml_spec.specs.Syntax.{EmptyTag, Token, Alone, StartTag}
use Rattle.tree_rows.specs.Rows.{Shape, ElementShape, TextShape, CommentShape, InstructionShape}
use Rattle.saml_tree.specs.Run.{shape_of}
use Rattle.xml_spec.specs.declared.TheConstants.{MAX_DEPTH, MAX_ATTRIBUTES}

-- an element that stands in fewer than MAX_DEPTH others has a depth of at most MAX_DEPTH; it has at most MAX_ATTRIBUTES
-- attributes
abbrev pub is_small : ℕ → Shape → Bool
is_small depth (ElementShape name attributes) = nat_lt depth MAX_DEPTH && nat_le (length attributes) MAX_ATTRIBUTES
is_small depth (TextShape text) = true
is_small depth (CommentShape text) = true
is_small depth (InstructionShape target value) = true

-- the limits of the element that a token begins
abbrev pub is_small_token : ℕ → Token → Bool
is_small_token depth (Alone (EmptyTag tag)) = is_small depth (shape_of tag)
is_small_token depth (StartTag tag) = is_small depth (shape_of tag)
is_small_token depth token = true

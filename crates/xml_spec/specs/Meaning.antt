-- What a spelling means: the tree, without the choices of the writer.
use Rattle.std.specs.Prelude.{ℕ, Bool, true, false, ◌&&◌, ◌||◌, ◌==◌, List, [], ◌∷◌, map, if◌then◌else◌}
use Rattle.std.specs.List.{flat_map}
use Rattle.std.specs.Char.{encode_utf8}
use Rattle.xml_spec.specs.Ascii.{tab, line_feed, carriage_return, space_character}
use Rattle.xml_spec.specs.Tree.{Attribute, Nodes, NoNodes, Element, Comment, Instruction, with_text}
use Rattle.xml_spec.specs.Syntax.{character_of, Piece, Literal, Referred, Assignment, Tag, Item, Characters, Refers, Section, CommentItem, ProcessingInstruction, EmptyTag, Content, NoContent, Then, Pair}

-- 2.11 End-of-Line Handling: "translating both the two-character sequence #xD #xA and any #xD that is not
-- followed by #xA to a single #xA character"; the flag says that a #xD stands before
abbrev pub line_ends_after : Bool → List ℕ → List ℕ
line_ends_after return [] = []
line_ends_after return (b ∷ bytes) =
    if b == carriage_return then line_feed ∷ line_ends_after true bytes
    else if return && b == line_feed then line_ends_after false bytes
    else b ∷ line_ends_after false bytes

abbrev pub line_ends : List ℕ → List ℕ
line_ends bytes = line_ends_after false bytes

-- 3.3.3 Attribute-Value Normalization: "for a white space character (#x20, #xD, #xA, #x9), append a space
-- character (#x20) to the normalized value"; "for a character reference, append the referenced character"
abbrev pub as_blank : ℕ → ℕ
as_blank b = if b == tab || b == line_feed then space_character else b

abbrev pub piece_value : Piece → List ℕ
piece_value (Literal bytes) = map as_blank (line_ends bytes)
piece_value (Referred reference) = encode_utf8 (character_of reference)

abbrev pub attribute_of : Assignment → Attribute
attribute_of a = record { name = a.name; value = flat_map piece_value a.pieces }

abbrev pub attributes_of : Tag → List Attribute
attributes_of tag = map attribute_of tag.assignments

-- an item and then the nodes
abbrev pub with_item : Item → Nodes → Nodes
with_item (Characters bytes) nodes = with_text (line_ends bytes) nodes
with_item (Refers reference) nodes = with_text (encode_utf8 (character_of reference)) nodes
with_item (Section bytes) nodes = with_text (line_ends bytes) nodes
with_item (CommentItem bytes) nodes = Comment (line_ends bytes) nodes
with_item (ProcessingInstruction target space value) nodes = Instruction target (line_ends value) nodes
with_item (EmptyTag tag) nodes = Element tag.name (attributes_of tag) NoNodes nodes

abbrev pub nodes_of : Content → Nodes
nodes_of NoContent = NoNodes
nodes_of (Then item rest) = with_item item (nodes_of rest)
nodes_of (Pair tag inner space rest) = Element tag.name (attributes_of tag) (nodes_of inner) (nodes_of rest)

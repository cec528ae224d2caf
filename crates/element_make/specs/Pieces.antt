-- Made nodes as pieces: starts of elements, texts, and ends of elements, in the order in which they are written.
use Rattle.std.specs.Prelude.{ℕ, zero, suc, ◌-◌, List, [], ◌∷◌}
use Rattle.xml_spec.specs.Tree.{Attribute}
use Rattle.element_make.specs.declared.names.Ns.{Ns}
use Rattle.element_make.specs.Made.{MadeNodes, NothingMade, MadeElement, MadeText}

pub data Piece : Type 0 where
  StartPiece : (ns : Ns) (local : List ℕ) (attributes : List Attribute) → Piece
  TextPiece : (text : List ℕ) → Piece
  EndPiece : Piece

-- the pieces of the nodes, and then others
abbrev pub pieces_before : MadeNodes → List Piece → List Piece
pieces_before NothingMade others = others
pieces_before (MadeElement ns local attributes kids rest) others =
    StartPiece ns local attributes ∷ pieces_before kids (EndPiece ∷ pieces_before rest others)
pieces_before (MadeText text rest) others = TextPiece text ∷ pieces_before rest others

abbrev pub pieces_of : MadeNodes → List Piece
pieces_of nodes = pieces_before nodes []

-- the nodes that stand at the place of the first piece, and those that go on behind the end of each element around it,
-- the innermost first
pub record Levels : Type 0 where
  pub here : MadeNodes
  pub outside : List MadeNodes

-- the level of an element that starts here, where what is behind its start has these levels
abbrev pub begun : Ns → List ℕ → List Attribute → MadeNodes → List MadeNodes → Levels
begun ns local attributes kids [] = record { here = MadeElement ns local attributes kids NothingMade; outside = [] }
begun ns local attributes kids (rest ∷ outside) =
    record { here = MadeElement ns local attributes kids rest; outside = outside }

abbrev pub levels_of : List Piece → Levels
levels_of [] = record { here = NothingMade; outside = [] }
levels_of (StartPiece ns local attributes ∷ pieces) =
    let behind = levels_of pieces in begun ns local attributes behind.here behind.outside
levels_of (TextPiece text ∷ pieces) =
    let behind = levels_of pieces in record { here = MadeText text behind.here; outside = behind.outside }
levels_of (EndPiece ∷ pieces) =
    let behind = levels_of pieces in record { here = NothingMade; outside = behind.here ∷ behind.outside }

-- the nodes that pieces are of
abbrev pub content_of : List Piece → MadeNodes
content_of pieces = (levels_of pieces).here

-- in how many elements the next piece stands, behind one that stands in this many
abbrev pub depth_behind : ℕ → Piece → ℕ
depth_behind depth (StartPiece ns local attributes) = suc depth
depth_behind depth (TextPiece text) = depth
depth_behind depth EndPiece = depth - 1

-- one piece, and so many others where an element is open behind it
abbrev pub one_and : ℕ → ℕ → ℕ
one_and zero others = 1
one_and (suc depth) others = suc others

-- how many pieces it takes until no element is open, all where one is at the end
abbrev pub first_length : ℕ → List Piece → ℕ
first_length depth [] = 0
first_length depth (piece ∷ pieces) =
    one_and (depth_behind depth piece) (first_length (depth_behind depth piece) pieces)

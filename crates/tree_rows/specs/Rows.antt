-- A tree as rows: its nodes in document order, each with its depth.
use Rattle.std.specs.Prelude.{ℕ, zero, suc, ◌==◌, List, [], ◌∷◌, slice_index_or, nat_lt, if◌then◌else◌}
use Rattle.xml_spec.specs.Tree.{Attribute, Nodes, NoNodes, Element, Text, Comment, Instruction}

-- a node without its kids
pub data Shape : Type 0 where
  ElementShape : (name : List ℕ) (attributes : List Attribute) → Shape
  TextShape : (text : List ℕ) → Shape
  CommentShape : (text : List ℕ) → Shape
  InstructionShape : (target value : List ℕ) → Shape

-- a node, how many elements it stands in, and the bytes that it is written as, from the first to behind the last
pub record Row : Type 0 where
  pub depth : ℕ
  pub start : ℕ
  pub end : ℕ
  pub shape : Shape

-- the node with these kids, and then the rest
abbrev pub node : Shape → Nodes → Nodes → Nodes
node (ElementShape name attributes) kids rest = Element name attributes kids rest
node (TextShape text) kids rest = Text text rest
node (CommentShape text) kids rest = Comment text rest
node (InstructionShape target value) kids rest = Instruction target value rest

-- the nodes of this depth from the first row on, up to a row that stands less deep
abbrev pub nodes_at : ℕ → List Row → Nodes
nodes_at depth [] = NoNodes
nodes_at depth (row ∷ rows) =
    if row.depth == depth then node row.shape (nodes_at (suc depth) rows) (nodes_at depth rows)
    else if nat_lt depth row.depth then nodes_at depth rows else NoNodes

-- row k, an empty text where there is none
abbrev pub no_row : Row
no_row = record { depth = 0; start = 0; end = 0; shape = TextShape [] }

abbrev pub row_at : List Row → ℕ → Row
row_at rows k = slice_index_or rows k no_row

-- the element ends at this place
abbrev pub ended : ℕ → Row → Row
ended place row = record row { end = place }

-- row n ends at this place
abbrev pub end_at : ℕ → ℕ → List Row → List Row
end_at place n [] = []
end_at place zero (row ∷ rows) = ended place row ∷ rows
end_at place (suc n) (row ∷ rows) = row ∷ end_at place n rows

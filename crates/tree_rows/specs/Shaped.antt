-- The rows of one tree.
use Rattle.std.specs.Prelude.{◌≡◌, suc, ◌≤◌, Bool, true, false, List, [], ◌∷◌, if◌then◌else◌, IsTrue, ⊤}
use Rattle.tree_rows.specs.Rows.{Shape, ElementShape, TextShape, CommentShape, InstructionShape, Row}

abbrev pub is_element : Shape → Bool
is_element (ElementShape name attributes) = true
is_element (TextShape text) = false
is_element (CommentShape text) = false
is_element (InstructionShape target value) = false

-- behind this row, none is as high as the root; none is deeper than the one before it but for the kids of an element
abbrev pub AreBelow : Row → List Row → Type 0
AreBelow before [] = ⊤
AreBelow before (row ∷ rows) =
    (1 ≤ row.depth) × (row.depth ≤ (if is_element before.shape then suc before.depth else before.depth))
    × AreBelow row rows

-- the rows of one tree: first the root, which is an element
abbrev pub IsShaped : List Row → Type 0
IsShaped [] = ⊥
IsShaped (row ∷ rows) = (row.depth ≡ 0) × IsTrue (is_element row.shape) × AreBelow row rows

-- A tree is within the limits where each of its rows is.
use Rattle.std.proofs.Common.{◌≡◌, ℕ, suc, ◌+◌, ◌<◌, ◌≤◌, true, nat_lt, nat_le, List, [], ◌∷◌, length, IsTrue, ◌↔◌, refl, arith}
use Rattle.std.specs.List.{list_all}
use Rattle.xml_spec.specs.Tree as tree
use Rattle.xml_spec.specs.Tree.{Attribute, Nodes, NoNodes, Element, Text, Comment, Instruction, IsWithinLimits, most_attributes}
use Rattle.xml_spec.proofs.Tests.{both_true, and_true}
use Rattle.xml_spec.specs.declared.TheConstants.{MAX_DEPTH, MAX_ATTRIBUTES}
use Rattle.tree_rows.specs.Rows.{Shape, ElementShape, TextShape, CommentShape, InstructionShape, Row, nodes_at}
use Rattle.tree_rows.specs.Shaped.{IsShaped}
use Rattle.saml_tree.specs.RowTests.{is_small}
use Rattle.saml_tree.proofs.Elements.{EachElement, HoldsOf, EachRow, rows_to_tree, tree_to_rows}

abbrev IsSmall : ℕ → List ℕ → List Attribute → Type 0
IsSmall depth name attributes = (depth < MAX_DEPTH) × (length attributes ≤ MAX_ATTRIBUTES)

greatest : (depth : ℕ) (nodes : Nodes) → depth ≤ MAX_DEPTH → EachElement IsSmall depth nodes →
    (depth + tree.depth nodes ≤ MAX_DEPTH) × (most_attributes nodes ≤ MAX_ATTRIBUTES)
greatest depth NoNodes h each = (omega arith, omega arith)
greatest depth (Element name attributes kids rest) h each =
    let deep = each.0.0 in
    let few = each.0.1 in
    let inside = greatest (suc depth) kids (omega arith) each.1 in
    let behind = greatest depth rest h each.2 in
    (omega arith, omega arith)
greatest depth (Text text rest) h each = greatest depth rest h each
greatest depth (Comment text rest) h each = greatest depth rest h each
greatest depth (Instruction target value rest) h each = greatest depth rest h each

each_small : (depth : ℕ) (nodes : Nodes) → depth + tree.depth nodes ≤ MAX_DEPTH → most_attributes nodes ≤ MAX_ATTRIBUTES → EachElement IsSmall depth nodes
each_small depth NoNodes h k = tt
each_small depth (Element name attributes kids rest) h k =
    ((omega arith, omega arith), each_small (suc depth) kids (omega arith) (omega arith), each_small depth rest (omega arith) (omega arith))
each_small depth (Text text rest) h k = each_small depth rest h k
each_small depth (Comment text rest) h k = each_small depth rest h k
each_small depth (Instruction target value rest) h k = each_small depth rest h k

small_shape : (depth : ℕ) (shape : Shape) → is_small depth shape ≡ true → HoldsOf IsSmall depth shape
small_shape depth (ElementShape name attributes) h =
    let both = both_true (nat_lt depth MAX_DEPTH) (nat_le (length attributes) MAX_ATTRIBUTES) h in
    let deep = both.0 in
    let few = both.1 in
    (grind arith, grind arith)
small_shape depth (TextShape text) h = tt
small_shape depth (CommentShape text) h = tt
small_shape depth (InstructionShape target value) h = tt

shape_small : (depth : ℕ) (shape : Shape) → HoldsOf IsSmall depth shape → is_small depth shape ≡ true
shape_small depth (ElementShape name attributes) h =
    let deep = h.0 in
    let few = h.1 in
    and_true (nat_lt depth MAX_DEPTH) (nat_le (length attributes) MAX_ATTRIBUTES) (grind arith) (grind arith)
shape_small depth (TextShape text) h = refl
shape_small depth (CommentShape text) h = refl
shape_small depth (InstructionShape target value) h = refl

small_rows : (rows : List Row) → list_all (λ (r : Row). is_small r.depth r.shape) rows ≡ true → EachRow IsSmall rows
small_rows [] h = tt
small_rows (row ∷ rows) h =
    let both = both_true (is_small row.depth row.shape) _ h in
    (small_shape row.depth row.shape both.0, small_rows rows both.1)

rows_small : (rows : List Row) → EachRow IsSmall rows → list_all (λ (r : Row). is_small r.depth r.shape) rows ≡ true
rows_small [] h = refl
rows_small (row ∷ rows) h = and_true (is_small row.depth row.shape) _ (shape_small row.depth row.shape h.0) (rows_small rows h.1)

pub small_is_within : (rows : List Row) → IsShaped rows →
    IsTrue (list_all (λ (r : Row). is_small r.depth r.shape) rows) ↔ IsWithinLimits (nodes_at 0 rows)
small_is_within rows shaped = (
  λ h. let bounds = greatest 0 (nodes_at 0 rows) (omega arith) (rows_to_tree IsSmall rows 0 (small_rows rows h)) in
      record { depth = omega arith; attributes = bounds.1 },
  λ w. rows_small rows (tree_to_rows IsSmall rows shaped (each_small 0 (nodes_at 0 rows) (let deep = w.depth in omega arith) w.attributes)),
)

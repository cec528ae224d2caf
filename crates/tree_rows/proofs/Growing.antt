-- More attributes behind those of the rows change no row.
use Rattle.std.proofs.Common.{◌≡◌, ℕ, ◌-◌, ◌≤◌, List, [], ◌∷◌, ◌++◌, length, map, take, drop, refl, sym, ◌∙◌, ap, arith}
use Rattle.std.specs.Prelude.{slice_range}
use Rattle.std.proofs.lemmas.List.{take-append-drop, length-take-le, length-drop, take-append-le, drop-append-le}
use Rattle.xml_tokens.specs.Views.{attribute_view, Grows}
use Rattle.xml_tokens.specs.declared.token.Attribute.{Attribute}
use Rattle.tree_rows.specs.Rows as rows
use Rattle.tree_rows.specs.Views.{row_of}
use Rattle.tree_rows.specs.Kept.{node_shape, row_views, AreWithin, IsWithin}
use Rattle.tree_rows.specs.declared.rows.Node.{Node}
use Rattle.tree_rows.specs.declared.rows.Node.TheVariants as nodes
use Rattle.tree_rows.specs.declared.rows.Row.{Row}

in_front : {X : Type 0} (front back : List X) (from to : ℕ) → from ≤ to → to ≤ length front →
    slice_range (front ++ back) from to ≡ slice_range front from to
in_front front back from to h k =
    ap (take (to - from)) (drop-append-le from front back (omega arith))
    ∙ take-append-le (to - from) (drop from front) back (omega (arith, length-drop from front))

node_same : (front back others : List Attribute) (node : Node) → IsWithin (length front) node →
    node_shape (front ++ back) node ≡ node_shape (front ++ others) node
node_same front back others (nodes.Element name from to) h =
    ap (λ (xs : List Attribute). rows.ElementShape name (map attribute_view xs))
    (in_front front back from to h.0 h.1 ∙ sym (in_front front others from to h.0 h.1))
node_same front back others (nodes.Leaf leaf) h = refl

rows_same : (front back others : List Attribute) (kept : List Row) → AreWithin (length front) kept →
    row_views (front ++ back) kept ≡ row_views (front ++ others) kept
rows_same front back others [] h = refl
rows_same front back others (row ∷ kept) h =
    (λ i. row_of row.place (node_same front back others row.node h.0 i) ∷ rows_same front back others kept h.1 i)

within_front : (kept : List Row) (m n : ℕ) → m ≡ n → AreWithin m kept → AreWithin n kept
within_front [] m n e h = h
within_front (row ∷ kept) m n e h = (node_within row.node h.0, within_front kept m n e h.1)
  where
    node_within : (node : Node) → IsWithin m node → IsWithin n node
    node_within (nodes.Element name from to) k = (k.0, omega arith)
    node_within (nodes.Leaf leaf) k = k

-- the attributes behind those of the rows are taken away, and others are put there
pub rows_stay : (kept : List Row) (list after : List Attribute) (used : ℕ) → AreWithin used kept → used ≤ length list → Grows (take used list) after →
    row_views after kept ≡ row_views list kept
rows_stay kept list after used within inside grows =
    let front = take used list in
    ap (λ (xs : List Attribute). row_views xs kept) grows.1
    ∙ rows_same front grows.0 (drop used list) kept (within_front kept used (length front) (sym (length-take-le used list inside)) within)
    ∙ ap (λ (xs : List Attribute). row_views xs kept) (take-append-drop used list)

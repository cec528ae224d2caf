-- The IDs of a tree are those of its rows, in order.
use Rattle.std.proofs.Common.{◌≡◌, ℕ, suc, ◌+◌, ◌<◌, ◌≤◌, if◌then◌else◌, ltb, List, [], ◌∷◌, ◌++◌, length, map, take, drop, refl, sym, ap, ◌∙◌, subst, append_assoc, add-one, take-append-drop, Bor, inl, inr, arith}
use Rattle.std.proofs.Math.Seq.{take-suc}
use Rattle.std.proofs.lemmas.Bool.{cases_order, cond-true, cond-false, lt-ltb, le-ltb}
use Rattle.std.proofs.lemmas.List.{length-take-le, append-nil, take_all}
use Rattle.std.specs.List.{filter_map}
use Rattle.xml_spec.specs.Tree.{Nodes, NoNodes}
use Rattle.xml_spec.specs.Numbering.{size}
use Rattle.xml_spec.specs.Identifiers.{Identifier, identifier_at, identifiers_from, identifiers, IsSingle}
use Rattle.tree_rows.specs.Rows.{Shape, ElementShape, TextShape, CommentShape, InstructionShape, Row, node, nodes_at, no_row, row_at}
use Rattle.tree_rows.specs.Shaped.{IsShaped}
use Rattle.saml_tree.specs.Index.{AreOnce, own_identifiers, row_identifiers}
use Rattle.saml_tree.specs.Links.{depths_of}
use Rattle.xml_tokens.specs.Views.{attribute_view}
use Rattle.xml_tokens.specs.declared.token.Attribute.{Attribute}
use Rattle.tree_rows.specs.Views.{leaf_shape, shown_shape}
use Rattle.tree_rows.specs.declared.node.Leaf.{Leaf}
use Rattle.tree_rows.specs.declared.node.Leaf.TheVariants as leaves
use Rattle.tree_rows.specs.declared.node.Shape as kept
use Rattle.tree_rows.specs.declared.node.Shape.TheVariants as shapes
use Rattle.saml_tree.proofs.Within.{within, within_out, within_in}
use Rattle.saml_tree.proofs.Nodes.{HasRoom}
use Rattle.saml_tree.proofs.Places.{limit, Steps, steps_of, limit_most, nodes_same, nodes_deeper, nodes_less, within_past, room_of, none_twice_deeper, kids_sized}
use Rattle.saml_tree.proofs.Indexing.{once_front}

-- the IDs of the rows from the first on that stand at a depth or deeper
abbrev ids_within : ℕ → ℕ → List Row → List Identifier
ids_within d k [] = []
ids_within d k (row ∷ rows) = if ltb row.depth d then [] else own_identifiers k row.shape ++ ids_within d (suc k) rows

ids_out : (d k : ℕ) (row : Row) (rows : List Row) → row.depth < d → ids_within d k (row ∷ rows) ≡ []
ids_out d k row rows h = cond-true (ltb row.depth d) _ _ (lt-ltb row.depth d h)

ids_in : (d k : ℕ) (row : Row) (rows : List Row) → d ≤ row.depth →
    ids_within d k (row ∷ rows) ≡ own_identifiers k row.shape ++ ids_within d (suc k) rows
ids_in d k row rows h = cond-false (ltb row.depth d) _ _ (le-ltb row.depth d h)

ids_past : (d top k : ℕ) (rows : List Row) → Steps top rows → top < d → ids_within d k rows ≡ []
ids_past d top k [] h past = refl
ids_past d top k (row ∷ rows) h past = ids_out d k row rows (omega (arith, h.0))

ids_all : (k : ℕ) (rows : List Row) → ids_within 0 k rows ≡ row_identifiers k rows
ids_all k [] = refl
ids_all k (row ∷ rows) = ids_in 0 k row rows (omega arith) ∙ ap (λ ids. own_identifiers k row.shape ++ ids) (ids_all (suc k) rows)

ids_of_leaf : (k : ℕ) (kids rest : Nodes) → kids ≡ NoNodes →
    identifiers_from (suc k) rest ≡ identifiers_from (suc k) kids ++ identifiers_from (suc (k + size kids)) rest
ids_of_leaf k kids rest none =
    let number : suc k ≡ suc (k + size kids) = omega (arith, ap size none) in
    ap (λ n. identifiers_from n rest) number
    ∙ ap (λ nodes. identifiers_from (suc k) nodes ++ identifiers_from (suc (k + size kids)) rest) (sym none)

ids_of_node : (k : ℕ) (shape : Shape) (kids rest : Nodes) → HasRoom shape kids →
    identifiers_from k (node shape kids rest)
    ≡ own_identifiers k shape ++ identifiers_from (suc k) kids ++ identifiers_from (suc (k + size kids)) rest
ids_of_node k (ElementShape name attributes) kids rest room = refl
ids_of_node k (TextShape text) kids rest room = ids_of_leaf k kids rest (room refl)
ids_of_node k (CommentShape text) kids rest room = ids_of_leaf k kids rest (room refl)
ids_of_node k (InstructionShape target value) kids rest room = ids_of_leaf k kids rest (room refl)

-- the rows at a depth or deeper: those that are deeper and come first, and then the list of that depth
abbrev Identified : ℕ → ℕ → List Row → Type 0
Identified d k rows =
    ids_within d k rows ≡ ids_within (suc d) k rows ++ identifiers_from (k + within (suc d) (depths_of rows)) (nodes_at d rows)

ids_of_kids : (k : ℕ) (row : Row) (rows : List Row) → Steps (limit row) rows → Identified (suc row.depth) (suc k) rows →
    ids_within (suc row.depth) (suc k) rows ≡ identifiers_from (suc k) (nodes_at (suc row.depth) rows)
ids_of_kids k row rows h kids =
    let deepest : limit row < suc (suc row.depth) = omega (arith, limit_most row) in
    let number : suc k + within (suc (suc row.depth)) (depths_of rows) ≡ suc k = omega (arith, none_twice_deeper row rows h) in
    kids
    ∙ ap (λ ids. ids ++ identifiers_from (suc k + within (suc (suc row.depth)) (depths_of rows)) (nodes_at (suc row.depth) rows))
    (ids_past (suc (suc row.depth)) (limit row) (suc k) rows h deepest)
    ∙ ap (λ n. identifiers_from n (nodes_at (suc row.depth) rows)) number

identified_here : (k : ℕ) (row : Row) (rows : List Row) → Steps (limit row) rows → Identified (suc row.depth) (suc k) rows →
    Identified row.depth (suc k) rows → Identified row.depth k (row ∷ rows)
identified_here k row rows h kids rest =
    let d = row.depth in
    let mine = own_identifiers k row.shape in
    let behind = nodes_at d rows in
    let number : suc k + within (suc d) (depths_of rows) ≡ suc (k + size (nodes_at (suc d) rows)) = omega (arith, kids_sized row rows h) in
    let first : k ≡ k + within (suc d) (depths_of (row ∷ rows)) = omega (arith, within_out (suc d) row.depth (depths_of rows) (omega arith)) in
    ids_in d k row rows (omega arith)
    ∙ ap (λ ids. mine ++ ids) rest
    ∙ ap (λ ids. mine ++ (ids ++ identifiers_from (suc k + within (suc d) (depths_of rows)) behind)) (ids_of_kids k row rows h kids)
    ∙ ap (λ n. mine ++ (identifiers_from (suc k) (nodes_at (suc d) rows) ++ identifiers_from n behind)) number
    ∙ sym (append_assoc mine (identifiers_from (suc k) (nodes_at (suc d) rows)) (identifiers_from (suc (k + size (nodes_at (suc d) rows))) behind))
    ∙ sym (ids_of_node k row.shape (nodes_at (suc d) rows) behind (room_of row rows h))
    ∙ ap (identifiers_from k) (sym (nodes_same row rows))
    ∙ ap (λ n. identifiers_from n (nodes_at d (row ∷ rows))) first
    ∙ ap (λ ids. ids ++ identifiers_from (k + within (suc d) (depths_of (row ∷ rows))) (nodes_at d (row ∷ rows)))
    (sym (ids_out (suc d) k row rows (omega arith)))

identified_less : (d k : ℕ) (row : Row) (rows : List Row) → row.depth < d → Identified d k (row ∷ rows)
identified_less d k row rows h =
    let none : identifiers_from (k + within (suc d) (depths_of (row ∷ rows))) (nodes_at d (row ∷ rows)) ≡ [] =
    ap (identifiers_from (k + within (suc d) (depths_of (row ∷ rows)))) (nodes_less d row rows h) in
    ids_out d k row rows h
    ∙ sym (ids_out (suc d) k row rows (omega arith))
    ∙ sym (append-nil (ids_within (suc d) k (row ∷ rows)))
    ∙ ap (λ ids. ids_within (suc d) k (row ∷ rows) ++ ids) (sym none)

identified_more : (d k : ℕ) (row : Row) (rows : List Row) → d < row.depth → Identified d (suc k) rows → Identified d k (row ∷ rows)
identified_more d k row rows h behind =
    let mine = own_identifiers k row.shape in
    let number : suc k + within (suc d) (depths_of rows) ≡ k + within (suc d) (depths_of (row ∷ rows)) =
    omega (arith, within_in (suc d) row.depth (depths_of rows) h) in
    ids_in d k row rows (omega arith)
    ∙ ap (λ ids. mine ++ ids) behind
    ∙ sym (append_assoc mine (ids_within (suc d) (suc k) rows) (identifiers_from (suc k + within (suc d) (depths_of rows)) (nodes_at d rows)))
    ∙ ap (λ ids. ids ++ identifiers_from (suc k + within (suc d) (depths_of rows)) (nodes_at d rows)) (sym (ids_in (suc d) k row rows h))
    ∙ ap (λ n. ids_within (suc d) k (row ∷ rows) ++ identifiers_from n (nodes_at d rows)) number
    ∙ ap (λ nodes. ids_within (suc d) k (row ∷ rows) ++ identifiers_from (k + within (suc d) (depths_of (row ∷ rows))) nodes)
    (sym (nodes_deeper d row rows h))

identified : (d top k : ℕ) (rows : List Row) → Steps top rows → Identified d k rows
identified d top k [] h = refl
identified d top k (row ∷ rows) h = elim (cases_order row.depth d) [
  | inl same ↦
      subst (λ (e : ℕ). Identified e k (row ∷ rows)) same
      (identified_here k row rows h.1 (identified (suc row.depth) (limit row) (suc k) rows h.1) (identified row.depth (limit row) (suc k) rows h.1))
  | inr other ↦ elim other [
    | inl less ↦ identified_less d k row rows less
    | inr more ↦ identified_more d k row rows more (identified d (limit row) (suc k) rows h.1)
  ]
]

pub tree_ids : (rows : List Row) → IsShaped rows → identifiers (nodes_at 0 rows) ≡ row_identifiers 0 rows
tree_ids rows shaped =
    let steps = steps_of rows shaped in
    let number : 0 ≡ 0 + within 1 (depths_of rows) = omega (arith, within_past 1 0 rows steps (omega arith)) in
    ap (λ n. identifiers_from n (nodes_at 0 rows)) number
    ∙ ap (λ ids. ids ++ identifiers_from (0 + within 1 (depths_of rows)) (nodes_at 0 rows)) (sym (ids_past 1 0 0 rows steps (omega arith)))
    ∙ sym (identified 0 0 0 rows steps)
    ∙ ids_all 0 rows

-- the IDs of rows and then of others
ids_append : (k : ℕ) (front back : List Row) → row_identifiers k (front ++ back) ≡ row_identifiers k front ++ row_identifiers (k + length front) back
ids_append k [] back = ap (λ n. row_identifiers n back) (let same : k ≡ k + 0 = omega arith in same)
ids_append k (row ∷ front) back =
    let number : suc k + length front ≡ k + length (row ∷ front) = omega arith in
    ap (λ ids. own_identifiers k row.shape ++ ids) (ids_append (suc k) front back)
    ∙ sym (append_assoc (own_identifiers k row.shape) (row_identifiers (suc k) front) (row_identifiers (suc k + length front) back))
    ∙ ap (λ n. (own_identifiers k row.shape ++ row_identifiers (suc k) front) ++ row_identifiers n back) number

-- the IDs of the first rows
abbrev pub ids_before : List Row → ℕ → List Identifier
ids_before rows k = row_identifiers 0 (take k rows)

row_more : (rows : List Row) (k : ℕ) → k < length rows → ids_before rows (k + 1) ≡ ids_before rows k ++ own_identifiers k (row_at rows k).shape
row_more rows k h =
    let counted : 0 + length (take k rows) ≡ k = omega (arith, length-take-le k rows (omega arith)) in
    ap (ids_before rows) (add-one k)
    ∙ ap (row_identifiers 0) (take-suc rows k no_row h)
    ∙ ids_append 0 (take k rows) (row_at rows k ∷ [])
    ∙ ap (λ n. ids_before rows k ++ row_identifiers n (row_at rows k ∷ [])) counted
    ∙ ap (λ ids. ids_before rows k ++ ids) (append-nil (own_identifiers k (row_at rows k).shape))

-- an element has the IDs among its attributes
pub element_more : (rows : List Row) (k : ℕ) (shape : kept.Shape) (name : Bor (List ℕ)) (attributes : Bor (List Attribute)) → k < length rows →
    shown_shape shape ≡ (row_at rows k).shape → shape ≡ shapes.Element name attributes →
    ids_before rows (k + 1) ≡ ids_before rows k ++ filter_map (identifier_at k) (map attribute_view attributes.now)
element_more rows k shape name attributes h seen is =
    row_more rows k h ∙ ap (λ s. ids_before rows k ++ own_identifiers k s) (sym seen ∙ ap shown_shape is)

leaf_ids : (k : ℕ) (leaf : Leaf) → own_identifiers k (leaf_shape leaf) ≡ []
leaf_ids k (leaves.Text text) = refl
leaf_ids k (leaves.Comment text) = refl
leaf_ids k (leaves.Instruction target value) = refl

-- what is no element has none
no_own_ids : (k : ℕ) (shape : kept.Shape) →
    ((name : Bor (List ℕ)) (attributes : Bor (List Attribute)) → shape ≡ shapes.Element name attributes → ⊥) → own_identifiers k (shown_shape shape) ≡ []
no_own_ids k (shapes.Element name attributes) other = absurd (other name attributes refl)
no_own_ids k (shapes.Leaf leaf) other = leaf_ids k leaf.now

pub other_more : (rows : List Row) (k : ℕ) (shape : kept.Shape) → k < length rows → shown_shape shape ≡ (row_at rows k).shape →
    ((name : Bor (List ℕ)) (attributes : Bor (List Attribute)) → shape ≡ shapes.Element name attributes → ⊥) → ids_before rows (k + 1) ≡ ids_before rows k
other_more rows k shape h seen other =
    row_more rows k h
    ∙ ap (λ s. ids_before rows k ++ own_identifiers k s) (sym seen)
    ∙ ap (λ ids. ids_before rows k ++ ids) (no_own_ids k shape other)
    ∙ append-nil (ids_before rows k)

-- where no value stands twice in the tree, none does among the first rows
pub once_rows : (rows : List Row) (k : ℕ) → IsShaped rows → IsSingle (nodes_at 0 rows) → AreOnce (ids_before rows k)
once_rows rows k shaped single =
    let split : identifiers (nodes_at 0 rows) ≡ ids_before rows k ++ row_identifiers (0 + length (take k rows)) (drop k rows) =
    tree_ids rows shaped ∙ ap (row_identifiers 0) (sym (take-append-drop k rows)) ∙ ids_append 0 (take k rows) (drop k rows) in
    once_front (ids_before rows k) (row_identifiers (0 + length (take k rows)) (drop k rows)) (subst AreOnce split single.once)

-- all rows are those of the tree
pub all_rows : (rows : List Row) (k : ℕ) → length rows ≤ k → IsShaped rows → ids_before rows k ≡ identifiers (nodes_at 0 rows)
all_rows rows k h shaped = ap (row_identifiers 0) (take_all k rows h) ∙ sym (tree_ids rows shaped)

-- What holds of each element of a tree is what holds of each element among its rows.
use Rattle.std.proofs.Common.{◌≡◌, ℕ, suc, ◌<◌, ◌≤◌, Bool, true, false, cond, ◌==◌, nat_lt, List, [], ◌∷◌, IsTrue, refl, sym, subst, inl, inr, arith}
use Rattle.std.specs.Bool.{⊤}
use Rattle.std.specs.List.{AllByRecursion}
use Rattle.std.proofs.lemmas.Bool.{cases_order}
use Rattle.xml_spec.specs.Tree.{Attribute, Nodes, NoNodes, Element, Text, Comment, Instruction}
use Rattle.tree_rows.specs.Rows.{Shape, ElementShape, TextShape, CommentShape, InstructionShape, Row, node, nodes_at}
use Rattle.tree_rows.specs.Shaped.{is_element, AreBelow, IsShaped}
use Rattle.saml_tree.proofs.Contents.{at_depth}
use Rattle.saml_tree.proofs.Places.{nodes_deeper}

-- it holds of each element of the nodes, of which those of the list itself stand in this many others
abbrev pub EachElement : (ℕ → List ℕ → List Attribute → Type 0) → ℕ → Nodes → Type 0
EachElement P depth NoNodes = ⊤
EachElement P depth (Element name attributes kids rest) =
    P depth name attributes × EachElement P (suc depth) kids × EachElement P depth rest
EachElement P depth (Text text rest) = EachElement P depth rest
EachElement P depth (Comment text rest) = EachElement P depth rest
EachElement P depth (Instruction target value rest) = EachElement P depth rest

-- it holds of the node, if that is an element
abbrev pub HoldsOf : (ℕ → List ℕ → List Attribute → Type 0) → ℕ → Shape → Type 0
HoldsOf P depth (ElementShape name attributes) = P depth name attributes
HoldsOf P depth (TextShape text) = ⊤
HoldsOf P depth (CommentShape text) = ⊤
HoldsOf P depth (InstructionShape target value) = ⊤

abbrev pub EachRow : (ℕ → List ℕ → List Attribute → Type 0) → List Row → Type 0
EachRow P rows = AllByRecursion (λ (r : Row). HoldsOf P r.depth r.shape) rows

holds_of_node : (P : ℕ → List ℕ → List Attribute → Type 0) (depth : ℕ) (shape : Shape) (kids rest : Nodes) →
    HoldsOf P depth shape → EachElement P (suc depth) kids → EachElement P depth rest → EachElement P depth (node shape kids rest)
holds_of_node P depth (ElementShape name attributes) kids rest h k r = (h, k, r)
holds_of_node P depth (TextShape text) kids rest h k r = r
holds_of_node P depth (CommentShape text) kids rest h k r = r
holds_of_node P depth (InstructionShape target value) kids rest h k r = r

pub rows_to_tree : (P : ℕ → List ℕ → List Attribute → Type 0) (rows : List Row) (depth : ℕ) → EachRow P rows → EachElement P depth (nodes_at depth rows)
rows_to_tree P [] depth h = tt
rows_to_tree P (row ∷ rows) depth h =
    by_tests (row.depth == depth) (nat_lt depth row.depth) refl (rows_to_tree P rows (suc depth) h.1) (rows_to_tree P rows depth h.1)
  where
    by_tests : (a b : Bool) → (row.depth == depth) ≡ a →
        EachElement P (suc depth) (nodes_at (suc depth) rows) → EachElement P depth (nodes_at depth rows) →
        EachElement P depth (cond a (node row.shape (nodes_at (suc depth) rows) (nodes_at depth rows)) (cond b (nodes_at depth rows) NoNodes))
    by_tests true b e kids rest =
        let same : row.depth ≡ depth = grind arith in
        holds_of_node P depth row.shape (nodes_at (suc depth) rows) (nodes_at depth rows)
        (subst (λ (d : ℕ). HoldsOf P d row.shape) same h.0) kids rest
    by_tests false true e kids rest = rest
    by_tests false false e kids rest = tt

-- what holds of a list holds of its first node, of the kids of that, and of the rest
holds_of_parts : (P : ℕ → List ℕ → List Attribute → Type 0) (depth : ℕ) (shape : Shape) (kids rest : Nodes) →
    EachElement P depth (node shape kids rest) →
    HoldsOf P depth shape × (IsTrue (is_element shape) → EachElement P (suc depth) kids) × EachElement P depth rest
holds_of_parts P depth (ElementShape name attributes) kids rest h = (h.0, λ _. h.1, h.2)
holds_of_parts P depth (TextShape text) kids rest h = (tt, λ e. absurd (let clash : false ≡ true = e in cc), h)
holds_of_parts P depth (CommentShape text) kids rest h = (tt, λ e. absurd (let clash : false ≡ true = e in cc), h)
holds_of_parts P depth (InstructionShape target value) kids rest h = (tt, λ e. absurd (let clash : false ≡ true = e in cc), h)

-- how deep the row behind this one may be
abbrev deepest : Row → ℕ
deepest before = cond (is_element before.shape) (suc before.depth) before.depth

-- it holds of the nodes of each depth that the next row may have
abbrev HoldsBelow : (ℕ → List ℕ → List Attribute → Type 0) → Row → List Row → Type 0
HoldsBelow P before rows = (depth : ℕ) → depth ≤ deepest before → EachElement P depth (nodes_at depth rows)

holds_behind : (P : ℕ → List ℕ → List Attribute → Type 0) (row : Row) (rows : List Row) →
    (IsTrue (is_element row.shape) → EachElement P (suc row.depth) (nodes_at (suc row.depth) rows)) →
    EachElement P row.depth (nodes_at row.depth rows) →
    ((depth : ℕ) → depth < row.depth → EachElement P depth (nodes_at depth rows)) → HoldsBelow P row rows
holds_behind P row rows in_kids in_rest in_less depth h = elim (cases_order depth row.depth) [
  | inl same ↦ subst (λ (d : ℕ). EachElement P d (nodes_at d rows)) (sym same) in_rest
  | inr other ↦ elim other [
    | inl less ↦ in_less depth less
    | inr more ↦ deeper (is_element row.shape) refl h more
  ]
]
  where
    deeper : (b : Bool) → is_element row.shape ≡ b → depth ≤ cond b (suc row.depth) row.depth → row.depth < depth →
        EachElement P depth (nodes_at depth rows)
    deeper true e k more =
        let same : suc row.depth ≡ depth = omega arith in
        subst (λ (d : ℕ). EachElement P d (nodes_at d rows)) same (in_kids e)
    deeper false e k more = absurd (omega arith)

holds_of_row : (P : ℕ → List ℕ → List Attribute → Type 0) (row : Row) (rows : List Row) →
    EachElement P row.depth (nodes_at row.depth (row ∷ rows)) →
    HoldsOf P row.depth row.shape × (IsTrue (is_element row.shape) → EachElement P (suc row.depth) (nodes_at (suc row.depth) rows))
    × EachElement P row.depth (nodes_at row.depth rows)
holds_of_row P row rows h =
    holds_of_parts P row.depth row.shape (nodes_at (suc row.depth) rows) (nodes_at row.depth rows)
    (subst (EachElement P row.depth) (at_depth row rows) h)

holds_of_rows : (P : ℕ → List ℕ → List Attribute → Type 0) (before : Row) (rows : List Row) → AreBelow before rows →
    HoldsBelow P before rows → EachRow P rows
holds_of_rows P before [] below h = tt
holds_of_rows P before (row ∷ rows) below h =
    let here = holds_of_row P row rows (h row.depth below.1) in
    let less = λ (depth : ℕ) (k : depth < row.depth).
    subst (EachElement P depth) (nodes_deeper depth row rows k) (h depth (let low = below.1 in omega arith)) in
    (here.0, holds_of_rows P row rows below.2 (holds_behind P row rows here.1 here.2 less))

pub tree_to_rows : (P : ℕ → List ℕ → List Attribute → Type 0) (rows : List Row) → IsShaped rows →
    EachElement P 0 (nodes_at 0 rows) → EachRow P rows
tree_to_rows P [] shaped h = absurd shaped
tree_to_rows P (row ∷ rows) shaped h =
    let here = holds_of_row P row rows (subst (λ (d : ℕ). EachElement P d (nodes_at d (row ∷ rows))) (sym shaped.0) h) in (
      here.0,
      holds_of_rows P row rows shaped.2
          (holds_behind P row rows here.1 here.2 (λ depth less. absurd (let root = shaped.0 in omega arith))),
    )

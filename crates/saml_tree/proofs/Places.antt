-- The nodes of rows: which rows stand in a node, and which follow it.
use Rattle.std.proofs.Common.{◌≡◌, ℕ, zero, suc, ◌+◌, ◌-◌, ◌<◌, ◌≤◌, cond, if◌then◌else◌, eqb, ltb, List, [], ◌∷◌, get_or, drop, None, refl, sym, ap, ◌∙◌, subst, inl, inr, arith}
use Rattle.std.specs.Bool.{⊤}
use Rattle.std.proofs.lemmas.Bool.{cases_lt, cases_order, cond-true, cond-false, eq-eqb, ne_eqb, lt-ltb, le-ltb}
use Rattle.xml_spec.specs.Tree.{Nodes, NoNodes}
use Rattle.xml_spec.specs.Numbering.{size, from_node, parent_of}
use Rattle.tree_rows.specs.Rows.{Shape, ElementShape, TextShape, CommentShape, InstructionShape, Row, node, nodes_at}
use Rattle.tree_rows.specs.Shaped.{is_element, AreBelow, IsShaped}
use Rattle.saml_tree.specs.Links.{depths_of}
use Rattle.saml_tree.proofs.Within.{within, within_out, within_in, within_deep}
use Rattle.saml_tree.proofs.Nodes.{HasRoom, size_of_node, node_at_zero, node_at_kid, node_at_rest, parent_zero, parent_rest}

-- how deep the next row may stand
abbrev pub limit : Row → ℕ
limit row = if is_element row.shape then suc row.depth else row.depth

-- the first row is at most so deep, and each other one as deep as the one before it lets it be
abbrev pub Steps : ℕ → List Row → Type 0
Steps top [] = ⊤
Steps top (row ∷ rows) = (row.depth ≤ top) × Steps (limit row) rows

steps_below : (before : Row) (rows : List Row) → AreBelow before rows → Steps (limit before) rows
steps_below before [] h = tt
steps_below before (row ∷ rows) h = (h.1, steps_below row rows h.2)

pub steps_of : (rows : List Row) → IsShaped rows → Steps 0 rows
steps_of [] h = absurd h
steps_of (row ∷ rows) h = (let root : row.depth ≡ 0 = h.0 in omega arith, steps_below row rows h.2)

limit_of_shape : (shape : Shape) (depth : ℕ) → cond (is_element shape) (suc depth) depth ≤ suc depth
limit_of_shape (ElementShape name attributes) depth = omega arith
limit_of_shape (TextShape text) depth = omega arith
limit_of_shape (CommentShape text) depth = omega arith
limit_of_shape (InstructionShape target value) depth = omega arith

pub limit_most : (row : Row) → limit row ≤ suc row.depth
limit_most row = limit_of_shape row.shape row.depth

-- the first of these rows as a node
abbrev pub own : List Row → Nodes
own [] = NoNodes
own (row ∷ rows) = node row.shape (nodes_at (suc row.depth) rows) (nodes_at row.depth rows)

pub nodes_same : (row : Row) (rows : List Row) → nodes_at row.depth (row ∷ rows) ≡ own (row ∷ rows)
nodes_same row rows = cond-true (eqb row.depth row.depth) _ _ (eq-eqb row.depth row.depth refl)

pub nodes_deeper : (d : ℕ) (row : Row) (rows : List Row) → d < row.depth → nodes_at d (row ∷ rows) ≡ nodes_at d rows
nodes_deeper d row rows h =
    cond-false (eqb row.depth d) _ _ (ne_eqb row.depth d (λ e. omega arith)) ∙ cond-true (ltb d row.depth) _ _ (lt-ltb d row.depth h)

pub nodes_less : (d : ℕ) (row : Row) (rows : List Row) → row.depth < d → nodes_at d (row ∷ rows) ≡ NoNodes
nodes_less d row rows h =
    cond-false (eqb row.depth d) _ _ (ne_eqb row.depth d (λ e. omega arith)) ∙ cond-false (ltb d row.depth) _ _ (le-ltb d row.depth (omega arith))

pub nodes_past : (d top : ℕ) (rows : List Row) → Steps top rows → top < d → nodes_at d rows ≡ NoNodes
nodes_past d top [] h past = refl
nodes_past d top (row ∷ rows) h past = nodes_less d row rows (omega (arith, h.0))

pub within_past : (d top : ℕ) (rows : List Row) → Steps top rows → top < d → within d (depths_of rows) ≡ 0
within_past d top [] h past = refl
within_past d top (row ∷ rows) h past = within_out d row.depth (depths_of rows) (omega (arith, h.0))

pub room_of : (row : Row) (rows : List Row) → Steps (limit row) rows → HasRoom row.shape (nodes_at (suc row.depth) rows)
room_of row rows h leaf =
    let at : limit row ≡ row.depth = cond-false (is_element row.shape) (suc row.depth) row.depth leaf in
    nodes_past (suc row.depth) (limit row) rows h (omega arith)

pub none_twice_deeper : (row : Row) (rows : List Row) → Steps (limit row) rows → within (suc (suc row.depth)) (depths_of rows) ≡ 0
none_twice_deeper row rows h = within_past (suc (suc row.depth)) (limit row) rows h (omega (arith, limit_most row))

-- the nodes at a depth are the rows from there up to the first that is less deep, but for deeper ones in front
sized_here : (row : Row) (rows : List Row) → Steps (limit row) rows →
    size (nodes_at (suc row.depth) rows) + within (suc (suc row.depth)) (depths_of rows) ≡ within (suc row.depth) (depths_of rows) →
    size (nodes_at row.depth rows) + within (suc row.depth) (depths_of rows) ≡ within row.depth (depths_of rows) →
    size (nodes_at row.depth (row ∷ rows)) + within (suc row.depth) (depths_of (row ∷ rows)) ≡ within row.depth (depths_of (row ∷ rows))
sized_here row rows h kids rest =
    let whole : size (nodes_at row.depth (row ∷ rows)) ≡ size (own (row ∷ rows)) = ap size (nodes_same row rows) in
    let parts = size_of_node row.shape (nodes_at (suc row.depth) rows) (nodes_at row.depth rows) (room_of row rows h) in
    let none = none_twice_deeper row rows h in
    let out = within_out (suc row.depth) row.depth (depths_of rows) (omega arith) in
    let one = within_in row.depth row.depth (depths_of rows) (omega arith) in
    omega (arith, whole, parts, none, out, one, kids, rest)

pub sized : (d top : ℕ) (rows : List Row) → Steps top rows →
    size (nodes_at d rows) + within (suc d) (depths_of rows) ≡ within d (depths_of rows)
sized d top [] h = refl
sized d top (row ∷ rows) h = elim (cases_order row.depth d) [
  | inl same ↦
      subst (λ (e : ℕ). size (nodes_at e (row ∷ rows)) + within (suc e) (depths_of (row ∷ rows)) ≡ within e (depths_of (row ∷ rows))) same
      (sized_here row rows h.1 (sized (suc row.depth) (limit row) rows h.1) (sized row.depth (limit row) rows h.1))
  | inr other ↦ elim other [
    | inl less ↦
        omega (arith, ap size (nodes_less d row rows less), within_out d row.depth (depths_of rows) less, within_out (suc d) row.depth (depths_of rows) (omega arith))
    | inr more ↦
        omega (arith, ap size (nodes_deeper d row rows more), within_in d row.depth (depths_of rows) (omega arith), within_in (suc d) row.depth (depths_of rows) (omega arith), sized d (limit row) rows h.1)
  ]
]

pub kids_sized : (row : Row) (rows : List Row) → Steps (limit row) rows →
    size (nodes_at (suc row.depth) rows) ≡ within (suc row.depth) (depths_of rows)
kids_sized row rows h =
    let all = sized (suc row.depth) (limit row) rows h in
    omega (arith, none_twice_deeper row rows h)

-- how far into the rows node k of them stands
abbrev pub place : ℕ → List Row → ℕ → ℕ
place d rows k = within (suc d) (depths_of rows) + k

pub rows_of_kid : (row : Row) (rows : List Row) (k : ℕ) → Steps (limit row) rows → place (suc row.depth) rows k ≡ k
rows_of_kid row rows k h = omega (arith, none_twice_deeper row rows h)

pub rows_of_rest : (row : Row) (rows : List Row) (k : ℕ) → Steps (limit row) rows →
    size (nodes_at (suc row.depth) rows) ≤ k → place row.depth rows (k - size (nodes_at (suc row.depth) rows)) ≡ k
rows_of_rest row rows k h past = omega (arith, kids_sized row rows h)

pub place_here : (row : Row) (rows : List Row) (k : ℕ) → place row.depth (row ∷ rows) k ≡ k
place_here row rows k = omega (arith, within_out (suc row.depth) row.depth (depths_of rows) (omega arith))

pub place_deeper : (d : ℕ) (row : Row) (rows : List Row) (k : ℕ) → d < row.depth → place d (row ∷ rows) k ≡ suc (place d rows k)
place_deeper d row rows k h = omega (arith, within_in (suc d) row.depth (depths_of rows) h)

pub size_here : (row : Row) (rows : List Row) → Steps (limit row) rows →
    size (nodes_at row.depth (row ∷ rows)) ≡ suc (size (nodes_at (suc row.depth) rows) + size (nodes_at row.depth rows))
size_here row rows h =
    ap size (nodes_same row rows)
    ∙ size_of_node row.shape (nodes_at (suc row.depth) rows) (nodes_at row.depth rows) (room_of row rows h)

-- node k is the row at its place
found_here : (row : Row) (rows : List Row) (k : ℕ) → Steps (limit row) rows →
    ((i : ℕ) → i < size (nodes_at (suc row.depth) rows) → from_node (nodes_at (suc row.depth) rows) i ≡ own (drop (place (suc row.depth) rows i) rows)) →
    ((i : ℕ) → i < size (nodes_at row.depth rows) → from_node (nodes_at row.depth rows) i ≡ own (drop (place row.depth rows i) rows)) →
    k < size (nodes_at row.depth (row ∷ rows)) → from_node (own (row ∷ rows)) k ≡ own (drop k (row ∷ rows))
found_here row rows zero h kids rest bound =
    node_at_zero row.shape (nodes_at (suc row.depth) rows) (nodes_at row.depth rows)
found_here row rows (suc k) h kids rest bound = elim (cases_lt k (size (nodes_at (suc row.depth) rows))) [
  | inl less ↦
      node_at_kid row.shape (nodes_at (suc row.depth) rows) (nodes_at row.depth rows) k (room_of row rows h) less
      ∙ kids k less ∙ ap (λ i. own (drop i rows)) (rows_of_kid row rows k h)
  | inr past ↦
      node_at_rest row.shape (nodes_at (suc row.depth) rows) (nodes_at row.depth rows) k (room_of row rows h) past
      ∙ rest (k - size (nodes_at (suc row.depth) rows)) (omega (arith, size_here row rows h))
      ∙ ap (λ i. own (drop i rows)) (rows_of_rest row rows k h past)
]

pub found : (d top : ℕ) (rows : List Row) (k : ℕ) → Steps top rows → k < size (nodes_at d rows) →
    from_node (nodes_at d rows) k ≡ own (drop (place d rows k) rows)
found d top [] k h bound = absurd (omega arith)
found d top (row ∷ rows) k h bound = elim (cases_order row.depth d) [
  | inl same ↦
      subst (λ (e : ℕ). k < size (nodes_at e (row ∷ rows)) → from_node (nodes_at e (row ∷ rows)) k ≡ own (drop (place e (row ∷ rows) k) (row ∷ rows))) same
      (λ fits. ap (λ nodes. from_node nodes k) (nodes_same row rows)
      ∙ found_here row rows k h.1 (λ i b. found (suc row.depth) (limit row) rows i h.1 b) (λ i b. found row.depth (limit row) rows i h.1 b) fits
      ∙ ap (λ i. own (drop i (row ∷ rows))) (sym (place_here row rows k)))
      bound
  | inr other ↦ elim other [
    | inl less ↦ absurd (omega (arith, ap size (nodes_less d row rows less)))
    | inr more ↦
        ap (λ nodes. from_node nodes k) (nodes_deeper d row rows more)
        ∙ found d (limit row) rows k h.1 (omega (arith, ap size (nodes_deeper d row rows more)))
        ∙ ap (λ i. own (drop i (row ∷ rows))) (sym (place_deeper d row rows k more))
  ]
]

-- a node whose row stands at the depth of the list has no parent in it
alone_here : (row : Row) (rows : List Row) (k : ℕ) → Steps (limit row) rows →
    ((i : ℕ) → i < size (nodes_at row.depth rows) → get_or (depths_of rows) (place row.depth rows i) 0 ≡ row.depth → parent_of (nodes_at row.depth rows) i ≡ None) →
    k < size (nodes_at row.depth (row ∷ rows)) → get_or (depths_of (row ∷ rows)) k 0 ≡ row.depth → parent_of (own (row ∷ rows)) k ≡ None
alone_here row rows zero h rest bound at = parent_zero row.shape (nodes_at (suc row.depth) rows) (nodes_at row.depth rows)
alone_here row rows (suc k) h rest bound at = elim (cases_lt k (size (nodes_at (suc row.depth) rows))) [
  | inl less ↦
      let deep : suc row.depth ≤ get_or (depths_of rows) k 0 = within_deep (suc row.depth) (depths_of rows) k (omega (arith, kids_sized row rows h)) in
      let here : get_or (depths_of rows) k 0 ≡ row.depth = at in
      absurd (omega arith)
  | inr past ↦
      parent_rest row.shape (nodes_at (suc row.depth) rows) (nodes_at row.depth rows) k (room_of row rows h) past
      (rest (k - size (nodes_at (suc row.depth) rows)) (omega (arith, size_here row rows h))
      (ap (λ i. get_or (depths_of rows) i 0) (rows_of_rest row rows k h past) ∙ at))
]

pub has_no_parent : (d top : ℕ) (rows : List Row) (k : ℕ) → Steps top rows → k < size (nodes_at d rows) →
    get_or (depths_of rows) (place d rows k) 0 ≡ d → parent_of (nodes_at d rows) k ≡ None
has_no_parent d top [] k h bound at = absurd (omega arith)
has_no_parent d top (row ∷ rows) k h bound at = elim (cases_order row.depth d) [
  | inl same ↦
      subst (λ (e : ℕ). k < size (nodes_at e (row ∷ rows)) → get_or (depths_of (row ∷ rows)) (place e (row ∷ rows) k) 0 ≡ e → parent_of (nodes_at e (row ∷ rows)) k ≡ None) same
      (λ fits here. ap (λ nodes. parent_of nodes k) (nodes_same row rows)
      ∙ alone_here row rows k h.1 (λ i b. has_no_parent row.depth (limit row) rows i h.1 b) fits
      (sym (ap (λ i. get_or (depths_of (row ∷ rows)) i 0) (place_here row rows k)) ∙ here))
      bound at
  | inr other ↦ elim other [
    | inl less ↦ absurd (omega (arith, ap size (nodes_less d row rows less)))
    | inr more ↦
        ap (λ nodes. parent_of nodes k) (nodes_deeper d row rows more)
        ∙ has_no_parent d (limit row) rows k h.1 (omega (arith, ap size (nodes_deeper d row rows more)))
        (sym (ap (λ i. get_or (depths_of (row ∷ rows)) i 0) (place_deeper d row rows k more)) ∙ at)
  ]
]

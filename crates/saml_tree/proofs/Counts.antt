-- How many elements come before a row's node.
use Rattle.std.proofs.Common.{◌≡◌, ℕ, zero, suc, ◌+◌, ◌-◌, ◌<◌, ◌≤◌, cond, List, [], ◌∷◌, take, refl, ap, ◌∙◌, subst, inl, inr, arith}
use Rattle.std.proofs.lemmas.Bool.{cases_lt, cases_order}
use Rattle.xml_spec.specs.Numbering.{size, elements, elements_before}
use Rattle.tree_rows.specs.Rows.{Shape, ElementShape, TextShape, CommentShape, InstructionShape, Row, nodes_at}
use Rattle.tree_rows.specs.Shaped.{is_element}
use Rattle.saml_tree.specs.Kept.{elements_in}
use Rattle.saml_tree.specs.Links.{depths_of}
use Rattle.saml_tree.proofs.Within.{within, within_out, within_in}
use Rattle.saml_tree.proofs.Nodes.{counted, elements_of_node, before_zero, before_kid, before_rest}
use Rattle.saml_tree.proofs.Places.{limit, Steps, own, nodes_same, nodes_deeper, nodes_less, room_of, none_twice_deeper, place, rows_of_kid, rows_of_rest, place_here, place_deeper, size_here}

counted_first : (shape : Shape) (n : ℕ) → cond (is_element shape) (suc n) n ≡ counted shape + n
counted_first (ElementShape name attributes) n = omega arith
counted_first (TextShape text) n = omega arith
counted_first (CommentShape text) n = omega arith
counted_first (InstructionShape target value) n = omega arith

elements_more : (row : Row) (rows : List Row) → elements_in (row ∷ rows) ≡ counted row.shape + elements_in rows
elements_more row rows = counted_first row.shape (elements_in rows)

-- the elements among the rows at a depth or deeper
abbrev among : ℕ → List Row → ℕ
among d rows = elements_in (take (within d (depths_of rows)) rows)

among_out : (d : ℕ) (row : Row) (rows : List Row) → row.depth < d → among d (row ∷ rows) ≡ 0
among_out d row rows h = ap (λ n. elements_in (take n (row ∷ rows))) (within_out d row.depth (depths_of rows) h)

among_in : (d : ℕ) (row : Row) (rows : List Row) → d ≤ row.depth → among d (row ∷ rows) ≡ counted row.shape + among d rows
among_in d row rows h =
    ap (λ n. elements_in (take n (row ∷ rows))) (within_in d row.depth (depths_of rows) h)
    ∙ elements_more row (take (within d (depths_of rows)) rows)

none_among : (row : Row) (rows : List Row) → Steps (limit row) rows → among (suc (suc row.depth)) rows ≡ 0
none_among row rows h = ap (λ n. elements_in (take n rows)) (none_twice_deeper row rows h)

counted_here : (row : Row) (rows : List Row) → Steps (limit row) rows →
    elements (nodes_at (suc row.depth) rows) + among (suc (suc row.depth)) rows ≡ among (suc row.depth) rows →
    elements (nodes_at row.depth rows) + among (suc row.depth) rows ≡ among row.depth rows →
    elements (nodes_at row.depth (row ∷ rows)) + among (suc row.depth) (row ∷ rows) ≡ among row.depth (row ∷ rows)
counted_here row rows h kids rest =
    let whole : elements (nodes_at row.depth (row ∷ rows)) ≡ elements (own (row ∷ rows)) = ap elements (nodes_same row rows) in
    let parts = elements_of_node row.shape (nodes_at (suc row.depth) rows) (nodes_at row.depth rows) (room_of row rows h) in
    let none = none_among row rows h in
    let out = among_out (suc row.depth) row rows (omega arith) in
    let one = among_in row.depth row rows (omega arith) in
    omega (arith, whole, parts, none, out, one, kids, rest)

pub elements_counted : (d top : ℕ) (rows : List Row) → Steps top rows →
    elements (nodes_at d rows) + among (suc d) rows ≡ among d rows
elements_counted d top [] h = refl
elements_counted d top (row ∷ rows) h = elim (cases_order row.depth d) [
  | inl same ↦
      subst (λ (e : ℕ). elements (nodes_at e (row ∷ rows)) + among (suc e) (row ∷ rows) ≡ among e (row ∷ rows)) same
      (counted_here row rows h.1 (elements_counted (suc row.depth) (limit row) rows h.1) (elements_counted row.depth (limit row) rows h.1))
  | inr other ↦ elim other [
    | inl less ↦
        omega (arith, ap elements (nodes_less d row rows less), among_out d row rows less, among_out (suc d) row rows (omega arith))
    | inr more ↦
        omega (arith, ap elements (nodes_deeper d row rows more), among_in d row rows (omega arith), among_in (suc d) row rows (omega arith), elements_counted d (limit row) rows h.1)
  ]
]

-- the elements before the row at a node's place
abbrev before_place : ℕ → List Row → ℕ → ℕ
before_place d rows k = elements_in (take (place d rows k) rows)

before_here : (row : Row) (rows : List Row) (k : ℕ) → Steps (limit row) rows →
    ((i : ℕ) → i < size (nodes_at (suc row.depth) rows) → elements_before (nodes_at (suc row.depth) rows) i + among (suc (suc row.depth)) rows ≡ before_place (suc row.depth) rows i) →
    ((i : ℕ) → i < size (nodes_at row.depth rows) → elements_before (nodes_at row.depth rows) i + among (suc row.depth) rows ≡ before_place row.depth rows i) →
    elements (nodes_at (suc row.depth) rows) ≡ among (suc row.depth) rows →
    k < size (nodes_at row.depth (row ∷ rows)) → elements_before (own (row ∷ rows)) k ≡ elements_in (take k (row ∷ rows))
before_here row rows zero h kids rest inside bound =
    before_zero row.shape (nodes_at (suc row.depth) rows) (nodes_at row.depth rows)
before_here row rows (suc k) h kids rest inside bound = elim (cases_lt k (size (nodes_at (suc row.depth) rows))) [
  | inl less ↦ omega (
    arith,
    before_kid row.shape (nodes_at (suc row.depth) rows) (nodes_at row.depth rows) k (room_of row rows h) less,
    kids k less,
    none_among row rows h,
    ap (λ i. elements_in (take i rows)) (rows_of_kid row rows k h),
    elements_more row (take k rows),
  )
  | inr past ↦ omega (
    arith,
    before_rest row.shape (nodes_at (suc row.depth) rows) (nodes_at row.depth rows) k (room_of row rows h) past,
    rest (k - size (nodes_at (suc row.depth) rows)) (omega (arith, size_here row rows h)),
    inside,
    ap (λ i. elements_in (take i rows)) (rows_of_rest row rows k h past),
    elements_more row (take k rows),
  )
]

pub before_is : (d top : ℕ) (rows : List Row) (k : ℕ) → Steps top rows → k < size (nodes_at d rows) →
    elements_before (nodes_at d rows) k + among (suc d) rows ≡ before_place d rows k
before_is d top [] k h bound = absurd (omega arith)
before_is d top (row ∷ rows) k h bound = elim (cases_order row.depth d) [
  | inl same ↦
      subst (λ (e : ℕ). k < size (nodes_at e (row ∷ rows)) → elements_before (nodes_at e (row ∷ rows)) k + among (suc e) (row ∷ rows) ≡ before_place e (row ∷ rows) k) same
      (λ fits.
      let inside : elements (nodes_at (suc row.depth) rows) ≡ among (suc row.depth) rows =
      omega (arith, elements_counted (suc row.depth) (limit row) rows h.1, none_among row rows h.1) in
      let here : elements_before (own (row ∷ rows)) k ≡ elements_in (take k (row ∷ rows)) =
      before_here row rows k h.1 (λ i b. before_is (suc row.depth) (limit row) rows i h.1 b) (λ i b. before_is row.depth (limit row) rows i h.1 b) inside fits in
      omega (
        arith,
        here,
        ap (λ nodes. elements_before nodes k) (nodes_same row rows),
        ap (λ i. elements_in (take i (row ∷ rows))) (place_here row rows k),
        among_out (suc row.depth) row rows (omega arith),
      ))
      bound
  | inr other ↦ elim other [
    | inl less ↦ absurd (omega (arith, ap size (nodes_less d row rows less)))
    | inr more ↦ omega (
      arith,
      ap (λ nodes. elements_before nodes k) (nodes_deeper d row rows more),
      before_is d (limit row) rows k h.1 (omega (arith, ap size (nodes_deeper d row rows more))),
      ap (λ i. elements_in (take i (row ∷ rows))) (place_deeper d row rows k more),
      among_in (suc d) row rows (omega arith),
      elements_more row (take (place d rows k) rows),
    )
  ]
]

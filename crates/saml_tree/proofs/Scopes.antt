-- The scopes of a tree's nodes among its rows: the names of a tree keep the rules where those of each row do.
use Rattle.std.proofs.Common.{◌≡◌, ℕ, zero, suc, ◌-◌, ◌<◌, ◌≤◌, Bool, true, false, cond, if◌then◌else◌, ◌==◌, eqb, nat_lt, List, [], ◌∷◌, length, get_or, IsTrue, refl, sym, ap, ◌∙◌, subst, inl, inr, arith}
use Rattle.std.specs.Bool.{⊤}
use Rattle.std.proofs.lemmas.Bool.{cases_lt, cases_order, cond-true, cond-false, eq-eqb, ne_eqb, lt-ltb, le-ltb}
use Rattle.xml_spec.specs.Tree.{Attribute, Nodes, NoNodes}
use Rattle.xml_spec.specs.Numbering.{size}
use Rattle.xml_spec.specs.Names.{Scope, outermost, inner_scope, AreNamed, HasNames}
use Rattle.xml_spec.specs.Canonical.{scope_at}
use Rattle.tree_rows.specs.Rows.{Shape, ElementShape, TextShape, CommentShape, InstructionShape, Row, node, nodes_at, no_row}
use Rattle.tree_rows.specs.Shaped.{is_element, IsShaped}
use Rattle.saml_tree.specs.Resolved.{IsNamedShape}
use Rattle.saml_tree.proofs.Nodes.{HasRoom}
use Rattle.saml_tree.proofs.Rows.{size_is}
use Rattle.saml_tree.proofs.Places.{limit, Steps, steps_of, nodes_same, nodes_deeper, nodes_less, room_of, rows_of_kid, rows_of_rest, place, place_here, place_deeper, size_here}

-- the scope that the nodes of each depth stand in
abbrev pub Scopes : Type 0
Scopes = ℕ → Scope

-- behind a node: the kids of an element have its declarations
abbrev pub behind_shape : Scopes → ℕ → Shape → Scopes
behind_shape scopes depth (ElementShape name attributes) = λ d. if d == suc depth then inner_scope attributes (scopes depth) else scopes d
behind_shape scopes depth (TextShape text) = scopes
behind_shape scopes depth (CommentShape text) = scopes
behind_shape scopes depth (InstructionShape target value) = scopes

abbrev pub behind : Scopes → Row → Scopes
behind scopes row = behind_shape scopes row.depth row.shape

pub behind_kids : (scopes : Scopes) (depth : ℕ) (name : List ℕ) (attributes : List Attribute) →
    behind_shape scopes depth (ElementShape name attributes) (suc depth) ≡ inner_scope attributes (scopes depth)
behind_kids scopes depth name attributes = cond-true (eqb (suc depth) (suc depth)) _ _ (eq-eqb (suc depth) (suc depth) refl)

pub behind_other : (scopes : Scopes) (depth : ℕ) (shape : Shape) (d : ℕ) → (d ≡ suc depth → ⊥) → behind_shape scopes depth shape d ≡ scopes d
behind_other scopes depth (ElementShape name attributes) d h = cond-false (eqb d (suc depth)) _ _ (ne_eqb d (suc depth) h)
behind_other scopes depth (TextShape text) d h = refl
behind_other scopes depth (CommentShape text) d h = refl
behind_other scopes depth (InstructionShape target value) d h = refl

-- the scopes in front of row k
abbrev pub scopes_from : Scopes → List Row → ℕ → Scopes
scopes_from scopes rows zero = scopes
scopes_from scopes [] (suc k) = scopes
scopes_from scopes (row ∷ rows) (suc k) = scopes_from (behind scopes row) rows k

-- the scope that row k stands in
abbrev pub scope_of_row : Scopes → List Row → ℕ → Scope
scope_of_row scopes rows k = scopes_from scopes rows k (get_or rows k no_row).depth

abbrev pub first_scopes : Scopes
first_scopes d = outermost

pub scopes_step : (scopes : Scopes) (rows : List Row) (k : ℕ) → k < length rows →
    scopes_from scopes rows (suc k) ≡ behind (scopes_from scopes rows k) (get_or rows k no_row)
scopes_step scopes [] k h = absurd (omega arith)
scopes_step scopes (row ∷ rows) zero h = refl
scopes_step scopes (row ∷ rows) (suc k) h = scopes_step (behind scopes row) rows k (omega arith)

-- the names of each row keep the rules
abbrev pub AreNamedRows : Scopes → List Row → Type 0
AreNamedRows scopes [] = ⊤
AreNamedRows scopes (row ∷ rows) = IsNamedShape (scopes row.depth) row.shape × AreNamedRows (behind scopes row) rows

pub each_to_rows : (scopes : Scopes) (rows : List Row) →
    ((k : ℕ) → k < length rows → IsNamedShape (scope_of_row scopes rows k) (get_or rows k no_row).shape) → AreNamedRows scopes rows
each_to_rows scopes [] h = tt
each_to_rows scopes (row ∷ rows) h =
    (h 0 (omega arith), each_to_rows (behind scopes row) rows (λ k less. h (suc k) (omega arith)))

pub rows_to_each : (scopes : Scopes) (rows : List Row) (k : ℕ) → AreNamedRows scopes rows → k < length rows →
    IsNamedShape (scope_of_row scopes rows k) (get_or rows k no_row).shape
rows_to_each scopes [] k h less = absurd (omega arith)
rows_to_each scopes (row ∷ rows) zero h less = h.0
rows_to_each scopes (row ∷ rows) (suc k) h less = rows_to_each (behind scopes row) rows k h.1 (omega arith)

-- a node, its kids and what follows it
named_node : (scopes : Scopes) (depth : ℕ) (shape : Shape) (kids rest : Nodes) → IsNamedShape (scopes depth) shape →
    AreNamed (behind_shape scopes depth shape (suc depth)) kids → AreNamed (behind_shape scopes depth shape depth) rest →
    AreNamed (scopes depth) (node shape kids rest)
named_node scopes depth (ElementShape name attributes) kids rest h k r = (
  h,
  subst (λ (s : Scope). AreNamed s kids) (behind_kids scopes depth name attributes) k,
  subst (λ (s : Scope). AreNamed s rest) (behind_other scopes depth (ElementShape name attributes) depth (λ e. omega arith)) r,
)
named_node scopes depth (TextShape text) kids rest h k r = r
named_node scopes depth (CommentShape text) kids rest h k r = r
named_node scopes depth (InstructionShape target value) kids rest h k r = r

pub rows_to_tree : (scopes : Scopes) (rows : List Row) (depth : ℕ) → AreNamedRows scopes rows → AreNamed (scopes depth) (nodes_at depth rows)
rows_to_tree scopes [] depth h = tt
rows_to_tree scopes (row ∷ rows) depth h = elim (cases_order row.depth depth) [
  | inl same ↦
      subst (λ (d : ℕ). AreNamed (scopes d) (nodes_at d (row ∷ rows))) same
      (subst (AreNamed (scopes row.depth)) (sym (nodes_same row rows))
      (named_node scopes row.depth row.shape (nodes_at (suc row.depth) rows) (nodes_at row.depth rows) h.0
      (rows_to_tree (behind scopes row) rows (suc row.depth) h.1) (rows_to_tree (behind scopes row) rows row.depth h.1)))
  | inr other ↦ elim other [
    | inl less ↦ subst (AreNamed (scopes depth)) (sym (nodes_less depth row rows less)) tt
    | inr more ↦
        subst (AreNamed (scopes depth)) (sym (nodes_deeper depth row rows more))
        (subst (λ (s : Scope). AreNamed s (nodes_at depth rows)) (behind_other scopes row.depth row.shape depth (λ e. omega arith))
        (rows_to_tree (behind scopes row) rows depth h.1))
  ]
]

named_parts : (scopes : Scopes) (depth : ℕ) (shape : Shape) (kids rest : Nodes) → AreNamed (scopes depth) (node shape kids rest) →
    IsNamedShape (scopes depth) shape × (IsTrue (is_element shape) → AreNamed (behind_shape scopes depth shape (suc depth)) kids)
    × AreNamed (behind_shape scopes depth shape depth) rest
named_parts scopes depth (ElementShape name attributes) kids rest h = (
  h.0,
  λ _. subst (λ (s : Scope). AreNamed s kids) (sym (behind_kids scopes depth name attributes)) h.1,
  subst (λ (s : Scope). AreNamed s rest) (sym (behind_other scopes depth (ElementShape name attributes) depth (λ e. omega arith))) h.2,
)
named_parts scopes depth (TextShape text) kids rest h = (tt, λ e. absurd (let clash : false ≡ true = e in cc), h)
named_parts scopes depth (CommentShape text) kids rest h = (tt, λ e. absurd (let clash : false ≡ true = e in cc), h)
named_parts scopes depth (InstructionShape target value) kids rest h = (tt, λ e. absurd (let clash : false ≡ true = e in cc), h)

-- the nodes of each depth that the next row may have are named
abbrev NamedBelow : Scopes → ℕ → List Row → Type 0
NamedBelow scopes deepest rows = (depth : ℕ) → depth ≤ deepest → AreNamed (scopes depth) (nodes_at depth rows)

named_behind : (scopes : Scopes) (row : Row) (rows : List Row) →
    (IsTrue (is_element row.shape) → AreNamed (behind scopes row (suc row.depth)) (nodes_at (suc row.depth) rows)) →
    AreNamed (behind scopes row row.depth) (nodes_at row.depth rows) →
    ((depth : ℕ) → depth < row.depth → AreNamed (scopes depth) (nodes_at depth rows)) → NamedBelow (behind scopes row) (limit row) rows
named_behind scopes row rows in_kids in_rest in_less depth h = elim (cases_order depth row.depth) [
  | inl same ↦ subst (λ (d : ℕ). AreNamed (behind scopes row d) (nodes_at d rows)) (sym same) in_rest
  | inr other ↦ elim other [
    | inl less ↦
        subst (λ (s : Scope). AreNamed s (nodes_at depth rows)) (sym (behind_other scopes row.depth row.shape depth (λ e. omega arith)))
        (in_less depth less)
    | inr more ↦ deeper (is_element row.shape) refl h more
  ]
]
  where
    deeper : (b : Bool) → is_element row.shape ≡ b → depth ≤ cond b (suc row.depth) row.depth → row.depth < depth →
        AreNamed (behind scopes row depth) (nodes_at depth rows)
    deeper true e k more =
        let same : suc row.depth ≡ depth = omega arith in
        subst (λ (d : ℕ). AreNamed (behind scopes row d) (nodes_at d rows)) same (in_kids e)
    deeper false e k more = absurd (omega arith)

pub tree_to_rows : (scopes : Scopes) (top : ℕ) (rows : List Row) → Steps top rows → NamedBelow scopes top rows → AreNamedRows scopes rows
tree_to_rows scopes top [] steps h = tt
tree_to_rows scopes top (row ∷ rows) steps h =
    let here = named_parts scopes row.depth row.shape (nodes_at (suc row.depth) rows) (nodes_at row.depth rows)
    (subst (AreNamed (scopes row.depth)) (nodes_same row rows) (h row.depth steps.0)) in
    let less = λ (depth : ℕ) (k : depth < row.depth).
    subst (AreNamed (scopes depth)) (nodes_deeper depth row rows k) (h depth (let low = steps.0 in omega arith)) in
    (here.0, tree_to_rows (behind scopes row) (limit row) rows steps.1 (named_behind scopes row rows here.1 here.2 less))

-- the scope of node k is that of its row
scope_zero : (scope : Scope) (shape : Shape) (kids rest : Nodes) → scope_at scope (node shape kids rest) 0 ≡ scope
scope_zero scope (ElementShape name attributes) kids rest = refl
scope_zero scope (TextShape text) kids rest = refl
scope_zero scope (CommentShape text) kids rest = refl
scope_zero scope (InstructionShape target value) kids rest = refl

no_kid : (shape : Shape) (kids : Nodes) (k : ℕ) → is_element shape ≡ false → HasRoom shape kids → k < size kids → ⊥
no_kid shape kids k leaf room h = omega (arith, ap size (room leaf))

scope_kid : (scopes : Scopes) (depth : ℕ) (shape : Shape) (kids rest : Nodes) (k : ℕ) → HasRoom shape kids → k < size kids →
    scope_at (scopes depth) (node shape kids rest) (suc k) ≡ scope_at (behind_shape scopes depth shape (suc depth)) kids k
scope_kid scopes depth (ElementShape name attributes) kids rest k room h =
    cond-true (nat_lt k (size kids)) _ _ (lt-ltb k (size kids) h)
    ∙ ap (λ (s : Scope). scope_at s kids k) (sym (behind_kids scopes depth name attributes))
scope_kid scopes depth (TextShape text) kids rest k room h = absurd (no_kid (TextShape text) kids k refl room h)
scope_kid scopes depth (CommentShape text) kids rest k room h = absurd (no_kid (CommentShape text) kids k refl room h)
scope_kid scopes depth (InstructionShape target value) kids rest k room h = absurd (no_kid (InstructionShape target value) kids k refl room h)

rest_number : (kids : Nodes) (k : ℕ) → kids ≡ NoNodes → k ≡ k - size kids
rest_number kids k none = omega (arith, ap size none)

scope_rest : (scopes : Scopes) (depth : ℕ) (shape : Shape) (kids rest : Nodes) (k : ℕ) → HasRoom shape kids → size kids ≤ k →
    scope_at (scopes depth) (node shape kids rest) (suc k) ≡ scope_at (behind_shape scopes depth shape depth) rest (k - size kids)
scope_rest scopes depth (ElementShape name attributes) kids rest k room h =
    cond-false (nat_lt k (size kids)) _ _ (le-ltb k (size kids) h)
    ∙ ap (λ (s : Scope). scope_at s rest (k - size kids)) (sym (behind_other scopes depth (ElementShape name attributes) depth (λ e. omega arith)))
scope_rest scopes depth (TextShape text) kids rest k room h = ap (scope_at (scopes depth) rest) (rest_number kids k (room refl))
scope_rest scopes depth (CommentShape text) kids rest k room h = ap (scope_at (scopes depth) rest) (rest_number kids k (room refl))
scope_rest scopes depth (InstructionShape target value) kids rest k room h = ap (scope_at (scopes depth) rest) (rest_number kids k (room refl))

scope_here : (scopes : Scopes) (row : Row) (rows : List Row) (k : ℕ) → Steps (limit row) rows →
    ((i : ℕ) → i < size (nodes_at (suc row.depth) rows) →
    scope_at (behind scopes row (suc row.depth)) (nodes_at (suc row.depth) rows) i ≡ scope_of_row (behind scopes row) rows (place (suc row.depth) rows i)) →
    ((i : ℕ) → i < size (nodes_at row.depth rows) →
    scope_at (behind scopes row row.depth) (nodes_at row.depth rows) i ≡ scope_of_row (behind scopes row) rows (place row.depth rows i)) →
    k < size (nodes_at row.depth (row ∷ rows)) →
    scope_at (scopes row.depth) (node row.shape (nodes_at (suc row.depth) rows) (nodes_at row.depth rows)) k ≡ scope_of_row scopes (row ∷ rows) k
scope_here scopes row rows zero h kids rest bound = scope_zero (scopes row.depth) row.shape (nodes_at (suc row.depth) rows) (nodes_at row.depth rows)
scope_here scopes row rows (suc k) h kids rest bound = elim (cases_lt k (size (nodes_at (suc row.depth) rows))) [
  | inl less ↦
      scope_kid scopes row.depth row.shape (nodes_at (suc row.depth) rows) (nodes_at row.depth rows) k (room_of row rows h) less
      ∙ kids k less ∙ ap (scope_of_row (behind scopes row) rows) (rows_of_kid row rows k h)
  | inr past ↦
      scope_rest scopes row.depth row.shape (nodes_at (suc row.depth) rows) (nodes_at row.depth rows) k (room_of row rows h) past
      ∙ rest (k - size (nodes_at (suc row.depth) rows)) (omega (arith, size_here row rows h))
      ∙ ap (scope_of_row (behind scopes row) rows) (rows_of_rest row rows k h past)
]

scope_place : (scopes : Scopes) (d top : ℕ) (rows : List Row) (k : ℕ) → Steps top rows → k < size (nodes_at d rows) →
    scope_at (scopes d) (nodes_at d rows) k ≡ scope_of_row scopes rows (place d rows k)
scope_place scopes d top [] k h bound = absurd (omega arith)
scope_place scopes d top (row ∷ rows) k h bound = elim (cases_order row.depth d) [
  | inl same ↦
      subst (λ (e : ℕ). k < size (nodes_at e (row ∷ rows)) → scope_at (scopes e) (nodes_at e (row ∷ rows)) k ≡ scope_of_row scopes (row ∷ rows) (place e (row ∷ rows) k)) same
      (λ fits. ap (λ nodes. scope_at (scopes row.depth) nodes k) (nodes_same row rows)
      ∙ scope_here scopes row rows k h.1 (λ i b. scope_place (behind scopes row) (suc row.depth) (limit row) rows i h.1 b)
      (λ i b. scope_place (behind scopes row) row.depth (limit row) rows i h.1 b) fits
      ∙ ap (scope_of_row scopes (row ∷ rows)) (sym (place_here row rows k)))
      bound
  | inr other ↦ elim other [
    | inl less ↦ absurd (omega (arith, ap size (nodes_less d row rows less)))
    | inr more ↦
        ap (λ nodes. scope_at (scopes d) nodes k) (nodes_deeper d row rows more)
        ∙ ap (λ (s : Scope). scope_at s (nodes_at d rows) k) (sym (behind_other scopes row.depth row.shape d (λ e. omega arith)))
        ∙ scope_place (behind scopes row) d (limit row) rows k h.1 (omega (arith, ap size (nodes_deeper d row rows more)))
        ∙ ap (scope_of_row scopes (row ∷ rows)) (sym (place_deeper d row rows k more))
  ]
]

place_root : (rows : List Row) (k : ℕ) → IsShaped rows → place 0 rows k ≡ k
place_root [] k shaped = absurd shaped
place_root (row ∷ rows) k shaped =
    subst (λ (d : ℕ). place d (row ∷ rows) k ≡ k) shaped.0 (place_here row rows k)

pub scope_is : (rows : List Row) (k : ℕ) → IsShaped rows → k < length rows →
    scope_at outermost (nodes_at 0 rows) k ≡ scope_of_row first_scopes rows k
scope_is rows k shaped less =
    scope_place first_scopes 0 0 rows k (steps_of rows shaped) (omega (arith, size_is rows shaped))
    ∙ ap (scope_of_row first_scopes rows) (place_root rows k shaped)

-- the names of a tree keep the rules just where those of each row do
pub names_of_rows : (rows : List Row) → ((k : ℕ) → k < length rows → IsNamedShape (scope_of_row first_scopes rows k) (get_or rows k no_row).shape) →
    HasNames (nodes_at 0 rows)
names_of_rows rows h = rows_to_tree first_scopes rows 0 (each_to_rows first_scopes rows h)

pub row_has_names : (rows : List Row) (k : ℕ) → IsShaped rows → HasNames (nodes_at 0 rows) → k < length rows →
    IsNamedShape (scope_of_row first_scopes rows k) (get_or rows k no_row).shape
row_has_names rows k shaped h less =
    rows_to_each first_scopes rows k
    (tree_to_rows first_scopes 0 rows (steps_of rows shaped)
    (λ depth low. let root : 0 ≡ depth = omega arith in subst (λ (d : ℕ). AreNamed outermost (nodes_at d rows)) root h))
    less

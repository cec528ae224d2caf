-- A node, its kids and what follows it: the numberings of a tree at a row's node.
use Rattle.std.proofs.Common.{◌≡◌, ℕ, zero, suc, ◌+◌, ◌-◌, ◌<◌, ◌≤◌, true, false, if◌then◌else◌, ltb, Some, None, is_some, IsSome, refl, sym, ap, ◌∙◌, inl, inr, arith}
use Rattle.std.specs.Option.{option_map, option_map_or}
use Rattle.std.proofs.lemmas.Bool.{cases_lt, cond-true, cond-false, lt-ltb, le-ltb}
use Rattle.xml_spec.specs.Tree.{Nodes, NoNodes, Element, Text, Comment, Instruction}
use Rattle.xml_spec.specs.Numbering.{size, from_node, elements, elements_before, kids_of, rest_of, number_if_any, parent_of}
use Rattle.saml_tree.specs.Documents.{kind_of, name_of, attributes_of, text_of}
use Rattle.saml_tree.specs.declared.node.NodeKind.TheVariants as kinds
use Rattle.tree_rows.specs.Rows.{Shape, ElementShape, TextShape, CommentShape, InstructionShape, node}
use Rattle.tree_rows.specs.Shaped.{is_element}

-- a text has no kids
abbrev pub HasRoom : Shape → Nodes → Type 0
HasRoom shape kids = is_element shape ≡ false → kids ≡ NoNodes

pub size_of_node : (shape : Shape) (kids rest : Nodes) → HasRoom shape kids →
    size (node shape kids rest) ≡ suc (size kids + size rest)
size_of_node (ElementShape name attributes) kids rest room = refl
size_of_node (TextShape text) kids rest room = omega (arith, ap size (room refl))
size_of_node (CommentShape text) kids rest room = omega (arith, ap size (room refl))
size_of_node (InstructionShape target value) kids rest room = omega (arith, ap size (room refl))

pub kids_of_node : (shape : Shape) (kids rest : Nodes) → HasRoom shape kids → kids_of (node shape kids rest) ≡ kids
kids_of_node (ElementShape name attributes) kids rest room = refl
kids_of_node (TextShape text) kids rest room = sym (room refl)
kids_of_node (CommentShape text) kids rest room = sym (room refl)
kids_of_node (InstructionShape target value) kids rest room = sym (room refl)

pub rest_of_node : (shape : Shape) (kids rest : Nodes) → rest_of (node shape kids rest) ≡ rest
rest_of_node (ElementShape name attributes) kids rest = refl
rest_of_node (TextShape text) kids rest = refl
rest_of_node (CommentShape text) kids rest = refl
rest_of_node (InstructionShape target value) kids rest = refl

pub number_of_node : (shape : Shape) (kids rest : Nodes) (k : ℕ) → number_if_any (node shape kids rest) k ≡ Some k
number_of_node (ElementShape name attributes) kids rest k = refl
number_of_node (TextShape text) kids rest k = refl
number_of_node (CommentShape text) kids rest k = refl
number_of_node (InstructionShape target value) kids rest k = refl

pub node_at_zero : (shape : Shape) (kids rest : Nodes) → from_node (node shape kids rest) 0 ≡ node shape kids rest
node_at_zero (ElementShape name attributes) kids rest = refl
node_at_zero (TextShape text) kids rest = refl
node_at_zero (CommentShape text) kids rest = refl
node_at_zero (InstructionShape target value) kids rest = refl

no_kids : (kids : Nodes) (k : ℕ) → kids ≡ NoNodes → k < size kids → ⊥
no_kids kids k e h = omega (arith, ap size e)

-- what stands at a number in a node's kids, and behind them
pub node_at_kid : (shape : Shape) (kids rest : Nodes) (k : ℕ) → HasRoom shape kids → k < size kids →
    from_node (node shape kids rest) (suc k) ≡ from_node kids k
node_at_kid (ElementShape name attributes) kids rest k room h = cond-true (ltb k (size kids)) _ _ (lt-ltb _ _ h)
node_at_kid (TextShape text) kids rest k room h = absurd (no_kids kids k (room refl) h)
node_at_kid (CommentShape text) kids rest k room h = absurd (no_kids kids k (room refl) h)
node_at_kid (InstructionShape target value) kids rest k room h = absurd (no_kids kids k (room refl) h)

pub node_at_rest : (shape : Shape) (kids rest : Nodes) (k : ℕ) → HasRoom shape kids → size kids ≤ k →
    from_node (node shape kids rest) (suc k) ≡ from_node rest (k - size kids)
node_at_rest (ElementShape name attributes) kids rest k room h = cond-false (ltb k (size kids)) _ _ (le-ltb _ _ h)
node_at_rest (TextShape text) kids rest k room h =
    ap (from_node rest) (let none : size kids ≡ 0 = ap size (room refl) in omega arith)
node_at_rest (CommentShape text) kids rest k room h =
    ap (from_node rest) (let none : size kids ≡ 0 = ap size (room refl) in omega arith)
node_at_rest (InstructionShape target value) kids rest k room h =
    ap (from_node rest) (let none : size kids ≡ 0 = ap size (room refl) in omega arith)

-- how many elements a node alone is
abbrev pub counted : Shape → ℕ
counted shape = if is_element shape then 1 else 0

pub elements_of_node : (shape : Shape) (kids rest : Nodes) → HasRoom shape kids →
    elements (node shape kids rest) ≡ counted shape + (elements kids + elements rest)
elements_of_node (ElementShape name attributes) kids rest room = omega arith
elements_of_node (TextShape text) kids rest room = omega (arith, ap elements (room refl))
elements_of_node (CommentShape text) kids rest room = omega (arith, ap elements (room refl))
elements_of_node (InstructionShape target value) kids rest room = omega (arith, ap elements (room refl))

pub before_zero : (shape : Shape) (kids rest : Nodes) → elements_before (node shape kids rest) 0 ≡ 0
before_zero (ElementShape name attributes) kids rest = refl
before_zero (TextShape text) kids rest = refl
before_zero (CommentShape text) kids rest = refl
before_zero (InstructionShape target value) kids rest = refl

pub before_kid : (shape : Shape) (kids rest : Nodes) (k : ℕ) → HasRoom shape kids → k < size kids →
    elements_before (node shape kids rest) (suc k) ≡ counted shape + elements_before kids k
before_kid (ElementShape name attributes) kids rest k room h =
    cond-true (ltb k (size kids)) _ _ (lt-ltb _ _ h) ∙ omega arith
before_kid (TextShape text) kids rest k room h = absurd (no_kids kids k (room refl) h)
before_kid (CommentShape text) kids rest k room h = absurd (no_kids kids k (room refl) h)
before_kid (InstructionShape target value) kids rest k room h = absurd (no_kids kids k (room refl) h)

pub before_rest : (shape : Shape) (kids rest : Nodes) (k : ℕ) → HasRoom shape kids → size kids ≤ k →
    elements_before (node shape kids rest) (suc k) ≡ counted shape + (elements kids + elements_before rest (k - size kids))
before_rest (ElementShape name attributes) kids rest k room h =
    cond-false (ltb k (size kids)) _ _ (le-ltb _ _ h) ∙ omega arith
before_rest (TextShape text) kids rest k room h =
    let none : size kids ≡ 0 = ap size (room refl) in
    let nothing : elements kids ≡ 0 = ap elements (room refl) in
    let same : k ≡ k - size kids = omega arith in
    omega (arith, ap (elements_before rest) same)
before_rest (CommentShape text) kids rest k room h =
    let none : size kids ≡ 0 = ap size (room refl) in
    let nothing : elements kids ≡ 0 = ap elements (room refl) in
    let same : k ≡ k - size kids = omega arith in
    omega (arith, ap (elements_before rest) same)
before_rest (InstructionShape target value) kids rest k room h =
    let none : size kids ≡ 0 = ap size (room refl) in
    let nothing : elements kids ≡ 0 = ap elements (room refl) in
    let same : k ≡ k - size kids = omega arith in
    omega (arith, ap (elements_before rest) same)

pub parent_zero : (shape : Shape) (kids rest : Nodes) → parent_of (node shape kids rest) 0 ≡ None
parent_zero (ElementShape name attributes) kids rest = refl
parent_zero (TextShape text) kids rest = refl
parent_zero (CommentShape text) kids rest = refl
parent_zero (InstructionShape target value) kids rest = refl

pub parent_rest : (shape : Shape) (kids rest : Nodes) (k : ℕ) → HasRoom shape kids → size kids ≤ k →
    parent_of rest (k - size kids) ≡ None → parent_of (node shape kids rest) (suc k) ≡ None
parent_rest (ElementShape name attributes) kids rest k room h none =
    cond-false (ltb k (size kids)) _ _ (le-ltb _ _ h) ∙ ap (option_map (λ p. suc (size kids + p))) none
parent_rest (TextShape text) kids rest k room h none =
    let empty : size kids ≡ 0 = ap size (room refl) in
    let same : k ≡ k - size kids = omega arith in
    ap (λ i. option_map (λ p. suc p) (parent_of rest i)) same ∙ ap (option_map (λ p. suc p)) none
parent_rest (CommentShape text) kids rest k room h none =
    let empty : size kids ≡ 0 = ap size (room refl) in
    let same : k ≡ k - size kids = omega arith in
    ap (λ i. option_map (λ p. suc p) (parent_of rest i)) same ∙ ap (option_map (λ p. suc p)) none
parent_rest (InstructionShape target value) kids rest k room h none =
    let empty : size kids ≡ 0 = ap size (room refl) in
    let same : k ≡ k - size kids = omega arith in
    ap (λ i. option_map (λ p. suc p) (parent_of rest i)) same ∙ ap (option_map (λ p. suc p)) none

-- past the last node there is none
pub none_past : (tree : Nodes) (k : ℕ) → size tree ≤ k → from_node tree k ≡ NoNodes
none_past NoNodes k h = refl
none_past (Element name attributes kids rest) zero h = absurd (omega arith)
none_past (Element name attributes kids rest) (suc k) h =
    cond-false (ltb k (size kids)) _ _ (le-ltb _ _ (omega arith)) ∙ none_past rest (k - size kids) (omega arith)
none_past (Text text rest) zero h = absurd (omega arith)
none_past (Text text rest) (suc k) h = none_past rest k (omega arith)
none_past (Comment text rest) zero h = absurd (omega arith)
none_past (Comment text rest) (suc k) h = none_past rest k (omega arith)
none_past (Instruction target value rest) zero h = absurd (omega arith)
none_past (Instruction target value rest) (suc k) h = none_past rest k (omega arith)

-- where a node has a kind, it is one of the tree
pub in_tree : (tree : Nodes) (k : ℕ) → IsSome (kind_of (from_node tree k)) → k < size tree
in_tree tree k h = elim (cases_lt k (size tree)) [
  | inl less ↦ less
  | inr past ↦ absurd (let clash : false ≡ true = sym (ap (λ nodes. is_some (kind_of nodes)) (none_past tree k past)) ∙ h in cc)
]

-- a node's kids have their numbers right behind it
pub kids_fit : (tree : Nodes) (p : ℕ) → p < size tree → p + size (kids_of (from_node tree p)) < size tree
kids_fit NoNodes p h = absurd (omega arith)
kids_fit (Element name attributes kids rest) zero h = omega arith
kids_fit (Element name attributes kids rest) (suc p) h = elim (cases_lt p (size kids)) [
  | inl less ↦ omega (arith, kids_fit kids p less, ap (λ nodes. size (kids_of nodes)) (cond-true (ltb p (size kids)) (from_node kids p) (from_node rest (p - size kids)) (lt-ltb _ _ less)))
  | inr past ↦ omega (arith, kids_fit rest (p - size kids) (omega arith), ap (λ nodes. size (kids_of nodes)) (cond-false (ltb p (size kids)) (from_node kids p) (from_node rest (p - size kids)) (le-ltb _ _ past)))
]
kids_fit (Text text rest) zero h = omega arith
kids_fit (Text text rest) (suc p) h = omega (arith, kids_fit rest p (omega arith))
kids_fit (Comment text rest) zero h = omega arith
kids_fit (Comment text rest) (suc p) h = omega (arith, kids_fit rest p (omega arith))
kids_fit (Instruction target value rest) zero h = omega arith
kids_fit (Instruction target value rest) (suc p) h = omega (arith, kids_fit rest p (omega arith))

abbrev kids_at : Nodes → ℕ → Nodes
kids_at tree p = kids_of (from_node tree p)

-- node p is the parent of each node in the list of its kids
pub parent_is : (tree : Nodes) (p j : ℕ) → p < size tree → j < size (kids_of (from_node tree p)) →
    parent_of (kids_of (from_node tree p)) j ≡ None → parent_of tree (suc (p + j)) ≡ Some p
parent_is NoNodes p j in_it h none = absurd (omega arith)
parent_is (Element name attributes kids rest) zero j in_it h none =
    ap (parent_of (Element name attributes kids rest)) (let same : suc (0 + j) ≡ suc j = omega arith in same)
    ∙ cond-true (ltb j (size kids)) _ _ (lt-ltb _ _ h) ∙ ap (λ o. Some (option_map_or (λ p. suc p) o 0)) none
parent_is (Element name attributes kids rest) (suc p) j in_it h none = elim (cases_lt p (size kids)) [
  | inl less ↦
      let at : from_node (Element name attributes kids rest) (suc p) ≡ from_node kids p =
      cond-true (ltb p (size kids)) _ _ (lt-ltb _ _ less) in
      let fit = kids_fit kids p less in
      let bound : j < size (kids_at kids p) = omega (arith, ap (λ nodes. size (kids_of nodes)) at) in
      let first : parent_of (kids_at kids p) j ≡ None = sym (ap (λ nodes. parent_of (kids_of nodes) j) at) ∙ none in
      let inner = parent_is kids p j less bound first in
      let number : suc (suc p + j) ≡ suc (suc (p + j)) = omega arith in
      ap (parent_of (Element name attributes kids rest)) number
      ∙ cond-true (ltb (suc (p + j)) (size kids)) _ _ (lt-ltb _ _ (omega arith))
      ∙ ap (λ o. Some (option_map_or (λ p. suc p) o 0)) inner
  | inr past ↦
      let at : from_node (Element name attributes kids rest) (suc p) ≡ from_node rest (p - size kids) =
      cond-false (ltb p (size kids)) _ _ (le-ltb _ _ past) in
      let bound : j < size (kids_at rest (p - size kids)) = omega (arith, ap (λ nodes. size (kids_of nodes)) at) in
      let first : parent_of (kids_at rest (p - size kids)) j ≡ None = sym (ap (λ nodes. parent_of (kids_of nodes) j) at) ∙ none in
      let inner = parent_is rest (p - size kids) j (omega arith) bound first in
      let number : suc (suc p + j) ≡ suc (suc (p + j)) = omega arith in
      let behind : suc (p + j) - size kids ≡ suc ((p - size kids) + j) = omega arith in
      ap (parent_of (Element name attributes kids rest)) number
      ∙ cond-false (ltb (suc (p + j)) (size kids)) _ _ (le-ltb _ _ (omega arith))
      ∙ ap (λ i. option_map (λ p. suc (size kids + p)) (parent_of rest i)) behind
      ∙ ap (option_map (λ p. suc (size kids + p))) inner
      ∙ ap Some (omega arith)
]
parent_is (Text text rest) zero j in_it h none = absurd (omega arith)
parent_is (Text text rest) (suc p) j in_it h none =
    ap (parent_of (Text text rest)) (let number : suc (suc p + j) ≡ suc (suc (p + j)) = omega arith in number)
    ∙ ap (option_map (λ p. suc p)) (parent_is rest p j (omega arith) h none)
parent_is (Comment text rest) zero j in_it h none = absurd (omega arith)
parent_is (Comment text rest) (suc p) j in_it h none =
    ap (parent_of (Comment text rest)) (let number : suc (suc p + j) ≡ suc (suc (p + j)) = omega arith in number)
    ∙ ap (option_map (λ p. suc p)) (parent_is rest p j (omega arith) h none)
parent_is (Instruction target value rest) zero j in_it h none = absurd (omega arith)
parent_is (Instruction target value rest) (suc p) j in_it h none =
    ap (parent_of (Instruction target value rest)) (let number : suc (suc p + j) ≡ suc (suc (p + j)) = omega arith in number)
    ∙ ap (option_map (λ p. suc p)) (parent_is rest p j (omega arith) h none)

-- an element is one by its kind
pub element_by_kind : (shape : Shape) (kids rest : Nodes) → kind_of (node shape kids rest) ≡ Some kinds.Element → is_element shape ≡ true
element_by_kind (ElementShape name attributes) kids rest e = refl
element_by_kind (TextShape text) kids rest e = absurd (let clash : Some kinds.Text ≡ Some kinds.Element = e in cc)
element_by_kind (CommentShape text) kids rest e = absurd (let clash : Some kinds.Comment ≡ Some kinds.Element = e in cc)
element_by_kind (InstructionShape target value) kids rest e = absurd (let clash : Some kinds.Instruction ≡ Some kinds.Element = e in cc)

-- a node that has a name, attributes or a text is one of the tree
kind_by_name : (nodes : Nodes) → IsSome (name_of nodes) → IsSome (kind_of nodes)
kind_by_name NoNodes h = absurd (let clash : false ≡ true = h in cc)
kind_by_name (Element name attributes kids rest) h = refl
kind_by_name (Text text rest) h = refl
kind_by_name (Comment text rest) h = refl
kind_by_name (Instruction target value rest) h = refl

kind_by_attributes : (nodes : Nodes) → IsSome (attributes_of nodes) → IsSome (kind_of nodes)
kind_by_attributes NoNodes h = absurd (let clash : false ≡ true = h in cc)
kind_by_attributes (Element name attributes kids rest) h = refl
kind_by_attributes (Text text rest) h = refl
kind_by_attributes (Comment text rest) h = refl
kind_by_attributes (Instruction target value rest) h = refl

kind_by_text : (nodes : Nodes) → IsSome (text_of nodes) → IsSome (kind_of nodes)
kind_by_text NoNodes h = absurd (let clash : false ≡ true = h in cc)
kind_by_text (Element name attributes kids rest) h = refl
kind_by_text (Text text rest) h = refl
kind_by_text (Comment text rest) h = refl
kind_by_text (Instruction target value rest) h = refl

pub in_tree_by_name : (tree : Nodes) (k : ℕ) → IsSome (name_of (from_node tree k)) → k < size tree
in_tree_by_name tree k h = in_tree tree k (kind_by_name (from_node tree k) h)

pub in_tree_by_attributes : (tree : Nodes) (k : ℕ) → IsSome (attributes_of (from_node tree k)) → k < size tree
in_tree_by_attributes tree k h = in_tree tree k (kind_by_attributes (from_node tree k) h)

pub in_tree_by_text : (tree : Nodes) (k : ℕ) → IsSome (text_of (from_node tree k)) → k < size tree
in_tree_by_text tree k h = in_tree tree k (kind_by_text (from_node tree k) h)

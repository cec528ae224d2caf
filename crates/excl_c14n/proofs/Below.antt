-- The scope of an element's kids, and that of what stands behind a node.
use Rattle.std.proofs.Common.{◌≡◌, ℕ, suc, ◌+◌, ◌<◌, Option, Some, None, IfSome, ap, ◌∙◌, arith}
use Rattle.xml_spec.specs.Tree.{Nodes, NoNodes, Element, Text, Comment, Instruction}
use Rattle.xml_spec.specs.Numbering.{size, from_node, kids_of, rest_of, number_if_any, first_kid_of, next_of}
use Rattle.xml_spec.specs.Names.{Scope, outermost, inner_scope}
use Rattle.xml_spec.specs.Canonical.{scope_at}
use Rattle.saml_tree.specs.Elements.{attributes_in}
use Rattle.saml_tree.proofs.Numbers.{some_kids, some_rest}
use Rattle.saml_tree.proofs.Placed.{scope_first, scope_in_kids, scope_on, scope_of_rest}
use Rattle.excl_c14n.specs.NodeByNode.{scope_inside}

first_kid_scope : (scope : Scope) (nodes : Nodes) → 0 < size (kids_of nodes) → scope_at scope nodes 1 ≡ inner_scope (attributes_in nodes) scope
first_kid_scope scope NoNodes h = absurd (omega arith)
first_kid_scope scope (Element name attributes kids rest) h =
    scope_in_kids scope name attributes kids rest 0 h ∙ scope_first (inner_scope attributes scope) kids
first_kid_scope scope (Text text rest) h = absurd (omega arith)
first_kid_scope scope (Comment text rest) h = absurd (omega arith)
first_kid_scope scope (Instruction target value rest) h = absurd (omega arith)

if_any : (P : ℕ → Type 0) (nodes : Nodes) (k : ℕ) → (0 < size nodes → P k) → IfSome (number_if_any nodes k) P
if_any P NoNodes k p = tt
if_any P (Element name attributes kids rest) k p = p (omega arith)
if_any P (Text text rest) k p = p (omega arith)
if_any P (Comment text rest) k p = p (omega arith)
if_any P (Instruction target value rest) k p = p (omega arith)

-- a node stands inside element n
abbrev pub IsInside : Nodes → ℕ → Option ℕ → Type 0
IsInside tree n o = IfSome o (λ k. scope_at outermost tree k ≡ scope_inside tree n)

pub kids_inside : (tree : Nodes) (n : ℕ) → IsInside tree n (first_kid_of tree n)
kids_inside tree n =
    let nodes = from_node tree n in
    if_any (λ k. scope_at outermost tree k ≡ scope_inside tree n) (kids_of nodes) (suc n)
    (λ h. (let next : suc n ≡ n + 1 = omega arith in
    ap (scope_at outermost tree) next ∙ scope_on outermost tree n 1 (some_kids nodes h) ∙ first_kid_scope (scope_at outermost tree n) nodes h))

next_same : (tree : Nodes) (k : ℕ) → IfSome (next_of tree k) (λ m. scope_at outermost tree m ≡ scope_at outermost tree k)
next_same tree k =
    let nodes = from_node tree k in
    if_any (λ m. scope_at outermost tree m ≡ scope_at outermost tree k) (rest_of nodes) (suc (k + size (kids_of nodes)))
    (λ h. (let next : suc (k + size (kids_of nodes)) ≡ k + suc (size (kids_of nodes)) = omega arith in
    ap (scope_at outermost tree) next ∙ scope_on outermost tree k (suc (size (kids_of nodes))) (some_rest nodes h)
    ∙ scope_of_rest (scope_at outermost tree k) nodes))

pub next_inside : (tree : Nodes) (n k : ℕ) → IsInside tree n (Some k) → IsInside tree n (next_of tree k)
next_inside tree n k here = which (next_of tree k) (next_same tree k)
  where
    which : (o : Option ℕ) → IfSome o (λ m. scope_at outermost tree m ≡ scope_at outermost tree k) → IsInside tree n o
    which None same = tt
    which (Some m) same = same ∙ here

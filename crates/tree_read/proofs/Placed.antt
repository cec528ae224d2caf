-- The scope in which a node stands, and that of its kids and of the node behind it.
use Rattle.std.proofs.Common.{◌≡◌, ℕ, suc, ◌+◌, ◌<◌, ap, ◌∙◌, arith}
use Rattle.xml_spec.specs.Tree.{Nodes, NoNodes, Element, Text, Comment, Instruction}
use Rattle.xml_spec.specs.Numbering.{size, from_node, kids_of, rest_of}
use Rattle.xml_spec.specs.Names.{Scope, outermost, inner_scope}
use Rattle.xml_spec.specs.Canonical.{scope_at}
use Rattle.tree_read.specs.Children.{scope_of_kids}
use Rattle.saml_tree.proofs.Numbers.{some_kids, some_rest}
use Rattle.saml_tree.proofs.Placed.{scope_first, scope_in_kids, scope_on, scope_of_rest}

scope_of_first_kid : (scope : Scope) (nodes : Nodes) → 0 < size (kids_of nodes) → scope_at scope nodes 1 ≡ scope_of_kids scope nodes
scope_of_first_kid scope NoNodes h = absurd (omega arith)
scope_of_first_kid scope (Element name attributes kids rest) h =
    scope_in_kids scope name attributes kids rest 0 h ∙ scope_first (inner_scope attributes scope) kids
scope_of_first_kid scope (Text text rest) h = absurd (omega arith)
scope_of_first_kid scope (Comment text rest) h = absurd (omega arith)
scope_of_first_kid scope (Instruction target value rest) h = absurd (omega arith)

pub kids_scope : (tree : Nodes) (n : ℕ) → 0 < size (kids_of (from_node tree n)) →
    scope_at outermost tree (suc n) ≡ scope_of_kids (scope_at outermost tree n) (from_node tree n)
kids_scope tree n h =
    let next : suc n ≡ n + 1 = omega arith in
    ap (scope_at outermost tree) next ∙ scope_on outermost tree n 1 (some_kids (from_node tree n) h)
    ∙ scope_of_first_kid (scope_at outermost tree n) (from_node tree n) h

pub rest_scope : (tree : Nodes) (n : ℕ) → 0 < size (rest_of (from_node tree n)) →
    scope_at outermost tree (suc (n + size (kids_of (from_node tree n)))) ≡ scope_at outermost tree n
rest_scope tree n h =
    let next : suc (n + size (kids_of (from_node tree n))) ≡ n + suc (size (kids_of (from_node tree n))) = omega arith in
    ap (scope_at outermost tree) next
    ∙ scope_on outermost tree n (suc (size (kids_of (from_node tree n)))) (some_rest (from_node tree n) h)
    ∙ scope_of_rest (scope_at outermost tree n) (from_node tree n)

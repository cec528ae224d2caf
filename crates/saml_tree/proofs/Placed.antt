-- The scope in which a node stands, told on from another node.
use Rattle.std.proofs.Common.{◌≡◌, ℕ, zero, suc, ◌+◌, ◌-◌, ◌<◌, ◌≤◌, ltb, List, refl, sym, ap, ◌∙◌, inl, inr, arith}
use Rattle.std.proofs.lemmas.Bool.{cases_lt, cond-true, cond-false, lt-ltb, le-ltb}
use Rattle.xml_spec.specs.Tree.{Attribute, Nodes, NoNodes, Element, Text, Comment, Instruction}
use Rattle.xml_spec.specs.Numbering.{size, from_node, kids_of}
use Rattle.xml_spec.specs.Names.{Scope, inner_scope}
use Rattle.xml_spec.specs.Canonical.{scope_at}
use Rattle.saml_tree.proofs.Numbers.{in_kids, in_rest, left_from}

pub scope_first : (scope : Scope) (nodes : Nodes) → scope_at scope nodes 0 ≡ scope
scope_first scope NoNodes = refl
scope_first scope (Element name attributes kids rest) = refl
scope_first scope (Text text rest) = refl
scope_first scope (Comment text rest) = refl
scope_first scope (Instruction target value rest) = refl

pub scope_in_kids : (scope : Scope) (name : List ℕ) (attributes : List Attribute) (kids rest : Nodes) (k : ℕ) → k < size kids →
    scope_at scope (Element name attributes kids rest) (suc k) ≡ scope_at (inner_scope attributes scope) kids k
scope_in_kids scope name attributes kids rest k h = cond-true (ltb k (size kids)) _ _ (lt-ltb _ _ h)

scope_in_rest : (scope : Scope) (name : List ℕ) (attributes : List Attribute) (kids rest : Nodes) (k : ℕ) → size kids ≤ k →
    scope_at scope (Element name attributes kids rest) (suc k) ≡ scope_at scope rest (k - size kids)
scope_in_rest scope name attributes kids rest k h = cond-false (ltb k (size kids)) _ _ (le-ltb _ _ h)

-- to count on from a node
pub scope_on : (scope : Scope) (nodes : Nodes) (k j : ℕ) → j < size (from_node nodes k) →
    scope_at scope nodes (k + j) ≡ scope_at (scope_at scope nodes k) (from_node nodes k) j
scope_on scope NoNodes k j h = absurd (omega arith)
scope_on scope (Element name attributes kids rest) zero j h =
    let same : 0 + j ≡ j = omega arith in ap (scope_at scope (Element name attributes kids rest)) same
scope_on scope (Element name attributes kids rest) (suc k) j h =
    let next : suc k + j ≡ suc (k + j) = omega arith in
    elim (cases_lt k (size kids)) [
      | inl less ↦
          let here = in_kids name attributes kids rest k less in
          let h' : j < size (from_node kids k) = omega (arith, ap size here) in
          ap (scope_at scope (Element name attributes kids rest)) next
          ∙ scope_in_kids scope name attributes kids rest (k + j) (omega (arith, left_from kids k))
          ∙ scope_on (inner_scope attributes scope) kids k j h'
          ∙ (λ i. scope_at (sym (scope_in_kids scope name attributes kids rest k less) i) (sym here i) j)
      | inr past ↦
          let here = in_rest name attributes kids rest k past in
          let h' : j < size (from_node rest (k - size kids)) = omega (arith, ap size here) in
          let place : k + j - size kids ≡ k - size kids + j = omega arith in
          ap (scope_at scope (Element name attributes kids rest)) next
          ∙ scope_in_rest scope name attributes kids rest (k + j) (omega arith) ∙ ap (scope_at scope rest) place
          ∙ scope_on scope rest (k - size kids) j h'
          ∙ (λ i. scope_at (sym (scope_in_rest scope name attributes kids rest k past) i) (sym here i) j)
    ]
scope_on scope (Text text rest) zero j h = let same : 0 + j ≡ j = omega arith in ap (scope_at scope (Text text rest)) same
scope_on scope (Text text rest) (suc k) j h =
    let next : suc k + j ≡ suc (k + j) = omega arith in ap (scope_at scope (Text text rest)) next ∙ scope_on scope rest k j h
scope_on scope (Comment text rest) zero j h = let same : 0 + j ≡ j = omega arith in ap (scope_at scope (Comment text rest)) same
scope_on scope (Comment text rest) (suc k) j h =
    let next : suc k + j ≡ suc (k + j) = omega arith in ap (scope_at scope (Comment text rest)) next ∙ scope_on scope rest k j h
scope_on scope (Instruction target value rest) zero j h =
    let same : 0 + j ≡ j = omega arith in ap (scope_at scope (Instruction target value rest)) same
scope_on scope (Instruction target value rest) (suc k) j h =
    let next : suc k + j ≡ suc (k + j) = omega arith in
    ap (scope_at scope (Instruction target value rest)) next ∙ scope_on scope rest k j h

-- behind the first node of a list the scope is that of the list
pub scope_of_rest : (scope : Scope) (nodes : Nodes) → scope_at scope nodes (suc (size (kids_of nodes))) ≡ scope
scope_of_rest scope NoNodes = refl
scope_of_rest scope (Element name attributes kids rest) =
    let none : size kids - size kids ≡ 0 = omega arith in
    scope_in_rest scope name attributes kids rest (size kids) (omega arith) ∙ ap (scope_at scope rest) none ∙ scope_first scope rest
scope_of_rest scope (Text text rest) = scope_first scope rest
scope_of_rest scope (Comment text rest) = scope_first scope rest
scope_of_rest scope (Instruction target value rest) = scope_first scope rest

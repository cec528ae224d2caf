-- The scope of a node is that of the element around it with what that element declares.
use Rattle.std.proofs.Common.{◌≡◌, ℕ, zero, suc, ◌+◌, ◌-◌, ◌<◌, ◌≤◌, Bool, true, false, cond, ltb, List, Option, Some, None, refl, sym, ap, ◌∙◌, inl, inr, arith}
use Rattle.std.specs.Option.{option_map, option_map_or}
use Rattle.std.proofs.lemmas.Bool.{cases_lt, cond-true, cond-false, lt-ltb, le-ltb}
use Rattle.xml_spec.specs.Tree.{Attribute, Nodes, NoNodes, Element, Text, Comment, Instruction}
use Rattle.xml_spec.specs.Numbering.{size, from_node, parent_of}
use Rattle.xml_spec.specs.Names.{Scope, inner_scope}
use Rattle.xml_spec.specs.Canonical.{scope_at}
use Rattle.saml_tree.specs.Documents.{kind_of}
use Rattle.saml_tree.specs.declared.node.NodeKind.TheVariants as kinds
use Rattle.saml_tree.specs.declared.node.NodeNo.{NodeNo}
use Rattle.saml_tree.specs.Elements.{attributes_in}

-- a node that stands in the list itself is in the list's scope
pub scope_outside : (scope : Scope) (nodes : Nodes) (k : ℕ) → parent_of nodes k ≡ None → scope_at scope nodes k ≡ scope
scope_outside scope NoNodes k e = refl
scope_outside scope (Element name attributes kids rest) zero e = refl
scope_outside scope (Element name attributes kids rest) (suc k) e =
    which (ltb k (size kids)) (parent_of rest (k - size kids)) refl e (scope_outside scope rest (k - size kids))
  where
    which : (b : Bool) (o : Option ℕ) → parent_of rest (k - size kids) ≡ o →
        cond b (Some (option_map_or (λ p. suc p) (parent_of kids k) 0)) (option_map (λ p. suc (size kids + p)) o) ≡ None →
        (parent_of rest (k - size kids) ≡ None → scope_at scope rest (k - size kids) ≡ scope) →
        cond b (scope_at (inner_scope attributes scope) kids k) (scope_at scope rest (k - size kids)) ≡ scope
    which true o is e later = absurd (let clash : Some (option_map_or (λ p. suc p) (parent_of kids k) 0) ≡ None = e in cc)
    which false None is e later = later is
    which false (Some p) is e later = absurd (let clash : Some (suc (size kids + p)) ≡ None = e in cc)
scope_outside scope (Text text rest) zero e = refl
scope_outside scope (Text text rest) (suc k) e = scope_outside scope rest k (no_parent (parent_of rest k) e)
  where
    no_parent : (o : Option ℕ) → option_map (λ p. suc p) o ≡ None → o ≡ None
    no_parent None e = refl
    no_parent (Some p) e = absurd (let clash : Some (suc p) ≡ None = e in cc)
scope_outside scope (Comment text rest) zero e = refl
scope_outside scope (Comment text rest) (suc k) e = scope_outside scope rest k (no_parent (parent_of rest k) e)
  where
    no_parent : (o : Option ℕ) → option_map (λ p. suc p) o ≡ None → o ≡ None
    no_parent None e = refl
    no_parent (Some p) e = absurd (let clash : Some (suc p) ≡ None = e in cc)
scope_outside scope (Instruction target value rest) zero e = refl
scope_outside scope (Instruction target value rest) (suc k) e = scope_outside scope rest k (no_parent (parent_of rest k) e)
  where
    no_parent : (o : Option ℕ) → option_map (λ p. suc p) o ≡ None → o ≡ None
    no_parent None e = refl
    no_parent (Some p) e = absurd (let clash : Some (suc p) ≡ None = e in cc)

-- node p is the element around node k
pub record IsAround (scope : Scope) (nodes : Nodes) (k p : ℕ) : Type 0 where
  pub before : p < k
  pub element : kind_of (from_node nodes p) ≡ Some kinds.Element
  pub inside : scope_at scope nodes k ≡ inner_scope (attributes_in (from_node nodes p)) (scope_at scope nodes p)

-- one node or one element on
on_by_one : (scope : Scope) (nodes rest : Nodes) (k p : ℕ) → from_node nodes (suc p) ≡ from_node rest p → scope_at scope nodes (suc p) ≡ scope_at scope rest p →
    scope_at scope nodes (suc k) ≡ scope_at scope rest k → IsAround scope rest k p → IsAround scope nodes (suc k) (suc p)
on_by_one scope nodes rest k p here there behind around = record {
  before = omega (arith, around.before);
  element = ap kind_of here ∙ around.element;
  inside = behind ∙ around.inside ∙ (λ i. inner_scope (attributes_in (sym here i)) (sym there i));
}

the_same : (m n : ℕ) → Some m ≡ Some n → m ≡ n
the_same m n e = cc

mapped : (f : ℕ → ℕ) (o : Option ℕ) (p : ℕ) → option_map f o ≡ Some p → (q : ℕ) × (o ≡ Some q) × (f q ≡ p)
mapped f None p e = absurd (let clash : None ≡ Some p = e in cc)
mapped f (Some q) p e = (q, refl, the_same (f q) p e)

module _ (name : List ℕ) (attributes : List Attribute) (kids rest : Nodes) where
  kid_from : (k : ℕ) → k < size kids → from_node (Element name attributes kids rest) (suc k) ≡ from_node kids k
  kid_from k h = cond-true (ltb k (size kids)) _ _ (lt-ltb _ _ h)

  kid_scope : (scope : Scope) (k : ℕ) → k < size kids → scope_at scope (Element name attributes kids rest) (suc k) ≡ scope_at (inner_scope attributes scope) kids k
  kid_scope scope k h = cond-true (ltb k (size kids)) _ _ (lt-ltb _ _ h)

  rest_from : (k : ℕ) → size kids ≤ k → from_node (Element name attributes kids rest) (suc k) ≡ from_node rest (k - size kids)
  rest_from k h = cond-false (ltb k (size kids)) _ _ (le-ltb _ _ h)

  rest_scope : (scope : Scope) (k : ℕ) → size kids ≤ k → scope_at scope (Element name attributes kids rest) (suc k) ≡ scope_at scope rest (k - size kids)
  rest_scope scope k h = cond-false (ltb k (size kids)) _ _ (le-ltb _ _ h)

  kid_parent : (k : ℕ) → k < size kids → parent_of (Element name attributes kids rest) (suc k) ≡ Some (option_map_or (λ p. suc p) (parent_of kids k) 0)
  kid_parent k h = cond-true (ltb k (size kids)) _ _ (lt-ltb _ _ h)

  rest_parent : (k : ℕ) → size kids ≤ k →
      parent_of (Element name attributes kids rest) (suc k) ≡ option_map (λ p. suc (size kids + p)) (parent_of rest (k - size kids))
  rest_parent k h = cond-false (ltb k (size kids)) _ _ (le-ltb _ _ h)

  -- a kid of the element, or a node below one
  around_kid : (scope : Scope) (k p : ℕ) → k < size kids → (o : Option ℕ) → parent_of kids k ≡ o → option_map_or (λ q. suc q) o 0 ≡ p →
      ((q : ℕ) → parent_of kids k ≡ Some q → IsAround (inner_scope attributes scope) kids k q) →
      scope_at (inner_scope attributes scope) kids k ≡ scope_at (inner_scope attributes scope) kids k →
      (parent_of kids k ≡ None → scope_at (inner_scope attributes scope) kids k ≡ inner_scope attributes scope) →
      IsAround scope (Element name attributes kids rest) (suc k) p
  around_kid scope k zero h None is e later same none = record {
    before = omega arith;
    element = refl;
    inside = kid_scope scope k h ∙ none is;
  }
  around_kid scope k (suc p) h None is e later same none = absurd (omega arith)
  around_kid scope k zero h (Some q) is e later same none = absurd (omega arith)
  around_kid scope k (suc p) h (Some q) is e later same none =
      let one : q ≡ p = omega arith in
      let around = later p (is ∙ ap Some one) in
      let low : p < size kids = omega (arith, around.before) in
      record {
        before = omega (arith, around.before);
        element = ap kind_of (kid_from p low) ∙ around.element;
        inside =
            kid_scope scope k h ∙ around.inside
            ∙ (λ i. inner_scope (attributes_in (sym (kid_from p low) i)) (sym (kid_scope scope p low) i));
      }

  -- a node below one behind the element
  around_rest : (scope : Scope) (k p q : ℕ) → size kids ≤ k → suc (size kids + q) ≡ p → IsAround scope rest (k - size kids) q →
      IsAround scope (Element name attributes kids rest) (suc k) p
  around_rest scope k zero q h e around = absurd (omega arith)
  around_rest scope k (suc p) q h e around =
      let past : size kids ≤ p = omega arith in
      let place : p - size kids ≡ q = omega arith in
      record {
        before = omega (arith, around.before);
        element = ap kind_of (rest_from p past ∙ ap (from_node rest) place) ∙ around.element;
        inside =
            rest_scope scope k h ∙ around.inside
            ∙ (λ i. inner_scope (attributes_in (sym (rest_from p past ∙ ap (from_node rest) place) i))
            (sym (rest_scope scope p past ∙ ap (scope_at scope rest) place) i));
      }

pub scope_inside : (scope : Scope) (nodes : Nodes) (k p : ℕ) → parent_of nodes k ≡ Some p → IsAround scope nodes k p
scope_inside scope NoNodes k p e = absurd (let clash : None ≡ Some p = e in cc)
scope_inside scope (Element name attributes kids rest) zero p e = absurd (let clash : None ≡ Some p = e in cc)
scope_inside scope (Element name attributes kids rest) (suc k) p e = elim (cases_lt k (size kids)) [
  | inl less ↦
      around_kid name attributes kids rest scope k p less (parent_of kids k) refl
      (the_same _ _ (sym (kid_parent name attributes kids rest k less) ∙ e))
      (λ q is. scope_inside (inner_scope attributes scope) kids k q is) refl (scope_outside (inner_scope attributes scope) kids k)
  | inr past ↦
      (let found = mapped (λ q. suc (size kids + q)) (parent_of rest (k - size kids)) p (sym (rest_parent name attributes kids rest k past) ∙ e) in
      around_rest name attributes kids rest scope k p found.0 past found.2 (scope_inside scope rest (k - size kids) found.0 found.1))
]
scope_inside scope (Text text rest) zero p e = absurd (let clash : None ≡ Some p = e in cc)
scope_inside scope (Text text rest) (suc k) p e =
    let found = mapped (λ q. suc q) (parent_of rest k) p e in
    rw (← found.2) (on_by_one scope (Text text rest) rest k found.0 refl refl refl (scope_inside scope rest k found.0 found.1))
scope_inside scope (Comment text rest) zero p e = absurd (let clash : None ≡ Some p = e in cc)
scope_inside scope (Comment text rest) (suc k) p e =
    let found = mapped (λ q. suc q) (parent_of rest k) p e in
    rw (← found.2) (on_by_one scope (Comment text rest) rest k found.0 refl refl refl (scope_inside scope rest k found.0 found.1))
scope_inside scope (Instruction target value rest) zero p e = absurd (let clash : None ≡ Some p = e in cc)
scope_inside scope (Instruction target value rest) (suc k) p e =
    let found = mapped (λ q. suc q) (parent_of rest k) p e in
    rw (← found.2) (on_by_one scope (Instruction target value rest) rest k found.0 refl refl refl (scope_inside scope rest k found.0 found.1))

pub element_around : (scope : Scope) (nodes : Nodes) (k : ℕ) (o : Option NodeNo) (element : NodeNo) → o ≡ Some element →
    option_map (λ (m : NodeNo). m.0) o ≡ parent_of nodes k → IsAround scope nodes k element.0
element_around scope nodes k o element is e =
    scope_inside scope nodes k element.0 (sym e ∙ ap (option_map (λ (m : NodeNo). m.0)) is)

pub none_around : (scope : Scope) (nodes : Nodes) (k : ℕ) (o : Option NodeNo) → o ≡ None →
    option_map (λ (m : NodeNo). m.0) o ≡ parent_of nodes k → scope_at scope nodes k ≡ scope
none_around scope nodes k o is e = scope_outside scope nodes k (sym e ∙ ap (option_map (λ (m : NodeNo). m.0)) is)

-- What the names of a document's attributes declare.
use Rattle.std.proofs.Common.{◌≡◌, ℕ, zero, suc, ◌-◌, Bool, true, false, cond, ltb, List, [], ◌∷◌, Option, Some, None, IfSome, refl, ◌∙◌, subst}
use Rattle.std.specs.List.{AllByRecursion, slice_get}
use Rattle.std.specs.Option.{option_and_then}
use Rattle.xml_spec.specs.Characters.{IsQualifiedName, prefix_of, local_of}
use Rattle.xml_spec.specs.Tree.{Attribute, Nodes, NoNodes, Element, Text, Comment, Instruction}
use Rattle.xml_spec.specs.Numbering.{size, from_node}
use Rattle.xml_spec.specs.Names.{Scope, outermost, inner_scope, AreNamed, HasNames, declared_prefix}
use Rattle.xml_spec.specs.Canonical.{scope_at}
use Rattle.saml_tree.specs.Documents.{attributes_of}
use Rattle.saml_tree.specs.NodeNames.{attribute_at}
use Rattle.excl_c14n.specs.Shown.{prefix_declared_by}
use Rattle.excl_c14n.proofs.Parts.{declared_by_parts}

-- the nodes from node k on are named well in the scope in which they stand
pub named_from : (scope : Scope) (nodes : Nodes) (k : ℕ) → AreNamed scope nodes → AreNamed (scope_at scope nodes k) (from_node nodes k)
named_from scope NoNodes k named = tt
named_from scope (Element name attributes kids rest) zero named = named
named_from scope (Element name attributes kids rest) (suc k) named =
    which (ltb k (size kids)) (named_from (inner_scope attributes scope) kids k named.1) (named_from scope rest (k - size kids) named.2)
  where
    which : (b : Bool) → AreNamed (scope_at (inner_scope attributes scope) kids k) (from_node kids k) →
        AreNamed (scope_at scope rest (k - size kids)) (from_node rest (k - size kids)) →
        AreNamed (cond b (scope_at (inner_scope attributes scope) kids k) (scope_at scope rest (k - size kids)))
        (cond b (from_node kids k) (from_node rest (k - size kids)))
    which true one other = one
    which false one other = other
named_from scope (Text text rest) zero named = named
named_from scope (Text text rest) (suc k) named = named_from scope rest k named
named_from scope (Comment text rest) zero named = named
named_from scope (Comment text rest) (suc k) named = named_from scope rest k named
named_from scope (Instruction target value rest) zero named = named
named_from scope (Instruction target value rest) (suc k) named = named_from scope rest k named

qualified_at : (attributes : List Attribute) (i : ℕ) (a : Attribute) → AllByRecursion (λ (b : Attribute). IsQualifiedName b.name) attributes →
    slice_get attributes i ≡ Some a → IsQualifiedName a.name
qualified_at [] i a each e = absurd (let clash : None ≡ Some a = e in cc)
qualified_at (b ∷ attributes) zero a each e = let same : b ≡ a = cc in subst (λ (c : Attribute). IsQualifiedName c.name) same each.0
qualified_at (b ∷ attributes) (suc i) a each e = qualified_at attributes i a each.1 e

qualified_in : (scope : Scope) (nodes : Nodes) (i : ℕ) (a : Attribute) → AreNamed scope nodes →
    option_and_then (λ attributes. slice_get attributes i) (attributes_of nodes) ≡ Some a → IsQualifiedName a.name
qualified_in scope NoNodes i a named e = absurd (let clash : None ≡ Some a = e in cc)
qualified_in scope (Element name attributes kids rest) i a named e = qualified_at attributes i a named.0.all_qualified e
qualified_in scope (Text text rest) i a named e = absurd (let clash : None ≡ Some a = e in cc)
qualified_in scope (Comment text rest) i a named e = absurd (let clash : None ≡ Some a = e in cc)
qualified_in scope (Instruction target value rest) i a named e = absurd (let clash : None ≡ Some a = e in cc)

attribute_qualified : (tree : Nodes) (n i : ℕ) → HasNames tree → IfSome (attribute_at tree n i) (λ a. IsQualifiedName a.name)
attribute_qualified tree n i named = which (attribute_at tree n i) refl
  where
    which : (o : Option Attribute) → attribute_at tree n i ≡ o → IfSome o (λ a. IsQualifiedName a.name)
    which None e = tt
    which (Some a) e = qualified_in (scope_at outermost tree n) (from_node tree n) i a (named_from outermost tree n named) e

-- what the name of attribute i declares, whose parts these are
pub attribute_declares : (tree : Nodes) (n i : ℕ) (prefix local : List ℕ) → HasNames tree →
    IfSome (attribute_at tree n i) (λ a. (prefix ≡ prefix_of a.name) × (local ≡ local_of a.name)) →
    IfSome (attribute_at tree n i) (λ a. prefix_declared_by prefix local ≡ declared_prefix a.name)
attribute_declares tree n i prefix local named parts = which (attribute_at tree n i) (attribute_qualified tree n i named) parts
  where
    which : (o : Option Attribute) → IfSome o (λ a. IsQualifiedName a.name) → IfSome o (λ a. (prefix ≡ prefix_of a.name) × (local ≡ local_of a.name)) →
        IfSome o (λ a. prefix_declared_by prefix local ≡ declared_prefix a.name)
    which None q parts = tt
    which (Some a) q parts = (λ i. prefix_declared_by (parts.0 i) (parts.1 i)) ∙ declared_by_parts a.name q

pub if_some_weaker : {X : Type 0} {P Q : X → Type 0} (o : Option X) → ((x : X) → P x → Q x) → IfSome o P → IfSome o Q
if_some_weaker None f h = tt
if_some_weaker (Some x) f h = f x h

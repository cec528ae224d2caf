-- What stands at a node of a tree, and in which scope.
use Rattle.std.proofs.Common.{◌≡◌, ℕ, suc, ◌+◌, ◌<◌, List, [], None, sym, ap, ◌∙◌, subst, arith}
use Rattle.xml_spec.specs.Tree.{Attribute, Nodes, Element}
use Rattle.xml_spec.specs.Numbering.{size, from_node, kids_of, rest_of}
use Rattle.xml_spec.specs.Names.{Scope, outermost, inner_scope, proper_attributes}
use Rattle.xml_spec.specs.Canonical.{alone, scope_at, canonical, canonical_nodes}
use Rattle.saml_tree.specs.Elements.{attributes_in}
use Rattle.tree_read.specs.Texts.{text_in, text_of, attribute_text, value_of}
use Rattle.saml_tree.proofs.Numbers.{kids_from, rest_from}
use Rattle.tree_read.proofs.Placed.{kids_scope, rest_scope}
use Rattle.tree_read.specs.Children.{scope_of_kids, element_children, elements_of}

-- these are node k of the tree and those behind it in its list, and they stand in this scope
pub record Stands (tree : Nodes) (k : ℕ) (scope : Scope) (nodes : Nodes) : Type 0 where
  pub found : from_node tree k ≡ nodes
  pub inside : scope_at outermost tree k ≡ scope

pub some : (n : ℕ) → 0 < suc n
some n = omega arith

module _ {tree : Nodes} {k : ℕ} {scope : Scope} {name : List ℕ} {attributes : List Attribute} {kids rest : Nodes} (here : Stands tree k scope (Element name attributes kids rest)) where
  pub first_kid : 0 < size kids → Stands tree (suc k) (inner_scope attributes scope) kids
  first_kid h =
      let there : 0 < size (kids_of (from_node tree k)) = subst (λ nodes. 0 < size (kids_of nodes)) (sym here.found) h in
      record {
        found = kids_from tree k there ∙ ap kids_of here.found;
        inside = kids_scope tree k there ∙ (λ i. scope_of_kids (here.inside i) (here.found i));
      }

  pub behind : 0 < size rest → Stands tree (suc (k + size kids)) scope rest
  behind h =
      let there : 0 < size (rest_of (from_node tree k)) = subst (λ nodes. 0 < size (rest_of nodes)) (sym here.found) h in
      record {
        found = ap (λ nodes. from_node tree (suc (k + size (kids_of nodes)))) (sym here.found) ∙ rest_from tree k there ∙ ap rest_of here.found;
        inside = ap (λ nodes. scope_at outermost tree (suc (k + size (kids_of nodes)))) (sym here.found) ∙ rest_scope tree k there ∙ here.inside;
      }

module _ {tree : Nodes} {k : ℕ} {scope : Scope} {nodes : Nodes} (here : Stands tree k scope nodes) where
  pub kids_here : element_children tree k ≡ elements_of (scope_of_kids scope nodes) (suc k) (kids_of nodes)
  kids_here = λ i. elements_of (scope_of_kids (here.inside i) (here.found i)) (suc k) (kids_of (here.found i))

  pub attribute_here : (local : List ℕ) → attribute_text tree k local ≡ value_of local (proper_attributes (attributes_in nodes))
  attribute_here local = ap (λ nodes. value_of local (proper_attributes (attributes_in nodes))) here.found

  pub text_here : text_of tree k ≡ text_in (kids_of nodes)
  text_here = ap (λ nodes. text_in (kids_of nodes)) here.found

  pub canonical_here : canonical tree k None [] ≡ canonical_nodes [] scope [] (alone nodes)
  canonical_here = λ i. canonical_nodes [] (here.inside i) [] (alone (here.found i))

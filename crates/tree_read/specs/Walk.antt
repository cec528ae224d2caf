-- The element children one after the other: those that are still to come of a document.
use Rattle.std.specs.Prelude.{◌≡◌, ℕ, ◌<◌, ◌≤◌, ◌⊎◌, List, [], ◌∷◌, Option, None, Some, IfSome}
use Rattle.std.specs.Option.{option_map_or}
use mathlib.Core.Path.{refl}
use Rattle.std.specs.Coded.{Coded, code_by, coded×, coded_list, coded_ℕ}
use Rattle.xml_spec.specs.Tree.{Nodes, Element}
use Rattle.xml_spec.specs.Numbering.{size, from_node, next_of}
use Rattle.xml_spec.specs.Codes.{coded_bytes}
use Rattle.xml_spec.specs.Names.{Scope, outermost, inner_scope, ExpandedName, element_name}
use Rattle.xml_spec.specs.Canonical.{scope_at}
use Rattle.saml_tree.specs.Documents.{DocumentView, coded_document}
use Rattle.tree_read.specs.declared.at.At.{At}
use Rattle.tree_read.specs.Children.{Child, child, elements_of}

-- the document, and the element children of an element in it that are left
pub record ChildrenView : Type 0 where
  pub document : DocumentView
  pub left : List Child

abbrev pub coded_child : Coded Child
coded_child =
    code_by (ℕ × (List ℕ × List ℕ)) (coded× coded_ℕ (coded× coded_bytes coded_bytes)) (λ c. (c.number, (c.name.namespace, c.name.local)))
    (λ p. record { number = p.0; name = record { namespace = p.1.0; local = p.1.1 } }) (λ _. refl)

-- the document and what is left tell a walk from others
abbrev pub coded_children : Coded ChildrenView
coded_children =
    code_by (DocumentView × List Child) (coded× coded_document (coded_list coded_child)) (λ w. (w.document, w.left))
    (λ p. record { document = p.0; left = p.1 }) (λ _. refl)

-- the name of the first node of a list that stands in this scope, empty where it is no element
abbrev pub first_name : Scope → Nodes → ExpandedName
first_name scope (Element name attributes kids rest) = element_name (inner_scope attributes scope) name
first_name scope _ = record { namespace = []; local = [] }

-- the name of node k
abbrev pub name_of_node : Nodes → ℕ → ExpandedName
name_of_node tree k = first_name (scope_at outermost tree k) (from_node tree k)

-- the node, if there is one, is one of the tree below its first
abbrev pub IsPlace : Nodes → Option ℕ → Type 0
IsPlace tree o = IfSome o (λ k. (0 < k) × (k < size tree))

-- the elements among a node, if there is one, and those behind it in its list
abbrev pub children_from : Nodes → Option ℕ → List Child
children_from tree o = option_map_or (λ k. elements_of (scope_at outermost tree k) k (from_node tree k)) o []

-- the same, where the node is the first of them
abbrev pub children_first : Nodes → Option ℕ → List Child
children_first tree o = option_map_or (λ k. child k (name_of_node tree k) ∷ children_from tree (next_of tree k)) o []

-- node n is that node or stands behind it
abbrev pub IsFrom : Option ℕ → ℕ → Type 0
IsFrom None n = ⊥
IsFrom (Some k) n = k ≤ n

-- there is no child, or just one, which has this name
abbrev pub IsOneAtMost : ExpandedName → List Child → Type 0
IsOneAtMost name children = (children ≡ []) ⊎ ((k : ℕ) × (children ≡ child k name ∷ []))

-- the child that an element is
abbrev pub child_at : At → Child
child_at at = child at.node.0 (name_of_node at.doc.now.tree at.node.0)

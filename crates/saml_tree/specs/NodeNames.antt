-- The names that are shown of a node.
use Rattle.std.specs.Prelude.{◌≡◌, ℕ, List, [], Option, None, Some, IsSome, if◌then◌else◌, slice_get}
use Rattle.std.specs.Option.{option_map, option_and_then}
use Rattle.xml_spec.specs.Characters.{prefix_of, local_of}
use Rattle.xml_spec.specs.Tree.{Attribute, Nodes, Element, Instruction}
use Rattle.xml_spec.specs.Numbering.{from_node}
use Rattle.xml_spec.specs.Names.{Binding, Scope, outermost, inner_scope, element_name, attribute_name, is_declaration, binding_of, xmlns_namespace}
use Rattle.xml_spec.specs.Canonical.{scope_at}
use Rattle.saml_tree.specs.Documents.{kind_of, attributes_of}
use Rattle.saml_tree.specs.declared.node.NodeKind.TheVariants as kinds
use Rattle.saml_tree.specs.declared.node.NameAt.{NameAt}
use Rattle.saml_tree.specs.declared.node.NameAt.TheVariants as places

-- a name in two parts, and the namespace that it is in
pub record ShownName : Type 0 where
  pub prefix : List ℕ
  pub local : List ℕ
  pub namespace : List ℕ

abbrev pub shown : List ℕ → List ℕ → ShownName
shown name namespace = record { prefix = prefix_of name; local = local_of name; namespace = namespace }

-- of the first node of a list that stands in this scope: the name of an element; the target of an instruction
abbrev pub shown_name : Scope → Nodes → Option ShownName
shown_name scope (Element name attributes kids rest) =
    Some (shown name (element_name (inner_scope attributes scope) name).namespace)
shown_name scope (Instruction target value rest) = Some (record { prefix = []; local = target; namespace = [] })
shown_name scope _ = None

-- the name of node k
abbrev pub name_at : Nodes → ℕ → Option ShownName
name_at tree k = shown_name (scope_at outermost tree k) (from_node tree k)

-- attribute i of node k
abbrev pub attribute_at : Nodes → ℕ → ℕ → Option Attribute
attribute_at tree k i = option_and_then (λ attributes. slice_get attributes i) (attributes_of (from_node tree k))

abbrev pub shown_attribute_name : Scope → Attribute → ShownName
shown_attribute_name scope a =
    shown a.name (if is_declaration a then xmlns_namespace else (attribute_name scope a.name).namespace)

-- the name of attribute i of node k; that of a declaration is in the namespace of xmlns
abbrev pub attribute_name_at : Nodes → ℕ → ℕ → Option ShownName
attribute_name_at tree k i =
    option_and_then (λ attributes. option_map (shown_attribute_name (inner_scope attributes (scope_at outermost tree k)))
    (slice_get attributes i)) (attributes_of (from_node tree k))

-- the binding that attribute i of node k declares
abbrev pub binding_at : Nodes → ℕ → ℕ → Option Binding
binding_at tree k i = option_and_then binding_of (attribute_at tree k i)

-- there is such a place: the node is an element, or it has such an attribute, or such a declaration
abbrev pub IsNameAt : Nodes → NameAt → Type 0
IsNameAt tree (places.Element n) = kind_of (from_node tree n.0) ≡ Some kinds.Element
IsNameAt tree (places.Attribute n i) = IsSome (attribute_at tree n.0 i)
IsNameAt tree (places.Declaration n i) = IsSome (binding_at tree n.0 i)

-- the namespace that the name at this place is in, or that the declaration binds its prefix to
abbrev pub namespace_at : Nodes → NameAt → Option (List ℕ)
namespace_at tree (places.Element n) = option_map (λ name. name.namespace) (name_at tree n.0)
namespace_at tree (places.Attribute n i) = option_map (λ name. name.namespace) (attribute_name_at tree n.0 i)
namespace_at tree (places.Declaration n i) = option_map (λ b. b.namespace) (binding_at tree n.0 i)

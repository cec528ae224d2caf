-- Nodes that are elements, and what stands in their tags.
use Rattle.std.specs.Prelude.{◌≡◌, ℕ, List, [], Some, unwrap_or}
use Rattle.xml_spec.specs.Tree.{Attribute, Nodes}
use Rattle.xml_spec.specs.Numbering.{from_node}
use Rattle.saml_tree.specs.Documents.{kind_of, name_of, attributes_of}
use Rattle.saml_tree.specs.declared.node.NodeKind.TheVariants as kinds

-- node n is an element
abbrev pub IsElement : Nodes → ℕ → Type 0
IsElement tree n = kind_of (from_node tree n) ≡ Some kinds.Element

-- the name of the first node of a list, empty where it has none
abbrev pub name_in : Nodes → List ℕ
name_in nodes = unwrap_or (name_of nodes) []

-- the attributes of the first node of a list, none where it is no element
abbrev pub attributes_in : Nodes → List Attribute
attributes_in nodes = unwrap_or (attributes_of nodes) []

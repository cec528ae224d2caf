-- Where nodes and attributes stand, for the walk from one to the next.
use Rattle.std.specs.Prelude.{◌≡◌, ℕ, ◌+◌, ◌<◌, Bool, ◌&&◌, List, Option}
use Rattle.std.specs.Option.{option_map, option_and_then}
use Rattle.std.specs.Str.{bytes_eq}
use Rattle.xml_spec.specs.Bytes.{is_empty}
use Rattle.xml_spec.specs.Tree.{Attribute, Nodes}
use Rattle.xml_spec.specs.Numbering.{size, from_node, kids_of}
use Rattle.saml_tree.specs.NodeNames.{ShownName, attribute_at}

-- the last of what is below the kid is the last of what is below the node
pub record IsLastKid (tree : Nodes) (node kid : ℕ) : Type 0 where
  pub behind : node < kid
  pub there : kid < size tree
  pub last : kid + size (kids_of (from_node tree kid)) ≡ node + size (kids_of (from_node tree node))

-- the name has no prefix, this local part, and no namespace
abbrev pub is_plain : ShownName → List ℕ → Bool
is_plain name local = is_empty name.prefix && (is_empty name.namespace && bytes_eq name.local local)

-- the value of attribute i of node k
abbrev pub value_at : Nodes → ℕ → Option ℕ → Option (List ℕ)
value_at tree k o = option_and_then (λ i. option_map (λ (a : Attribute). a.value) (attribute_at tree k i)) o

-- IDs: the values of attributes named exactly ID, without a prefix. (SAML Core 1.3.4 and XML Schema, xs:ID: an
-- identifier stands once in a document.)
use Rattle.std.specs.Prelude.{ℕ, suc, ◌+◌, List, [], ◌∷◌, ◌++◌, map, codes, Option, Some, None, if◌then◌else◌}
use Rattle.std.specs.List.{filter_map}
use Rattle.std.specs.Str.{bytes_eq}
use Rattle.xml_spec.specs.Tree.{Attribute, Nodes, NoNodes, Element, Text, Comment, Instruction}
use Rattle.xml_spec.specs.Numbering.{size}
use Rattle.xml_spec.specs.Names.{AreDistinct}

-- the value of an ID and the number of the element that has it
pub record Identifier : Type 0 where
  pub value : List ℕ
  pub node : ℕ

abbrev pub identifier_at : ℕ → Attribute → Option Identifier
identifier_at node a = if bytes_eq a.name (codes "ID") then Some (record { value = a.value; node = node }) else None

-- the IDs in document order; the list begins with this node number
abbrev pub identifiers_from : ℕ → Nodes → List Identifier
identifiers_from k NoNodes = []
identifiers_from k (Element name attributes kids rest) =
    filter_map (identifier_at k) attributes
    ++ identifiers_from (suc k) kids ++ identifiers_from (suc (k + size kids)) rest
identifiers_from k (Text text rest) = identifiers_from (suc k) rest
identifiers_from k (Comment text rest) = identifiers_from (suc k) rest
identifiers_from k (Instruction target value rest) = identifiers_from (suc k) rest

abbrev pub identifiers : Nodes → List Identifier
identifiers tree = identifiers_from 0 tree

-- the element with this ID
abbrev pub node_with : List Identifier → List ℕ → Option ℕ
node_with [] value = None
node_with (identifier ∷ others) value =
    if bytes_eq identifier.value value then Some identifier.node else node_with others value

-- no value stands twice
pub record IsSingle (tree : Nodes) : Type 0 where
  pub once : AreDistinct (map (λ identifier. identifier.value) (identifiers tree))

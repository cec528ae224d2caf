-- The element children of an element, and those of a name: Namespaces in XML 1.0, 2.1 (names are equal where namespace and
-- local name are). Texts, comments and instructions between the children are passed over.
use Rattle.std.specs.Prelude.{ℕ, suc, ◌+◌, Bool, ◌&&◌, List, [], ◌∷◌, if◌then◌else◌}
use Rattle.std.specs.Str.{bytes_eq}
use Rattle.xml_spec.specs.Tree.{Nodes, NoNodes, Element, Text, Comment, Instruction}
use Rattle.xml_spec.specs.Numbering.{size, from_node, kids_of}
use Rattle.xml_spec.specs.Names.{Scope, outermost, inner_scope, ExpandedName, element_name}
use Rattle.xml_spec.specs.Canonical.{scope_at}

-- an element child: its number and its name
pub record Child : Type 0 where
  pub number : ℕ
  pub name : ExpandedName

abbrev pub child : ℕ → ExpandedName → Child
child number name = record { number = number; name = name }

-- the elements of a list that stands in this scope and begins with node k
abbrev pub elements_of : Scope → ℕ → Nodes → List Child
elements_of scope k NoNodes = []
elements_of scope k (Element name attributes kids rest) =
    child k (element_name (inner_scope attributes scope) name) ∷ elements_of scope (suc (k + size kids)) rest
elements_of scope k (Text text rest) = elements_of scope (suc k) rest
elements_of scope k (Comment text rest) = elements_of scope (suc k) rest
elements_of scope k (Instruction target value rest) = elements_of scope (suc k) rest

-- the scope in which the kids of the first node of a list stand
abbrev pub scope_of_kids : Scope → Nodes → Scope
scope_of_kids scope (Element name attributes kids rest) = inner_scope attributes scope
scope_of_kids scope _ = scope

-- the element children of element k, in document order
abbrev pub element_children : Nodes → ℕ → List Child
element_children tree k =
    elements_of (scope_of_kids (scope_at outermost tree k) (from_node tree k)) (suc k) (kids_of (from_node tree k))

-- the names are equal
abbrev pub is_name : ExpandedName → ExpandedName → Bool
is_name wanted name = bytes_eq name.namespace wanted.namespace && bytes_eq name.local wanted.local

-- the numbers of those that have this name
abbrev pub named : ExpandedName → List Child → List ℕ
named wanted [] = []
named wanted (c ∷ others) = if is_name wanted c.name then c.number ∷ named wanted others else named wanted others

-- the children of element k that have this name, in document order
abbrev pub children : Nodes → ℕ → ExpandedName → List ℕ
children tree k wanted = named wanted (element_children tree k)

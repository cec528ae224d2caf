-- The tree that a canonical form spells: Exclusive XML Canonicalization 1.0, 3, and Canonical XML 1.0, 2.
use Rattle.std.specs.Prelude.{ℕ, Bool, true, false, List, [], ◌++◌, map, Option}
use Rattle.xml_spec.specs.Tree.{Attribute, Nodes, NoNodes, Element, Text, Comment, Instruction, with_text}
use Rattle.xml_spec.specs.Names.{Binding, Scope, outermost, inner_scope}
use Rattle.xml_spec.specs.Canonical.{declaration_name, written_declarations, written_attributes, scope_at, kept_element}

-- the attribute that a written declaration is
abbrev pub declaration_of : Binding → Attribute
declaration_of binding = record { name = declaration_name binding.prefix; value = binding.namespace }

-- The nodes that the canonical form of a list of nodes spells: at each element the declarations that are written there,
-- and then its attributes as they are written; comments are gone, and texts that meet are one.
abbrev pub canonical_tree_of : List (List ℕ) → Scope → Scope → Nodes → Nodes
canonical_tree_of listed scope rendered NoNodes = NoNodes
canonical_tree_of listed scope rendered (Element name attributes kids rest) =
    let inner = inner_scope attributes scope in
    let written = written_declarations listed inner rendered name attributes in
    Element name (map declaration_of written ++ written_attributes inner attributes)
    (canonical_tree_of listed inner (written ++ rendered) kids) (canonical_tree_of listed scope rendered rest)
canonical_tree_of listed scope rendered (Text text rest) = with_text text (canonical_tree_of listed scope rendered rest)
canonical_tree_of listed scope rendered (Comment text rest) = canonical_tree_of listed scope rendered rest
canonical_tree_of listed scope rendered (Instruction target value rest) =
    Instruction target value (canonical_tree_of listed scope rendered rest)

-- the list begins with an element
abbrev pub begins_with_element : Nodes → Bool
begins_with_element (Element name attributes kids rest) = true
begins_with_element _ = false

-- the tree that the canonical form of node k spells, without the element `skip`
abbrev pub canonical_tree : Nodes → ℕ → Option ℕ → List (List ℕ) → Nodes
canonical_tree tree k skip listed = canonical_tree_of listed (scope_at outermost tree k) [] (kept_element tree k skip)

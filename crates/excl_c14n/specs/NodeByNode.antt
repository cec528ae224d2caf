-- The canonical form node by node: by the numbers of the nodes, so that one of them can be left out, and with the scope
-- of the list and the bindings that the elements around it have rendered. That the form of an element is the canonical
-- form of the standard is proved in `proofs/Canonical.antt`.
use Rattle.std.specs.Prelude.{◌≡◌, ℕ, suc, ◌+◌, Bool, false, not, ◌&&◌, ◌==◌, List, [], ◌++◌, map, filter, Option, Some, None, if◌then◌else◌}
use Rattle.std.specs.Option.{option_map_or}
use Rattle.std.specs.declared.cmp.Ordering.{Ordering}
use Rattle.xml_spec.specs.Tree.{Attribute, Nodes, NoNodes, Element, Text, Comment, Instruction}
use Rattle.xml_spec.specs.Numbering.{size, from_node}
use Rattle.xml_spec.specs.Names.{Binding, Scope, outermost, attribute_name, inner_scope, is_declaration}
use Rattle.xml_spec.specs.Canonical.{scope_at, escape_text, byte_order, expanded_order, sorted, once, used_prefixes, listed_prefix, is_rendered_anew, written_declarations, written_attributes, print_start, print_end, print_instruction}
use Rattle.xml_spec.specs.Laws.{IsAscending}
use Rattle.saml_tree.specs.NodeNames.{attribute_at}
use Rattle.saml_tree.specs.Elements.{attributes_in}
use Rattle.excl_c14n.specs.Levels.{is_among}

-- the prefixes that are declared at an element, in order
abbrev pub wanted_prefixes : List (List ℕ) → Scope → Scope → List ℕ → List Attribute → List (List ℕ)
wanted_prefixes listed scope rendered name attributes =
    filter (is_rendered_anew scope rendered) (sorted byte_order (once (used_prefixes name attributes ++ map listed_prefix listed)))

-- the order of attributes in this scope, by their expanded names
abbrev pub attribute_order_in : Scope → Attribute → Attribute → Ordering
attribute_order_in scope a b = expanded_order (attribute_name scope a.name) (attribute_name scope b.name)

-- the name of attribute i of node n, empty where there is none
abbrev pub attribute_name_of : Nodes → ℕ → ℕ → List ℕ
attribute_name_of tree n i = option_map_or (λ (a : Attribute). a.name) (attribute_at tree n i) []

-- the order of the attributes of node n in this scope, by their numbers
abbrev pub number_order : Scope → Nodes → ℕ → ℕ → ℕ → Ordering
number_order scope tree n i j =
    expanded_order (attribute_name scope (attribute_name_of tree n i)) (attribute_name scope (attribute_name_of tree n j))

-- attribute i of node n declares nothing
abbrev pub is_proper_number : Nodes → ℕ → ℕ → Bool
is_proper_number tree n i = option_map_or (λ (a : Attribute). not (is_declaration a)) (attribute_at tree n i) false

-- the scope inside element n, with its own declarations
abbrev pub scope_inside : Nodes → ℕ → Scope
scope_inside tree n = inner_scope (attributes_in (from_node tree n)) (scope_at outermost tree n)

-- node n is the one that is left out
abbrev pub is_skipped : Option ℕ → ℕ → Bool
is_skipped None n = false
is_skipped (Some skip) n = skip == n

-- the declarations that are written at an element in this scope
abbrev pub written_in : List (List ℕ) → Scope → Scope → List ℕ → List Attribute → List Binding
written_in listed scope rendered name attributes =
    written_declarations listed (inner_scope attributes scope) rendered name attributes

-- the start tag of an element in this scope
abbrev pub start_in : List (List ℕ) → Scope → Scope → List ℕ → List Attribute → List ℕ
start_in listed scope rendered name attributes =
    print_start name (written_in listed scope rendered name attributes) (written_attributes (inner_scope attributes scope) attributes)

-- a list whose first node has number n
unfoldable pub nodes_form : List (List ℕ) → Option ℕ → ℕ → Scope → Scope → Nodes → List ℕ
nodes_form listed skip n scope rendered NoNodes = []
nodes_form listed skip n scope rendered (Element name attributes kids rest) =
    (if is_skipped skip n then []
    else start_in listed scope rendered name attributes
    ++ nodes_form listed skip (suc n) (inner_scope attributes scope) (written_in listed scope rendered name attributes ++ rendered) kids
    ++ print_end name)
    ++ nodes_form listed skip (suc (n + size kids)) scope rendered rest
nodes_form listed skip n scope rendered (Text text rest) =
    (if is_skipped skip n then [] else escape_text text) ++ nodes_form listed skip (suc n) scope rendered rest
nodes_form listed skip n scope rendered (Comment text rest) = nodes_form listed skip (suc n) scope rendered rest
nodes_form listed skip n scope rendered (Instruction target value rest) =
    (if is_skipped skip n then [] else print_instruction target value) ++ nodes_form listed skip (suc n) scope rendered rest

-- the first node of a list, which has number n
unfoldable pub node_form : List (List ℕ) → Option ℕ → ℕ → Scope → Scope → Nodes → List ℕ
node_form listed skip n scope rendered NoNodes = []
node_form listed skip n scope rendered (Element name attributes kids rest) =
    if is_skipped skip n then []
    else start_in listed scope rendered name attributes
    ++ nodes_form listed skip (suc n) (inner_scope attributes scope) (written_in listed scope rendered name attributes ++ rendered) kids
    ++ print_end name
node_form listed skip n scope rendered (Text text rest) = if is_skipped skip n then [] else escape_text text
node_form listed skip n scope rendered (Comment text rest) = []
node_form listed skip n scope rendered (Instruction target value rest) =
    if is_skipped skip n then [] else print_instruction target value

-- the prefixes of these candidates that are to be declared: in ascending order, each once
pub record IsWanted (scope rendered : Scope) (candidates wanted : List (List ℕ)) : Type 0 where
  pub ascending : IsAscending byte_order wanted
  pub among : (q : List ℕ) → is_among q wanted ≡ (is_among q candidates && is_rendered_anew scope rendered q)

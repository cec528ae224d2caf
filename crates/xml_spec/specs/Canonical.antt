-- The canonical form of an element: Exclusive XML Canonicalization 1.0, and Canonical XML 1.0, to which it refers.
use Rattle.std.specs.Prelude.{ℕ, zero, suc, ◌-◌, Bool, ◌&&◌, not, ◌==◌, List, [], ◌∷◌, ◌++◌, map, filter, codes, Option, Some, None, nat_lt, if◌then◌else◌}
use Rattle.std.specs.List.{flat_map, list_any}
use Rattle.std.specs.Ordering.{nat_cmp, is_le, ordering_then}
use Rattle.std.specs.declared.cmp.Ordering.{Ordering}
use Rattle.std.specs.Cmp.Lexicographic.{slice_cmp}
use Rattle.std.specs.Str.{bytes_eq}
use Rattle.xml_spec.specs.Ascii.{tab, line_feed, carriage_return, space_character, quotation_mark, ampersand, colon, less_than, equals_sign, greater_than}
use Rattle.xml_spec.specs.Bytes.{is_empty}
use Rattle.xml_spec.specs.Characters.{prefix_of}
use Rattle.xml_spec.specs.Tree.{Attribute, Nodes, NoNodes, Element, Text, Comment, Instruction}
use Rattle.xml_spec.specs.Numbering.{size, from_node, without_node}
use Rattle.xml_spec.specs.Names.{Binding, Scope, namespace_of, outermost, proper_attributes, inner_scope, ExpandedName, attribute_name}

-- Canonical XML, 2.3, "Text Nodes": "replace all ampersands (&) with &amp;, all open angle brackets (<) with
-- &lt;, all closing angle brackets (>) with &gt;, and all #xD characters with &#xD;"
abbrev pub escape_text_byte : ℕ → List ℕ
escape_text_byte b =
    if b == ampersand then codes "&amp;"
    else if b == less_than then codes "&lt;"
    else if b == greater_than then codes "&gt;"
    else if b == carriage_return then codes "&#xD;"
    else b ∷ []

abbrev pub escape_text : List ℕ → List ℕ
escape_text bytes = flat_map escape_text_byte bytes

-- Canonical XML, 2.3, "Attribute Nodes": "replace all ampersands (&) with &amp;, all open angle brackets (<) with
-- &lt;, all quotation mark characters with &quot;, and the whitespace characters #x9, #xA, and #xD, with character
-- references"
abbrev pub escape_value_byte : ℕ → List ℕ
escape_value_byte b =
    if b == ampersand then codes "&amp;"
    else if b == less_than then codes "&lt;"
    else if b == quotation_mark then codes "&quot;"
    else if b == tab then codes "&#x9;"
    else if b == line_feed then codes "&#xA;"
    else if b == carriage_return then codes "&#xD;"
    else b ∷ []

abbrev pub escape_value : List ℕ → List ℕ
escape_value bytes = flat_map escape_value_byte bytes

-- the order of bytes, which is that of the characters' numbers
abbrev pub byte_order : List ℕ → List ℕ → Ordering
byte_order a b = slice_cmp nat_cmp a b

-- Canonical XML, 2.2: attributes are "sorted lexicographically .. by namespace URI as the primary key and local
-- name as the secondary key (an empty namespace URI is lexicographically least)"
abbrev pub expanded_order : ExpandedName → ExpandedName → Ordering
expanded_order a b = ordering_then (byte_order a.namespace b.namespace) (byte_order a.local b.local)

-- x in front of the first that is not below it
abbrev pub inserted : {X : Type 0} → (X → X → Ordering) → X → List X → List X
inserted order x [] = x ∷ []
inserted order x (y ∷ ys) = if is_le (order x y) then x ∷ y ∷ ys else y ∷ inserted order x ys

-- in ascending order
abbrev pub sorted : {X : Type 0} → (X → X → Ordering) → List X → List X
sorted order [] = []
sorted order (x ∷ xs) = inserted order x (sorted order xs)

-- each once
abbrev pub once : List (List ℕ) → List (List ℕ)
once [] = []
once (p ∷ ps) = if list_any (bytes_eq p) ps then once ps else p ∷ once ps

-- Exclusive C14N, 2 ("visibly utilizes"): "An element E .. visibly utilizes the default namespace or a prefix if E
-- or an attribute of E uses it in its qualified name"; an attribute without a prefix uses none
abbrev pub used_prefixes : List ℕ → List Attribute → List (List ℕ)
used_prefixes name attributes =
    prefix_of name
    ∷ filter (λ prefix. not (is_empty prefix)) (map (λ a. prefix_of a.name) (proper_attributes attributes))

-- Exclusive C14N, 3: the PrefixList of InclusiveNamespaces, where #default stands for the default namespace
abbrev pub listed_prefix : List ℕ → List ℕ
listed_prefix token = if bytes_eq token (codes "#default") then [] else token

-- Exclusive C14N, 3: a namespace node is rendered where its prefix is visibly utilized or in the list and "the
-- prefix has not yet been rendered by any output ancestor, or the nearest output ancestor of its parent element that visibly
-- utilizes the namespace prefix does not have a namespace node .. with the same namespace prefix and value". No
-- default counts as the empty name, so that xmlns="" is rendered just where another default was and none is now. The
-- prefix xml is never declared.
abbrev pub is_rendered_anew : Scope → Scope → List ℕ → Bool
is_rendered_anew scope rendered prefix =
    not (bytes_eq prefix (codes "xml"))
    && not (bytes_eq (namespace_of scope prefix) (namespace_of rendered prefix))

-- the declarations that are written at an element, by prefix, the default first
abbrev pub written_declarations : List (List ℕ) → Scope → Scope → List ℕ → List Attribute → List Binding
written_declarations listed scope rendered name attributes =
    map (λ prefix. record { prefix = prefix; namespace = namespace_of scope prefix })
    (filter (is_rendered_anew scope rendered)
    (sorted byte_order (once (used_prefixes name attributes ++ map listed_prefix listed))))

-- the attributes in the order in which they are written
abbrev pub written_attributes : Scope → List Attribute → List Attribute
written_attributes scope attributes =
    sorted (λ a b. expanded_order (attribute_name scope a.name) (attribute_name scope b.name)) (proper_attributes attributes)

-- Canonical XML, 2.3: a space, the qualified name, an equals sign, and the value in quotation marks
abbrev pub print_attribute : List ℕ → List ℕ → List ℕ
print_attribute name value =
    space_character ∷ name ++ equals_sign ∷ quotation_mark ∷ escape_value value ++ quotation_mark ∷ []

abbrev pub declaration_name : List ℕ → List ℕ
declaration_name [] = codes "xmlns"
declaration_name (b ∷ bytes) = codes "xmlns" ++ colon ∷ b ∷ bytes

abbrev pub print_binding : Binding → List ℕ
print_binding b = print_attribute (declaration_name b.prefix) b.namespace

-- Canonical XML, 2.3, "Element Nodes"
abbrev pub print_start : List ℕ → List Binding → List Attribute → List ℕ
print_start name bindings attributes =
    less_than ∷ name ++ flat_map print_binding bindings
    ++ flat_map (λ a. print_attribute a.name a.value) attributes ++ greater_than ∷ []

abbrev pub print_end : List ℕ → List ℕ
print_end name = codes "</" ++ name ++ greater_than ∷ []

-- Canonical XML, 2.3, "Processing Instruction Nodes": "a leading space and the string value .. if the string value is not empty"
abbrev pub print_instruction : List ℕ → List ℕ → List ℕ
print_instruction target [] = codes "<?" ++ target ++ codes "?>"
print_instruction target (b ∷ bytes) = codes "<?" ++ target ++ space_character ∷ (b ∷ bytes) ++ codes "?>"

-- The canonical form of a list of nodes, in their scope, below elements that rendered these declarations.
-- Comments are left out.
abbrev pub canonical_nodes : List (List ℕ) → Scope → Scope → Nodes → List ℕ
canonical_nodes listed scope rendered NoNodes = []
canonical_nodes listed scope rendered (Element name attributes kids rest) =
    let inner = inner_scope attributes scope in
    let written = written_declarations listed inner rendered name attributes in
    print_start name written (written_attributes inner attributes)
    ++ canonical_nodes listed inner (written ++ rendered) kids ++ print_end name
    ++ canonical_nodes listed scope rendered rest
canonical_nodes listed scope rendered (Text text rest) =
    escape_text text ++ canonical_nodes listed scope rendered rest
canonical_nodes listed scope rendered (Comment text rest) = canonical_nodes listed scope rendered rest
canonical_nodes listed scope rendered (Instruction target value rest) =
    print_instruction target value ++ canonical_nodes listed scope rendered rest

-- the first node of a list, alone
abbrev pub alone : Nodes → Nodes
alone NoNodes = NoNodes
alone (Element name attributes kids rest) = Element name attributes kids NoNodes
alone (Text text rest) = Text text NoNodes
alone (Comment text rest) = Comment text NoNodes
alone (Instruction target value rest) = Instruction target value NoNodes

-- the scope in which node k stands, in a list that stands in this scope
abbrev pub scope_at : Scope → Nodes → ℕ → Scope
scope_at scope NoNodes k = scope
scope_at scope (Element name attributes kids rest) zero = scope
scope_at scope (Element name attributes kids rest) (suc k) =
    if nat_lt k (size kids) then scope_at (inner_scope attributes scope) kids k
    else scope_at scope rest (k - size kids)
scope_at scope (Text text rest) zero = scope
scope_at scope (Text text rest) (suc k) = scope_at scope rest k
scope_at scope (Comment text rest) zero = scope
scope_at scope (Comment text rest) (suc k) = scope_at scope rest k
scope_at scope (Instruction target value rest) zero = scope
scope_at scope (Instruction target value rest) (suc k) = scope_at scope rest k

-- node k alone, without the node `skip` of the tree, which is below it
abbrev pub kept_element : Nodes → ℕ → Option ℕ → Nodes
kept_element tree k None = alone (from_node tree k)
kept_element tree k (Some skip) = without_node (alone (from_node tree k)) (skip - k)

-- Exclusive C14N, 3 and 4: the canonical form of the element that is node k of the tree, without the element
-- `skip`, with this list of prefixes; nothing outside the element is output, so nothing is rendered yet
abbrev pub canonical : Nodes → ℕ → Option ℕ → List (List ℕ) → List ℕ
canonical tree k skip listed = canonical_nodes listed (scope_at outermost tree k) [] (kept_element tree k skip)

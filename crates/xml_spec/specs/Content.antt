-- The content of an element: what remains when prefixes, the order of attributes and comments are forgotten.
-- (XML Infoset: elements with [namespace name], [local name], [attributes] as a set, and [children].)
use Rattle.std.specs.Prelude.{ℕ, List, ◌++◌, map, Option}
use Rattle.xml_spec.specs.Tree.{Attribute, Nodes, NoNodes, Element, Text, Comment, Instruction}
use Rattle.xml_spec.specs.Names.{Scope, outermost, inner_scope, ExpandedName, element_name, attribute_name, proper_attributes}
use Rattle.xml_spec.specs.Canonical.{sorted, expanded_order, scope_at, kept_element}

pub record ContentAttribute : Type 0 where
  pub name : ExpandedName
  pub value : List ℕ

-- a list of contents: none, or the first one and the rest
pub data Contents : Type 0 where
  NoContents : Contents
  ElementContent : (name : ExpandedName) (attributes : List ContentAttribute) (kids rest : Contents) → Contents
  TextContent : (text : List ℕ) (rest : Contents) → Contents
  InstructionContent : (target value : List ℕ) (rest : Contents) → Contents

-- the text and then the contents; texts that meet are one
abbrev pub with_text_content : List ℕ → Contents → Contents
with_text_content text (TextContent more rest) = TextContent (text ++ more) rest
with_text_content text rest = TextContent text rest

-- the attributes without declarations, in the order of their expanded names
abbrev pub content_attributes : Scope → List Attribute → List ContentAttribute
content_attributes scope attributes =
    sorted (λ a b. expanded_order a.name b.name)
    (map (λ a. record { name = attribute_name scope a.name; value = a.value }) (proper_attributes attributes))

abbrev pub content_nodes : Scope → Nodes → Contents
content_nodes scope NoNodes = NoContents
content_nodes scope (Element name attributes kids rest) =
    let inner = inner_scope attributes scope in
    ElementContent (element_name inner name) (content_attributes inner attributes) (content_nodes inner kids)
    (content_nodes scope rest)
content_nodes scope (Text text rest) = with_text_content text (content_nodes scope rest)
content_nodes scope (Comment text rest) = content_nodes scope rest
content_nodes scope (Instruction target value rest) = InstructionContent target value (content_nodes scope rest)

-- the content of node k of the tree, without the element `skip`
abbrev pub content : Nodes → ℕ → Option ℕ → Contents
content tree k skip = content_nodes (scope_at outermost tree k) (kept_element tree k skip)

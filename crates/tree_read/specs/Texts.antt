-- The text of an element, and the value of an attribute.
use Rattle.std.specs.Prelude.{ℕ, Bool, ◌&&◌, List, [], ◌∷◌, ◌++◌, reverse, Option, None, Some, if◌then◌else◌}
use Rattle.std.specs.Str.{bytes_eq}
use Rattle.xml_spec.specs.Bytes.{is_empty}
use Rattle.xml_spec.specs.Characters.{prefix_of, local_of}
use Rattle.xml_spec.specs.Tree.{Attribute, Nodes, NoNodes, Element, Text, Comment, Instruction}
use Rattle.xml_spec.specs.Syntax.{is_white}
use Rattle.xml_spec.specs.Numbering.{from_node, kids_of}
use Rattle.xml_spec.specs.Names.{proper_attributes}
use Rattle.saml_tree.specs.Elements.{attributes_in}

-- all texts of a list of nodes, in document order, those inside its elements too; comments and instructions are passed over
-- (profile)
abbrev pub text_in : Nodes → List ℕ
text_in NoNodes = []
text_in (Element name attributes kids rest) = text_in kids ++ text_in rest
text_in (Text text rest) = text ++ text_in rest
text_in (Comment text rest) = text_in rest
text_in (Instruction target value rest) = text_in rest

-- the text of element k
abbrev pub text_of : Nodes → ℕ → List ℕ
text_of tree k = text_in (kids_of (from_node tree k))

-- the bytes behind the white space that they begin with
abbrev pub behind_white : List ℕ → List ℕ
behind_white [] = []
behind_white (b ∷ bytes) = if is_white b then behind_white bytes else b ∷ bytes

-- without the white space at both ends (XML 1.0, 2.3, S)
abbrev pub trimmed : List ℕ → List ℕ
trimmed bytes = reverse (behind_white (reverse (behind_white bytes)))

-- the attribute has no prefix, and this local name
abbrev pub is_unprefixed : List ℕ → Attribute → Bool
is_unprefixed local a = is_empty (prefix_of a.name) && bytes_eq (local_of a.name) local

-- the value of the first attribute without a prefix that has this local name
abbrev pub value_of : List ℕ → List Attribute → Option (List ℕ)
value_of local [] = None
value_of local (a ∷ attributes) = if is_unprefixed local a then Some a.value else value_of local attributes

-- the value of the attribute without a prefix that has this local name, among those of element k that declare no namespace
abbrev pub attribute_text : Nodes → ℕ → List ℕ → Option (List ℕ)
attribute_text tree k local =
    value_of local (proper_attributes (attributes_in (from_node tree k)))

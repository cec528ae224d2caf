-- Worked examples of the definitions.
use Rattle.std.proofs.Common.{◌≡◌, [], ◌∷◌, codes, Some, None, refl}
use Rattle.xml_spec.specs.Tree.{Nodes, NoNodes, Element, Text, Comment}
use Rattle.tree_read.specs.Children.{children}
use Rattle.tree_read.specs.Texts.{text_of, trimmed, attribute_text}

-- <a xmlns:s="urn:s"><s:b/>x<b/><s:b/><s:c><s:b/></s:c></a>
abbrev named : Nodes
named =
    Element (codes "a") (record { name = codes "xmlns:s"; value = codes "urn:s" } ∷ [])
    (Element (codes "s:b") [] NoNodes (Text (codes "x") (Element (codes "b") [] NoNodes (Element (codes "s:b") [] NoNodes
    (Element (codes "s:c") [] (Element (codes "s:b") [] NoNodes NoNodes) NoNodes)))))
    NoNodes

children_of_a_namespace : children named 0 (record { namespace = codes "urn:s"; local = codes "b" }) ≡ 1 ∷ 4 ∷ []
children_of_a_namespace = refl

children_of_none : children named 0 (record { namespace = []; local = codes "b" }) ≡ 3 ∷ []
children_of_none = refl

-- the scope is that of the place, also deeper in the document
children_below : children named 5 (record { namespace = codes "urn:s"; local = codes "b" }) ≡ 6 ∷ []
children_below = refl

-- <a>x<b>y<!--c--></b>z</a>
abbrev texts : Nodes
texts =
    Element (codes "a") []
    (Text (codes "x") (Element (codes "b") [] (Text (codes "y") (Comment (codes "c") NoNodes)) (Text (codes "z") NoNodes)))
    NoNodes

text_of_all : text_of texts 0 ≡ codes "xyz"
text_of_all = refl

text_of_inner : text_of texts 2 ≡ codes "y"
text_of_inner = refl

-- " \tx y\r\n"
trimmed_both : trimmed (32 ∷ 9 ∷ 120 ∷ 32 ∷ 121 ∷ 13 ∷ 10 ∷ []) ≡ codes "x y"
trimmed_both = refl

trimmed_all : trimmed (32 ∷ 10 ∷ []) ≡ []
trimmed_all = refl

-- <a xmlns="urn:u" xmlns:p="urn:p" p:ID="1" ID="2"/>
abbrev attributed : Nodes
attributed =
    Element (codes "a")
    (record { name = codes "xmlns"; value = codes "urn:u" } ∷ record { name = codes "xmlns:p"; value = codes "urn:p" }
    ∷ record { name = codes "p:ID"; value = codes "1" } ∷ record { name = codes "ID"; value = codes "2" } ∷ [])
    NoNodes NoNodes

value_without_prefix : attribute_text attributed 0 (codes "ID") ≡ Some (codes "2")
value_without_prefix = refl

no_declaration : attribute_text attributed 0 (codes "xmlns") ≡ None
no_declaration = refl

no_declared_prefix : attribute_text attributed 0 (codes "p") ≡ None
no_declared_prefix = refl

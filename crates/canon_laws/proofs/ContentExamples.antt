-- Worked examples: elements with one content, and elements with one canonical form.
use Rattle.std.proofs.Common.{◌≡◌, [], ◌∷◌, Some, None, codes, refl}
use Rattle.xml_spec.specs.Tree.{Nodes, NoNodes, Element, Text, Comment}
use Rattle.xml_spec.specs.Canonical.{canonical}
use Rattle.xml_spec.specs.Content.{NoContents, ElementContent, TextContent, content}
use Rattle.canon_laws.specs.Trees.{canonical_tree}
use Rattle.canon_laws.proofs.Examples.{attribute}

-- <p:a xmlns:p="urn:u"/> and <a xmlns="urn:u"/>: two spellings of one content, with two canonical forms
prefixed : Nodes
prefixed = Element (codes "p:a") (attribute (codes "xmlns:p") (codes "urn:u") ∷ []) NoNodes NoNodes

by_default : Nodes
by_default = Element (codes "a") (attribute (codes "xmlns") (codes "urn:u") ∷ []) NoNodes NoNodes

prefixed_content : content prefixed 0 None
    ≡ ElementContent (record { namespace = codes "urn:u"; local = codes "a" }) [] NoContents NoContents
unfolding prefixed
prefixed_content = refl

one_content : content prefixed 0 None ≡ content by_default 0 None
unfolding prefixed by_default
one_content = refl

two_forms : canonical prefixed 0 None [] ≡ canonical by_default 0 None [] → ⊥
unfolding prefixed by_default
two_forms same =
    let clash : codes "<p:a xmlns:p=\"urn:u\"></p:a>" ≡ codes "<a xmlns=\"urn:u\"></a>" = same in cc

-- <a><!--c-->x</a> and <a>x</a> have one form
commented : Nodes
commented = Element (codes "a") [] (Comment (codes "c") (Text (codes "x") NoNodes)) NoNodes

plain : Nodes
plain = Element (codes "a") [] (Text (codes "x") NoNodes) NoNodes

one_form : canonical commented 0 None [] ≡ canonical plain 0 None []
unfolding commented plain
one_form = refl

-- the same without the element s of <a>x<s/></a>, and with a prefix in the list that is not declared
signed : Nodes
signed = Element (codes "a") [] (Text (codes "x") (Element (codes "s") [] NoNodes NoNodes)) NoNodes

one_form_without : canonical signed 0 (Some 2) (codes "p" ∷ []) ≡ canonical plain 0 None []
unfolding signed plain
one_form_without = refl

-- a text that is empty, which no bytes spell, is lost
with_empty : Nodes
with_empty = Element (codes "a") [] (Text [] NoNodes) NoNodes

empty_is_lost : content (canonical_tree with_empty 0 None []) 0 None ≡ content with_empty 0 None → ⊥
unfolding with_empty
empty_is_lost same =
    let clash : ElementContent (record { namespace = []; local = codes "a" }) [] NoContents NoContents
    ≡ ElementContent (record { namespace = []; local = codes "a" }) [] (TextContent [] NoContents) NoContents = same
    in cc

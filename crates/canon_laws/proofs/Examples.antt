-- Worked examples: the tree that a canonical form spells, and what can be written.
use Rattle.std.proofs.Common.{◌≡◌, ℕ, true, false, List, [], ◌∷◌, Some, None, codes, refl}
use Rattle.std.specs.Char.{encode_utf8}
use Rattle.std.specs.Str.{chars}
use Rattle.xml_spec.specs.Tree.{Attribute, Nodes, NoNodes, Element, Text, Comment, Instruction}
use Rattle.xml_spec.proofs.Valid.{name_shown}
use Rattle.canon_laws.specs.Trees.{canonical_tree}
use Rattle.canon_laws.specs.Writable.{IsWritable}

abbrev pub attribute : List ℕ → List ℕ → Attribute
attribute name value = record { name = name; value = value }

-- <a z="1" b="2"><!--c-->x<!--d-->y</a>: attributes in order, no comments, and one text
commented : Nodes
commented =
    Element (codes "a") (attribute (codes "z") (codes "1") ∷ attribute (codes "b") (codes "2") ∷ [])
    (Comment (codes "c") (Text (codes "x") (Comment (codes "d") (Text (codes "y") NoNodes)))) NoNodes

commented_tree : canonical_tree commented 0 None []
    ≡ Element (codes "a") (attribute (codes "b") (codes "2") ∷ attribute (codes "z") (codes "1") ∷ []) (Text (codes "xy") NoNodes) NoNodes
unfolding commented
commented_tree = refl

-- <b xmlns:p="urn:u" xmlns:q="urn:v"><p:a y="1"/></b>: a declaration stands where its prefix is used
declared : Nodes
declared =
    Element (codes "b") (attribute (codes "xmlns:p") (codes "urn:u") ∷ attribute (codes "xmlns:q") (codes "urn:v") ∷ [])
    (Element (codes "p:a") (attribute (codes "y") (codes "1") ∷ []) NoNodes NoNodes) NoNodes

declared_tree : canonical_tree declared 0 None []
    ≡ Element (codes "b") []
    (Element (codes "p:a") (attribute (codes "xmlns:p") (codes "urn:u") ∷ attribute (codes "y") (codes "1") ∷ []) NoNodes NoNodes) NoNodes
unfolding declared
declared_tree = refl

-- the element alone takes its declarations with it, those of the listed prefixes too
listed_tree : canonical_tree declared 1 None (codes "q" ∷ [])
    ≡ Element (codes "p:a")
    (attribute (codes "xmlns:p") (codes "urn:u") ∷ attribute (codes "xmlns:q") (codes "urn:v") ∷ attribute (codes "y") (codes "1") ∷ []) NoNodes NoNodes
unfolding declared
listed_tree = refl

-- <a>x<s>n</s>y<?t v?></a> without s: the texts around it meet
around : Nodes
around =
    Element (codes "a") []
    (Text (codes "x") (Element (codes "s") [] (Text (codes "n") NoNodes) (Text (codes "y") (Instruction (codes "t") (codes "v") NoNodes)))) NoNodes

around_tree : canonical_tree around 0 (Some 2) []
    ≡ Element (codes "a") [] (Text (codes "xy") (Instruction (codes "t") (codes "v") NoNodes)) NoNodes
unfolding around
around_tree = refl

-- what these trees say can be written
commented_writable : IsWritable commented
unfolding commented chars encode_utf8
commented_writable = (
  name_shown (codes "a") refl,
  (
    record { name = name_shown (codes "z") refl; value = record { characters = codes "1"; allowed = refl; spelled = refl } },
    (record { name = name_shown (codes "b") refl; value = record { characters = codes "2"; allowed = refl; spelled = refl } }, tt),
  ),
  (record { characters = codes "x"; allowed = refl; spelled = refl }, (record { characters = codes "y"; allowed = refl; spelled = refl }, tt)),
  tt,
)

-- an instruction can't say its own end, and no CR is left in it
closed_not_writable : IsWritable (Instruction (codes "t") (codes "v?>w") NoNodes) → ⊥
closed_not_writable w = let clash : true ≡ false = w.0.closed in cc

return_not_writable : IsWritable (Instruction (codes "t") (codes "v\rw") NoNodes) → ⊥
return_not_writable w = let clash : false ≡ true = w.0.line_ends in cc

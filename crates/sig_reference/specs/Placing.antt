-- Where an element stands among made nodes, and its number in the document that they stand for.
use Rattle.std.specs.Prelude.{ℕ, ◌+◌, List, [], ◌∷◌}
use Rattle.xml_spec.specs.Tree.{Attribute}
use Rattle.xml_spec.specs.Numbering.{size}
use Rattle.element_make.specs.declared.names.Ns.{Ns}
use Rattle.element_make.specs.Made.{Made, MadeNodes, MadeElement, alone, joined, nodes_of}

-- what stands around an element: the nodes in front of it and behind it, and where it does not stand in the list itself, the
-- elements around it, the outermost first
pub data Around : Type 0 where
  Beside : (before after : MadeNodes) → Around
  Inside : (before : MadeNodes) (ns : Ns) (local : List ℕ) (attributes : List Attribute) (around : Around) (after : MadeNodes) → Around

-- the nodes with the element in its place
abbrev pub filled : Around → Made → MadeNodes
filled (Beside before after) made = joined before (joined (alone made) after)
filled (Inside before ns local attributes around after) made = joined before (MadeElement ns local attributes (filled around made) after)

-- which of the nodes that they stand for the element is, inside elements that declare these namespaces
abbrev pub place : List Ns → Around → ℕ
place declared (Beside before after) = size (nodes_of declared before)
place declared (Inside before ns local attributes around after) =
    size (nodes_of declared before) + (1 + place (ns ∷ declared) around)

-- the number of the element in the document of another one that has these nodes as its kids
abbrev pub place_in : Made → Around → ℕ
place_in outer around = 1 + place (outer.ns ∷ []) around

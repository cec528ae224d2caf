-- How the definitions see what is found.
use Rattle.std.specs.Prelude.{◌≡◌, ℕ, ◌<◌, List, [], ◌∷◌, length, Option, None, Some}
use Rattle.xml_spec.specs.Tree.{Nodes}
use Rattle.tree_read.specs.declared.at.At.{At}
use Rattle.tree_read.specs.declared.named.ChildFault.{ChildFault}
use Rattle.tree_read.specs.declared.named.ChildFault.TheVariants as faults

-- the tree of the document, and the place in it
abbrev pub tree_of : At → Nodes
tree_of at = at.doc.now.tree

-- the number of the element, if there is one
abbrev pub numbers_of : Option At → List ℕ
numbers_of None = []
numbers_of (Some at) = at.node.0 ∷ []

-- why there is not one child: there is none, or there are so many
abbrev pub IsNotOne : List ℕ → ChildFault → Type 0
IsNotOne found faults.NotThere = found ≡ []
IsNotOne found (faults.NotOne count) = (count ≡ length found) × (1 < length found)

use Rattle.std.proofs.Common.{◌≡◌, codes, length}
use Rattle.std.specs.List.{flat_map}
use Rattle.assertion_model.specs.Contents.{Part, each}
use Rattle.assertion_model.specs.Login.{children, attribute, attributes}
use Rattle.assertion_model.specs.Parts.{part_of, left_of}
use Rattle.assertion_model.proofs.EachLemmas.{behind}
use Rattle.assertion_model.proofs.statements.read_attributes.Given as goal

abbrev pub invariant-loop-statement : goal.invariant-loop-statement
invariant-loop-statement l =
    behind l.found (each attribute (flat_map (λ (s : Part). children (codes "Attribute") s.kids) (left_of (codes "AttributeStatement") l.left)))
    ≡ attributes (part_of l.at).kids

abbrev pub decreases-loop-statement : goal.decreases-loop-statement
decreases-loop-statement l = length (left_of (codes "AttributeStatement") l.left)

use Rattle.std.proofs.Common.{◌≡◌, codes, length}
use Rattle.assertion_model.specs.Contents.{each}
use Rattle.assertion_model.specs.Login.{children, attribute}
use Rattle.assertion_model.specs.Parts.{part_of, left_of}
use Rattle.assertion_model.proofs.EachLemmas.{behind}
use Rattle.assertion_model.proofs.statements.add_attributes.Given as goal

abbrev pub invariant-loop-attribute : goal.invariant-loop-attribute
invariant-loop-attribute l =
    behind l.found (each attribute (left_of (codes "Attribute") l.left))
    ≡ behind l.initial.found (each attribute (children (codes "Attribute") (part_of l.at).kids))

abbrev pub decreases-loop-attribute : goal.decreases-loop-attribute
decreases-loop-attribute l = length (left_of (codes "Attribute") l.left)

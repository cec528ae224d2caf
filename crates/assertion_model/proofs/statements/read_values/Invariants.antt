use Rattle.std.proofs.Common.{◌≡◌, ◌++◌, map, codes, length}
use Rattle.assertion_model.specs.Contents.{Part, text}
use Rattle.assertion_model.specs.Login.{children}
use Rattle.assertion_model.specs.Parts.{part_of, left_of}
use Rattle.assertion_model.proofs.statements.read_values.Given as goal

abbrev pub invariant-loop-value : goal.invariant-loop-value
invariant-loop-value l =
    l.found ++ map (λ (v : Part). text v.kids) (left_of (codes "AttributeValue") l.left)
    ≡ map (λ (v : Part). text v.kids) (children (codes "AttributeValue") (part_of l.at).kids)

abbrev pub decreases-loop-value : goal.decreases-loop-value
decreases-loop-value l = length (left_of (codes "AttributeValue") l.left)

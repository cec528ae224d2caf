use Rattle.std.proofs.Common.{◌≡◌, codes, length}
use Rattle.assertion_model.specs.Contents.{each}
use Rattle.assertion_model.specs.Login.{children, audiences}
use Rattle.assertion_model.specs.Parts.{part_of, left_of}
use Rattle.assertion_model.proofs.EachLemmas.{behind}
use Rattle.assertion_model.proofs.conditions.read_restrictions.Given as goal

abbrev pub invariant-loop-restriction : goal.invariant-loop-restriction
invariant-loop-restriction l =
    behind l.found (each audiences (left_of (codes "AudienceRestriction") l.left))
    ≡ each audiences (children (codes "AudienceRestriction") (part_of l.at).kids)

abbrev pub decreases-loop-restriction : goal.decreases-loop-restriction
decreases-loop-restriction l = length (left_of (codes "AudienceRestriction") l.left)

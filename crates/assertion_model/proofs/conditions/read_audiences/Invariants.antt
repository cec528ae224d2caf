use Rattle.std.proofs.Common.{◌≡◌, ◌++◌, map, codes, length}
use Rattle.tree_read.specs.Texts.{trimmed}
use Rattle.assertion_model.specs.Contents.{Part, text}
use Rattle.assertion_model.specs.Login.{children}
use Rattle.assertion_model.specs.Parts.{part_of, left_of}
use Rattle.assertion_model.proofs.conditions.read_audiences.Given as goal

abbrev pub invariant-loop-audience : goal.invariant-loop-audience
invariant-loop-audience l =
    l.found ++ map (λ (a : Part). trimmed (text a.kids)) (left_of (codes "Audience") l.left)
    ≡ map (λ (a : Part). trimmed (text a.kids)) (children (codes "Audience") (part_of l.at).kids)

abbrev pub decreases-loop-audience : goal.decreases-loop-audience
decreases-loop-audience l = length (left_of (codes "Audience") l.left)

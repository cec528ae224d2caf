use Rattle.std.proofs.Common.{◌≡◌, map, length}
use Rattle.std.specs.List.{list_all}
use Rattle.tree_read.specs.Children.{Child}
use Rattle.assertion_model.specs.Contents.{names}
use Rattle.assertion_model.specs.Login.{is_known}
use Rattle.assertion_model.specs.Parts.{part_of}
use Rattle.assertion_model.proofs.conditions.all_known.Given as goal

abbrev pub invariant-loop-left : goal.invariant-loop-left
invariant-loop-left l = list_all is_known (map (λ (c : Child). c.name) l.left.left) ≡ list_all is_known (names (part_of l.at).kids)

abbrev pub decreases-loop-left : goal.decreases-loop-left
decreases-loop-left l = length l.left.left

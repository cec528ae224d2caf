use Rattle.std.proofs.Common.{◌≡◌, reverse}
use Rattle.namespace_scope.specs.Index.{Index}
use Rattle.namespace_scope.specs.Marks.{levels_of, with_bare, IsIndexed}
use Rattle.namespace_scope.proofs.marks.settle.Given as goal

-- the levels are the same, marked or not
abbrev pub invariant-levels : goal.invariant-levels
invariant-levels l =
    (with_bare l.bare (levels_of (reverse l.marks.items)) ≡ with_bare l.fn.bare (levels_of (reverse l.fn.marks.items)))
    × ((latest : Index) → IsIndexed (reverse l.fn.marks.items) latest → IsIndexed (reverse l.marks.items) latest)

abbrev pub decreases-levels : goal.decreases-levels
decreases-levels l = l.bare

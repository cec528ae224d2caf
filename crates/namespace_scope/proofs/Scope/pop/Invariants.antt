use Rattle.std.proofs.Common.{◌≡◌, reverse, vec_len}
use Rattle.namespace_scope.proofs.Endings.{IsEnding}
use Rattle.namespace_scope.proofs.Scope.pop.Given as goal

abbrev pub invariant-loop-mark : goal.invariant-loop-mark
invariant-loop-mark l = IsEnding l.fn.self (reverse l.self-inside.marks.items) l.self-inside.latest × (l.self-inside.bare ≡ 0)

abbrev pub decreases-loop-mark : goal.decreases-loop-mark
decreases-loop-mark l = vec_len l.self-inside.marks

use Rattle.std.proofs.Common.{◌∙◌, arith}
use Rattle.namespace_scope.proofs.Bare.{settled, settled_indexed}
use Rattle.namespace_scope.proofs.marks.settle.Goals as goal

pub levels-preserved : goal.levels-preserved
levels-preserved c = rw c.in_ok-push.ensures.items (
  settled c.levels.bare c.levels.marks.items (omega arith) ∙ c.levels.invariant.0,
  λ latest old. settled_indexed c.levels.marks.items latest (c.levels.invariant.1 latest old),
)

pub returns-in_err-push-clause-indexed : goal.returns-in_err-push-clause-indexed
returns-in_err-push-clause-indexed c = rw c.in_err-push.ensures.items c.levels.invariant.1

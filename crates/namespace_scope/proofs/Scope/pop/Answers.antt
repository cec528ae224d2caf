use Rattle.namespace_scope.proofs.Endings.{IsEnding-popped, IsEnding-pair, found_innermost}
use Rattle.namespace_scope.proofs.Scope.pop.Goals as goal

pub restore-requires : goal.restore-requires
restore-requires c =
    let was = IsEnding-popped _ _ _ _ _ _ c.in-Some.ensures.items c.in-Pair.is c.loop-mark.invariant.0 in
    rw (found_innermost _ _ _ _ _ was.indexed)

pub loop-mark-preserved : goal.loop-mark-preserved
loop-mark-preserved c =
    (IsEnding-pair _ _ _ _ _ _ _ (IsEnding-popped _ _ _ _ _ _ c.in-Some.ensures.items c.in-Pair.is c.loop-mark.invariant.0) c.restore.ensures, c.loop-mark.invariant.1)

use Rattle.std.proofs.Common.{◌≡◌, ◌++◌, drop}
use Rattle.logout_fanout.specs.Plan.{indexes_of, once_after}
use Rattle.logout_fanout.proofs.Plans.{listed}
use Rattle.logout_fanout.proofs.plan.indexes_of.Given as goal

-- the indexes are those that are found, and behind them those of the parts that are left
abbrev pub invariant-loop-part : goal.invariant-loop-part
invariant-loop-part l = indexes_of l.peer l.parts ≡ l.found ++ once_after l.found (listed l.peer (drop l.part-index l.parts))

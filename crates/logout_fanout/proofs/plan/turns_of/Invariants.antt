use Rattle.std.proofs.Common.{◌≡◌, ◌++◌, drop}
use Rattle.std.specs.Prelude.{option_copied}
use Rattle.logout_fanout.specs.Plan.{turns}
use Rattle.logout_fanout.proofs.Plans.{left_turns}
use Rattle.logout_fanout.proofs.plan.turns_of.Given as goal

-- the turns are those that were made, and behind them those of the parts that are left
abbrev pub invariant-loop-part : goal.invariant-loop-part
invariant-loop-part l =
    turns (option_copied l.asker) l.peers l.parts ≡ l.turns ++ left_turns (option_copied l.asker) l.peers l.parts l.turns (drop l.part-index l.parts)

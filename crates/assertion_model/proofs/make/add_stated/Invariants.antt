use Rattle.std.proofs.Common.{◌≡◌}
use Rattle.assertion_model.specs.Assertion.{stated}
use Rattle.assertion_model.proofs.Joining.{with_rest}
use Rattle.assertion_model.proofs.make.add_stated.Given as goal

abbrev pub invariant-loop-i : goal.invariant-loop-i
invariant-loop-i l = with_rest (stated) l.attributes l.made l.i ≡ with_rest (stated) l.attributes l.initial.made 0

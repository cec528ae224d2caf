use Rattle.std.proofs.Common.{◌≡◌}
use Rattle.assertion_model.specs.Assertion.{restriction}
use Rattle.assertion_model.proofs.Joining.{with_rest}
use Rattle.assertion_model.proofs.make.add_restrictions.Given as goal

abbrev pub invariant-loop-i : goal.invariant-loop-i
invariant-loop-i l = with_rest (restriction) l.audiences l.made l.i ≡ with_rest (restriction) l.audiences l.initial.made 0

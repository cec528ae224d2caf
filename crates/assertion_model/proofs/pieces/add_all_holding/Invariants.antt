use Rattle.std.proofs.Common.{◌≡◌}
use Rattle.assertion_model.specs.Assertion.{holding}
use Rattle.assertion_model.proofs.Joining.{with_rest}
use Rattle.assertion_model.proofs.pieces.add_all_holding.Given as goal

abbrev pub invariant-loop-i : goal.invariant-loop-i
invariant-loop-i l = with_rest (holding l.local) l.texts l.made l.i ≡ with_rest (holding l.local) l.texts l.initial.made 0

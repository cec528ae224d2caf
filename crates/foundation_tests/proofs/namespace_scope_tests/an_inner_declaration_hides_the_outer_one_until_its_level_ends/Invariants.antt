use Rattle.std.proofs.Common.{◌≡◌, length}
use Rattle.foundation_tests.proofs.namespace_scope_tests.an_inner_declaration_hides_the_outer_one_until_its_level_ends.Given as goal

abbrev pub invariant-loop-step : goal.invariant-loop-step
invariant-loop-step g l = length l.scope ≡ l.depth

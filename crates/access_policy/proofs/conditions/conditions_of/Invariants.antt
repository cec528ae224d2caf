use Rattle.std.proofs.Common.{◌≡◌, ◌++◌, length}
use Rattle.std.specs.Option.{option_map}
use Rattle.access_policy.specs.Conditions.{conditions_of}
use Rattle.access_policy.proofs.conditions.conditions_of.Given as goal

abbrev pub invariant-loop-rest : goal.invariant-loop-rest
invariant-loop-rest l = conditions_of l.words ≡ option_map (λ conditions. l.found ++ conditions) (conditions_of l.rest)

abbrev pub decreases-loop-rest : goal.decreases-loop-rest
decreases-loop-rest l = length l.rest

use Rattle.std.proofs.Common.{◌≡◌, ◌++◌, length}
use Rattle.std.specs.Option.{option_map}
use Rattle.access_policy.specs.Conditions.{unescaped}
use Rattle.access_policy.proofs.conditions.unescaped.Given as goal

abbrev pub invariant-loop-rest : goal.invariant-loop-rest
invariant-loop-rest l = unescaped l.word ≡ option_map (λ bytes. l.found ++ bytes) (unescaped l.rest)

abbrev pub decreases-loop-rest : goal.decreases-loop-rest
decreases-loop-rest l = length l.rest

use Rattle.range_laws.proofs.Nesting.{within}
use Rattle.range_laws.proofs.ranges_nest.Goals as goal

pub returns : goal.returns
returns c = λ bytes tree e n outer inner spells. within bytes tree spells e n outer inner

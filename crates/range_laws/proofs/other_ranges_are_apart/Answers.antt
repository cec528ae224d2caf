use Rattle.range_laws.proofs.Nesting.{apart}
use Rattle.range_laws.proofs.other_ranges_are_apart.Goals as goal

pub returns : goal.returns
returns c = λ bytes tree m n one other spells. apart bytes tree spells m n one other

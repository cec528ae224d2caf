use Rattle.namespace_scope.proofs.LevelLaws.{pop_undoes_its_level}
use Rattle.namespace_scope.proofs.laws.pop_undoes_its_level.Goals as goal

pub returns : goal.returns
returns c = pop_undoes_its_level

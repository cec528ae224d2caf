use Rattle.namespace_scope.proofs.LevelLaws.{misses_only_the_undeclared}
use Rattle.namespace_scope.proofs.laws.lookup_misses_only_the_undeclared.Goals as goal

pub returns : goal.returns
returns c = misses_only_the_undeclared

use Rattle.meta_registry.proofs.Covered.{says_listed}
use Rattle.meta_registry.proofs.laws.a_registry_says_what_is_listed.Goals as goal

pub returns : goal.returns
returns c = λ key tree registry entity role is. says_listed key tree 0 registry entity role is

use Rattle.serve_loop.specs.Worlds.{IsAnswered}
use Rattle.serve_loop.proofs.Faults.{faults_never_fall}
use Rattle.serve_loop.proofs.laws.faults_never_fall.Goals as goal

pub returns : goal.returns
returns g c = faults_never_fall (IsAnswered g.N.Node.rules)

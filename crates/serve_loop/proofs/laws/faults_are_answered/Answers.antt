use Rattle.serve_loop.specs.Worlds.{IsAnswered}
use Rattle.serve_loop.proofs.Faults.{faults_are_answered}
use Rattle.serve_loop.proofs.laws.faults_are_answered.Goals as goal

pub returns : goal.returns
returns g c = faults_are_answered (IsAnswered g.N.Node.rules)

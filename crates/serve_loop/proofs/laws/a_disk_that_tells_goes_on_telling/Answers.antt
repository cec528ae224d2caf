use Rattle.serve_loop.proofs.Telling.{goes_on_telling}
use Rattle.serve_loop.proofs.laws.a_disk_that_tells_goes_on_telling.Goals as goal

pub returns : goal.returns
returns g c = goes_on_telling g.N.Node.rules

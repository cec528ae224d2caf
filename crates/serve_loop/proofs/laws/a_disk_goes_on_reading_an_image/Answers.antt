use Rattle.serve_loop.proofs.Telling.{goes_on_reading}
use Rattle.serve_loop.proofs.laws.a_disk_goes_on_reading_an_image.Goals as goal

pub returns : goal.returns
returns g c = goes_on_reading g.N.Node.rules

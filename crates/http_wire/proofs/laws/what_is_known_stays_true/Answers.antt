use Rattle.http_wire.proofs.Lasting.{what_is_known_stays_true}
use Rattle.http_wire.proofs.laws.what_is_known_stays_true.Goals as goal

pub returns : goal.returns
returns c = what_is_known_stays_true

use Rattle.http_wire.proofs.Lasting.{bytes_have_one_reading}
use Rattle.http_wire.proofs.laws.bytes_have_one_reading.Goals as goal

pub returns : goal.returns
returns c = bytes_have_one_reading

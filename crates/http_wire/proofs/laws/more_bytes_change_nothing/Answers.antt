use Rattle.http_wire.proofs.Lasting.{more_bytes_change_nothing}
use Rattle.http_wire.proofs.laws.more_bytes_change_nothing.Goals as goal

pub returns : goal.returns
returns c = more_bytes_change_nothing

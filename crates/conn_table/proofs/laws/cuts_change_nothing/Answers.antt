use Rattle.conn_table.proofs.Lasting.{cuts_change_nothing}
use Rattle.conn_table.proofs.laws.cuts_change_nothing.Goals as goal

pub returns : goal.returns
returns c = cuts_change_nothing c.bytes_have_one_reading.ensures c.more_bytes_change_nothing.ensures

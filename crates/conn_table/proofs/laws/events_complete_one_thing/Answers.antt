use Rattle.conn_table.proofs.Lasting.{events_complete_one_thing}
use Rattle.conn_table.proofs.laws.events_complete_one_thing.Goals as goal

pub returns : goal.returns
returns c = events_complete_one_thing c.bytes_have_one_reading.ensures

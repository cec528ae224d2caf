use Rattle.conn_table.proofs.Own.{each_is_as_alone, others_change_nothing}
use Rattle.conn_table.proofs.laws.others_change_nothing.Goals as goal

pub returns : goal.returns
returns c = record { alone = each_is_as_alone; others = others_change_nothing c.bytes_have_one_reading.ensures }

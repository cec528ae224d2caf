use Rattle.conn_table.proofs.Lasting.{answers_are_exact}
use Rattle.conn_table.proofs.laws.answers_are_exact.Goals as goal

pub returns : goal.returns
returns c = answers_are_exact c.bytes_have_one_reading.ensures

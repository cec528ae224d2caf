use Rattle.conn_table.proofs.Serving.{calls_give_completions}
use Rattle.conn_table.proofs.laws.calls_give_completions.Goals as goal

pub returns : goal.returns
returns c = calls_give_completions c.bytes_have_one_reading.ensures

use Rattle.conn_table.proofs.Lasting.{few_are_kept}
use Rattle.conn_table.proofs.laws.few_are_kept.Goals as goal

pub returns : goal.returns
returns c = few_are_kept

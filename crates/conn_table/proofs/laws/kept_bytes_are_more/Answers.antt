use Rattle.conn_table.proofs.Ending.{kept_bytes_are_more}
use Rattle.conn_table.proofs.laws.kept_bytes_are_more.Goals as goal

pub returns : goal.returns
returns c = kept_bytes_are_more

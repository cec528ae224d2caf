use Rattle.conn_table.proofs.Few.{kept_bytes_are_few, all_kept_bytes_are_few, tables_are_small}
use Rattle.conn_table.proofs.laws.kept_bytes_are_few.Goals as goal

pub returns : goal.returns
returns c = record {
  each = kept_bytes_are_few;
  all = all_kept_bytes_are_few;
  table = tables_are_small c.bytes_have_one_reading.ensures;
}

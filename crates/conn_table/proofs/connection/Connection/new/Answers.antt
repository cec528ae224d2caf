use Rattle.conn_table.proofs.Found.{nothing_brought}
use Rattle.conn_table.proofs.connection.Connection.new.Goals as goal

pub invariant_of-result : goal.invariant_of-result
invariant_of-result c = record { known = c.new-2.ensures _; kept = λ request whole. absurd (nothing_brought _ request c.new.ensures.items whole) }

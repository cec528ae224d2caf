use Rattle.conn_table.proofs.Steps.{sound_new}
use Rattle.conn_table.proofs.conns.Conns.new.Goals as goal

pub invariant_of-result : goal.invariant_of-result
invariant_of-result c = sound_new c.in_ok-connections.connections c.in_ok-connections.ensures.empty

use Rattle.conn_table.proofs.Steps.{is_full}
use Rattle.conn_table.proofs.conns.Conns.is_full.Goals as goal

pub returns : goal.returns
returns c = is_full c.self.inside.connections c.args.self.now c.len.result c.self.invariant c.self.view_is c.len.ensures

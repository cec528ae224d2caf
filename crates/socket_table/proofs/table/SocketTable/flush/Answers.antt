use Rattle.std.proofs.Common.{rules, ◌<◌, length}
use Rattle.socket_table.proofs.Places.{changed}
use Rattle.socket_table.proofs.table.SocketTable.flush.Goals as goal

pub returns-clause-flushes : goal.returns-clause-flushes
returns-clause-flushes g c =
    let within : c.args.place < length c.args.self.now.seats.items = search rules in
    changed _ _ _ c.index_mut.result.now _ within c.index_mut.ensures.value c.flush.ensures.flushes

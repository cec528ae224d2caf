use Rattle.std.proofs.Common.{rules, ◌<◌, length}
use Rattle.socket_table.proofs.Places.{changed}
use Rattle.socket_table.proofs.table.SocketTable.hear.Goals as goal

pub returns-clause-hears : goal.returns-clause-hears
returns-clause-hears g c =
    let within : c.args.place < length c.args.self.now.seats.items = search rules in
    changed _ _ _ c.index_mut.result.now _ within c.index_mut.ensures.value c.hear.ensures

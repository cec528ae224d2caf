use Rattle.std.proofs.Common.{rules, ◌<◌, length}
use Rattle.socket_table.proofs.Places.{changed}
use Rattle.socket_table.proofs.table.SocketTable.close.Goals as goal

pub returns-clause-closes : goal.returns-clause-closes
returns-clause-closes g c =
    let within : c.in_ok-place.place < length c.args.self.now.seats.items = search rules in
    changed _ _ _ c.index_mut.result.now _ within c.index_mut.ensures.value (search rules)

use Rattle.std.proofs.Common.{rules, refl, ◌<◌, length}
use Rattle.socket_table.proofs.Places.{changed}
use Rattle.socket_table.proofs.table.SocketTable.start.Goals as goal

pub returns-clause-starts : goal.returns-clause-starts
returns-clause-starts g c =
    let within : c.args.place < length c.args.self.now.seats.items = search rules in
    changed _ _ _ c.index_mut.result.now _ within c.index_mut.ensures.value refl

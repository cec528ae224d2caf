use Rattle.std.proofs.Common.{rules, refl, ◌<◌, length}
use Rattle.std.proofs.lemmas.Option.{slice_get_read}
use Rattle.socket_table.proofs.table.SocketTable.pass_turn.Goals as goal

pub returns-clause-passes : goal.returns-clause-passes
returns-clause-passes g c =
    let within : c.args.place < length c.args.self.now.seats.items = search rules in
    (c.remove-seat.result, slice_get_read _ _ _ _ refl within c.remove-seat.ensures.value, search rules)

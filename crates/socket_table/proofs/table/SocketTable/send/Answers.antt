use Rattle.std.proofs.Common.{rules, sym, ◌∙◌, ◌<◌, length}
use Rattle.socket_table.proofs.Places.{changed}
use Rattle.socket_table.proofs.table.SocketTable.send.Goals as goal

pub returns-clause-sends : goal.returns-clause-sends
returns-clause-sends g c =
    let within : c.in-Some.place < length c.args.self.now.seats.items = search rules in
    λ is_open memory. rw (sym c.place_of.ensures ∙ c.in-Some.is) (changed _ _ _ c.index_mut.result.now _ within c.index_mut.ensures.value (c.send.ensures.sends memory))

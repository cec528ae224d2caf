use Rattle.std.proofs.Common.{rules, refl, sym, ◌∙◌, ◌<◌, length}
use Rattle.socket_table.proofs.Places.{changed}
use Rattle.socket_table.proofs.table.SocketTable.mark.Goals as goal

pub returns-in-Some : goal.returns-in-Some
returns-in-Some g c =
    let within : c.in-Some.place < length c.args.self.now.seats.items = search rules in
    rw (sym c.place_in_all.ensures ∙ c.in-Some.is) (changed _ _ _ c.index_mut.result.now _ within c.index_mut.ensures.value refl)

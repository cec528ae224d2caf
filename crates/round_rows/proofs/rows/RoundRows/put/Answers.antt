use Rattle.std.proofs.Common.{arith}
use Rattle.round_rows.proofs.Places.{one_more}
use Rattle.round_rows.proofs.rows.RoundRows.put.Goals as goal

pub invariant_of-self : goal.invariant_of-self
invariant_of-self c =
    let rows = c.self.inside.rows.items in
    let numbers = c.self.inside.numbers.listed in
    let places = c.self.inside.places.items in
    let more = one_more rows numbers places c.self.invariant c.args.number c.args.row c.len-place.result (omega (arith, c.len-place.ensures, c.self.inside.rows.ok.0)) c.requires.has in
    rw (c.in-Ok.ensures.items, c.put.ensures.listed, c.in-Ok-push.ensures.items) more

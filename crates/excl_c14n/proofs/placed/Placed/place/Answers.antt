use Rattle.std.proofs.Common.{◌∙◌, arith}
use Rattle.excl_c14n.proofs.Pairs.{pairs_count, place_found}
use Rattle.excl_c14n.proofs.placed.Placed.place.Goals as goal

pub index-requires : goal.index-requires
index-requires c =
    let even = c.self.invariant.even in
    omega (
      arith,
      c.requires,
      even,
      c.self.inside.places.ok.0,
      pairs_count c.self.inside.prefixes.items c.self.inside.places.items c.args.self.now c.self.invariant c.self.view_is,
    )

pub returns : goal.returns
returns c = λ d.
    c.index.ensures
    ∙ place_found c.self.inside.prefixes.items c.self.inside.places.items c.args.self.now c.self.invariant c.self.view_is c.args.i c.index.result.now d c.requires

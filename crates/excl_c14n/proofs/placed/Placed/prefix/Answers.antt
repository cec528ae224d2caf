use Rattle.std.proofs.Common.{ap, ◌∙◌, arith}
use Rattle.excl_c14n.specs.Pairs.{Pair}
use Rattle.excl_c14n.proofs.Pairs.{pairs_count, pair_found}
use Rattle.excl_c14n.proofs.placed.Placed.prefix.Goals as goal

pub index-requires : goal.index-requires
index-requires c =
    omega (arith, c.requires, c.self.inside.prefixes.ok.0, pairs_count c.self.inside.prefixes.items c.self.inside.places.items c.args.self.now c.self.invariant c.self.view_is)

pub returns : goal.returns
returns c = λ d.
    ap (λ (t : _). t.now) c.index.ensures
    ∙ ap (λ (pair : Pair). pair.0)
    (pair_found c.self.inside.prefixes.items c.self.inside.places.items c.args.self.now c.self.invariant c.self.view_is c.args.i c.index.result.now d.1 d c.requires)

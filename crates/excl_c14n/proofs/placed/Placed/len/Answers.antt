use Rattle.std.proofs.Common.{arith}
use Rattle.excl_c14n.proofs.Pairs.{pairs_count}
use Rattle.excl_c14n.proofs.placed.Placed.len.Goals as goal

pub returns : goal.returns
returns c = omega (arith, c.len.ensures, c.self.inside.prefixes.ok.0, pairs_count c.self.inside.prefixes.items c.self.inside.places.items c.args.self.now c.self.invariant c.self.view_is)

use Rattle.serve_loop.specs.Worlds.{IsAnswered}
use Rattle.serve_loop.proofs.Moments.{moments_come_in_order}
use Rattle.serve_loop.proofs.laws.moments_come_in_order.Goals as goal

pub returns : goal.returns
returns g c = moments_come_in_order c.moments_come_in_order.ensures.first c.moments_come_in_order.ensures.later
    (IsAnswered g.N.Node.rules)

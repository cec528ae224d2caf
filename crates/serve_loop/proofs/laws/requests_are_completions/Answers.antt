use Rattle.serve_loop.specs.Worlds.{IsAnswered}
use Rattle.serve_loop.proofs.Completing.{requests_are_completions}
use Rattle.serve_loop.proofs.laws.requests_are_completions.Goals as goal

pub returns : goal.returns
returns g c =
    requests_are_completions (IsAnswered g.N.Node.rules) c.calls_give_completions.ensures

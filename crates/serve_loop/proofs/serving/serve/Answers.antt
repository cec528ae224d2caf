use Rattle.std.proofs.Common.{◌≡◌, Err, rules}
use Rattle.serve_loop.specs.declared.served.ServeFault.TheVariants.{NoMemory}
use Rattle.serve_loop.specs.Worlds.{IsAnswered}
use Rattle.serve_loop.proofs.Rounds.{not_begun}
use Rattle.serve_loop.proofs.serving.serve.Goals as goal

pub returns-in_err-conns-clause-serves : goal.returns-in_err-conns-clause-serves
returns-in_err-conns-clause-serves g c = let starved : c.from_residual.result ≡ Err NoMemory = search rules in
    not_begun (IsAnswered g.N.Node.rules) g.N.Node.rules.leaves
    g.D.Disk.shows g.met.D.Disk.counts_now g.met.D.Disk.only_now c.args.node.now c.args.disk.now
    (g.L.Link.shows c.args.link.now) (g.C.Clock.to_come c.args.clock.now) c.args.budget c.from_residual.result starved

pub returns-in_err-into-clause-serves : goal.returns-in_err-into-clause-serves
returns-in_err-into-clause-serves g c = let result = c.from_residual-in_err-into.result in
    let starved : result ≡ Err NoMemory = search rules in
    not_begun (IsAnswered g.N.Node.rules) g.N.Node.rules.leaves
    g.D.Disk.shows g.met.D.Disk.counts_now g.met.D.Disk.only_now c.args.node.now c.args.disk.now
    (g.L.Link.shows c.args.link.now) (g.C.Clock.to_come c.args.clock.now) c.args.budget result starved

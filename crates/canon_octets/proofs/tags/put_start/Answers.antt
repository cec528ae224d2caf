use Rattle.std.proofs.Common.{refl}
use Rattle.std.specs.Prelude.{codes}
use Rattle.canon_octets.specs.Names.{joined_name}
use Rattle.canon_octets.proofs.Appending.{first_err, last_ok, last_err}
use Rattle.canon_octets.proofs.tags.put_start.Goals as goal

pub returns-in_err-put-clause-err : goal.returns-in_err-put-clause-err
returns-in_err-put-clause-err g c =
    first_err g.met.O.Octets.composes c.from_residual.result c.args.out.now c.put.new.self (codes "<") (joined_name c.args.name.prefix.now c.args.name.local.now) _ refl
    c.in_err-put.ensures.err

pub returns-clause-ok : goal.returns-clause-ok
returns-clause-ok g c =
    last_ok g.met.O.Octets.composes c.put_name.result c.args.out.now c.put.new.self c.put_name.new.out (codes "<") (joined_name c.args.name.prefix.now c.args.name.local.now)
    _ refl c.in_ok-put.ensures.ok c.put_name.ensures.ok

pub returns-clause-err : goal.returns-clause-err
returns-clause-err g c =
    last_err g.met.O.Octets.composes c.put_name.result c.args.out.now c.put.new.self c.put_name.new.out (codes "<") (joined_name c.args.name.prefix.now c.args.name.local.now)
    _ refl c.in_ok-put.ensures.ok c.put_name.ensures.err

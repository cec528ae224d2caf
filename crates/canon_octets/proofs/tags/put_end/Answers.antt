use Rattle.std.proofs.Common.{◌++◌, refl}
use Rattle.std.specs.Prelude.{codes}
use Rattle.canon_octets.specs.Names.{joined_name}
use Rattle.canon_octets.proofs.Appending.{first_err, middle_err, last_ok, last_err}
use Rattle.canon_octets.proofs.tags.put_end.Goals as goal

pub returns-in_err-put-clause-err : goal.returns-in_err-put-clause-err
returns-in_err-put-clause-err g c =
    first_err g.met.O.Octets.composes c.from_residual.result c.args.out.now c.put.new.self (codes "</")
    (joined_name c.args.name.prefix.now c.args.name.local.now ++ codes ">") _ refl c.in_err-put.ensures.err

pub returns-in_err-put_name-clause-err : goal.returns-in_err-put_name-clause-err
returns-in_err-put_name-clause-err g c =
    middle_err g.met.O.Octets.composes c.from_residual-in_err-put_name.result c.args.out.now c.put.new.self c.put_name.new.out (codes "</")
    (joined_name c.args.name.prefix.now c.args.name.local.now) (codes ">") _ refl c.in_ok-put.ensures.ok c.in_err-put_name.ensures.err

pub returns-clause-ok : goal.returns-clause-ok
returns-clause-ok g c =
    let name = joined_name c.args.name.prefix.now c.args.name.local.now in
    last_ok g.met.O.Octets.composes c.put-2.result c.args.out.now c.put_name.new.out c.put-2.new.self (codes "</" ++ name) (codes ">") _ refl
    (g.met.O.Octets.composes.joined _ _ _ (codes "</") name c.in_ok-put.ensures.ok c.in_ok-put_name.ensures.ok) c.put-2.ensures.ok

pub returns-clause-err : goal.returns-clause-err
returns-clause-err g c =
    let name = joined_name c.args.name.prefix.now c.args.name.local.now in
    last_err g.met.O.Octets.composes c.put-2.result c.args.out.now c.put_name.new.out c.put-2.new.self (codes "</" ++ name) (codes ">") _ refl
    (g.met.O.Octets.composes.joined _ _ _ (codes "</") name c.in_ok-put.ensures.ok c.in_ok-put_name.ensures.ok) c.put-2.ensures.err

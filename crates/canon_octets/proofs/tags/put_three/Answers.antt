use Rattle.std.proofs.Common.{◌++◌, refl}
use Rattle.canon_octets.proofs.Appending.{first_err, last_err}
use Rattle.canon_octets.proofs.tags.put_three.Goals as goal

pub returns-in_err-put-clause-err : goal.returns-in_err-put-clause-err
returns-in_err-put-clause-err g c =
    first_err g.met.O.Octets.composes c.from_residual.result c.args.out.now c.put-2.new.self c.args.first.now (c.args.second.now ++ c.args.third.now) _ refl
    c.in_err-put.ensures.err

pub returns-clause-err : goal.returns-clause-err
returns-clause-err g c =
    last_err g.met.O.Octets.composes c.put_two.result c.args.out.now c.put-2.new.self c.put_two.new.out c.args.first.now (c.args.second.now ++ c.args.third.now) _ refl
    c.in_ok-put.ensures.ok c.put_two.ensures.err

use Rattle.std.proofs.Common.{ap}
use Rattle.xml_spec.specs.Canonical.{print_end}
use Rattle.canon_octets.specs.Names.{joined_name}
use Rattle.canon_octets.proofs.Appending.{same_ok, same_err}
use Rattle.excl_c14n.proofs.walk.Walk.put_end.Goals as goal

pub returns-clause-ok : goal.returns-clause-ok
returns-clause-ok g c =
    same_ok g.O.Octets.appends c.put_end.result c.args.out.now c.put_end.new.out
    (print_end (joined_name c.node_name-name.result.prefix.now c.node_name-name.result.local.now)) _ (ap print_end c.node_name-name.ensures) c.put_end.ensures.ok

pub returns-clause-err : goal.returns-clause-err
returns-clause-err g c =
    same_err g.O.Octets.appends c.put_end.result c.args.out.now c.put_end.new.out
    (print_end (joined_name c.node_name-name.result.prefix.now c.node_name-name.result.local.now)) _ (ap print_end c.node_name-name.ensures) c.put_end.ensures.err

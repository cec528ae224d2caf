use Rattle.canon_octets.specs.Names.{joined_name}
use Rattle.canon_octets.proofs.Starting.{name_err, declared_err, attributes_err, end_ok, end_err}
use Rattle.excl_c14n.proofs.walk.Walk.put_start.Goals as goal

pub returns-in_err-put_start-clause-err : goal.returns-in_err-put_start-clause-err
returns-in_err-put_start-clause-err g c =
    name_err g.met.O.Octets.composes c.args.out.now (joined_name c.node_name-name.result.prefix.now c.node_name-name.result.local.now) _ _ _ c.node_name-name.ensures
    c.from_residual.result c.put_start.new.out c.in_err-put_start.ensures.err

pub returns-in_err-put_declarations-clause-err : goal.returns-in_err-put_declarations-clause-err
returns-in_err-put_declarations-clause-err g c =
    declared_err g.met.O.Octets.composes c.args.out.now (joined_name c.node_name-name.result.prefix.now c.node_name-name.result.local.now) _ _ _ c.node_name-name.ensures
    c.from_residual-in_err-put_declarations.result c.put_start.new.out c.put_declarations.new.out c.in_ok-put_start.ensures.ok c.in_err-put_declarations.ensures.err

pub returns-in_err-put_attributes-clause-err : goal.returns-in_err-put_attributes-clause-err
returns-in_err-put_attributes-clause-err g c =
    attributes_err g.met.O.Octets.composes c.args.out.now (joined_name c.node_name-name.result.prefix.now c.node_name-name.result.local.now) _ _ _ c.node_name-name.ensures
    c.from_residual-in_err-put_attributes.result c.put_start.new.out c.put_declarations.new.out c.put_attributes.new.out c.in_ok-put_start.ensures.ok
    c.in_ok-put_declarations.ensures.ok c.in_err-put_attributes.ensures.err

pub returns-clause-ok : goal.returns-clause-ok
returns-clause-ok g c =
    end_ok g.met.O.Octets.composes c.args.out.now (joined_name c.node_name-name.result.prefix.now c.node_name-name.result.local.now) _ _ _ c.node_name-name.ensures
    c.put.result c.put_start.new.out c.put_declarations.new.out c.put_attributes.new.out c.put.new.self c.in_ok-put_start.ensures.ok
    c.in_ok-put_declarations.ensures.ok c.in_ok-put_attributes.ensures.ok c.put.ensures.ok

pub returns-clause-err : goal.returns-clause-err
returns-clause-err g c =
    end_err g.met.O.Octets.composes c.args.out.now (joined_name c.node_name-name.result.prefix.now c.node_name-name.result.local.now) _ _ _ c.node_name-name.ensures
    c.put.result c.put_start.new.out c.put_declarations.new.out c.put_attributes.new.out c.put.new.self c.in_ok-put_start.ensures.ok
    c.in_ok-put_declarations.ensures.ok c.in_ok-put_attributes.ensures.ok c.put.ensures.err

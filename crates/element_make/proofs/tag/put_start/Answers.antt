use Rattle.std.proofs.Common.{List, subst}
use Rattle.std.specs.List.{flat_map}
use Rattle.canon_octets.specs.Places.{AppendsPart}
use Rattle.canon_octets.specs.Names.{joined_name}
use Rattle.canon_octets.proofs.Starting.{name_err, declared_err, attributes_err, end_ok, end_err}
use Rattle.element_make.specs.Views.{attribute_views}
use Rattle.element_make.specs.Writing.{by_name}
use Rattle.element_make.specs.declared.piece.Attribute.{Attribute}
use Rattle.element_make.proofs.Attributes.{print_of}
use Rattle.element_make.proofs.tag.put_start.Goals as goal

pub returns-in_err-put_start-clause-err : goal.returns-in_err-put_start-clause-err
returns-in_err-put_start-clause-err g c =
    name_err g.met.O.Octets.composes c.args.out.now (joined_name c.name_of-name.result.prefix.now c.name_of-name.result.local.now) _ _ _ c.name_of-name.ensures
    c.from_residual.result c.put_start.new.out c.in_err-put_start.ensures.err

pub returns-in_err-put_declaration-clause-err : goal.returns-in_err-put_declaration-clause-err
returns-in_err-put_declaration-clause-err g c =
    declared_err g.met.O.Octets.composes c.args.out.now (joined_name c.name_of-name.result.prefix.now c.name_of-name.result.local.now) _ _ _ c.name_of-name.ensures
    c.from_residual-in_err-put_declaration.result c.put_start.new.out c.put_declaration.new.out c.in_ok-put_start.ensures.ok c.in_err-put_declaration.ensures.err

pub returns-in_err-put_attributes-clause-err : goal.returns-in_err-put_attributes-clause-err
returns-in_err-put_attributes-clause-err g c =
    attributes_err g.met.O.Octets.composes c.args.out.now (joined_name c.name_of-name.result.prefix.now c.name_of-name.result.local.now) _ _ _ c.name_of-name.ensures
    c.from_residual-in_err-put_attributes.result c.put_start.new.out c.put_declaration.new.out c.put_attributes.new.out c.in_ok-put_start.ensures.ok
    c.in_ok-put_declaration.ensures.ok
    (subst (λ (xs : List Attribute). AppendsPart g.O.Octets.appends c.put_declaration.new.out c.put_attributes.new.out (flat_map print_of (by_name (attribute_views xs))))
    c.as_slice.ensures.value c.in_err-put_attributes.ensures.err)

pub returns-clause-ok : goal.returns-clause-ok
returns-clause-ok g c =
    end_ok g.met.O.Octets.composes c.args.out.now (joined_name c.name_of-name.result.prefix.now c.name_of-name.result.local.now) _ _ _ c.name_of-name.ensures
    c.put.result c.put_start.new.out c.put_declaration.new.out c.put_attributes.new.out c.put.new.self c.in_ok-put_start.ensures.ok
    c.in_ok-put_declaration.ensures.ok
    (subst (λ (xs : List Attribute). g.O.Octets.appends c.put_declaration.new.out c.put_attributes.new.out (flat_map print_of (by_name (attribute_views xs))))
    c.as_slice.ensures.value c.in_ok-put_attributes.ensures.ok) c.put.ensures.ok

pub returns-clause-err : goal.returns-clause-err
returns-clause-err g c =
    end_err g.met.O.Octets.composes c.args.out.now (joined_name c.name_of-name.result.prefix.now c.name_of-name.result.local.now) _ _ _ c.name_of-name.ensures
    c.put.result c.put_start.new.out c.put_declaration.new.out c.put_attributes.new.out c.put.new.self c.in_ok-put_start.ensures.ok
    c.in_ok-put_declaration.ensures.ok
    (subst (λ (xs : List Attribute). g.O.Octets.appends c.put_declaration.new.out c.put_attributes.new.out (flat_map print_of (by_name (attribute_views xs))))
    c.as_slice.ensures.value c.in_ok-put_attributes.ensures.ok) c.put.ensures.err

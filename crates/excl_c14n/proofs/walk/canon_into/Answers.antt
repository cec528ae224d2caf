use Rattle.std.proofs.Common.{is_some, refl, sym, ap, ◌∙◌, subst}
use Rattle.xml_spec.specs.Names.{outermost}
use Rattle.xml_spec.specs.Canonical.{scope_at, canonical}
use Rattle.canon_octets.proofs.Appending.{on_err, no_part, same_ok, same_err}
use Rattle.excl_c14n.specs.Levels.{RenderedView, in_force}
use Rattle.excl_c14n.specs.Pairs.{AreDeclared}
use Rattle.excl_c14n.proofs.Canonical.{form_is_canonical}
use Rattle.saml_tree.proofs.Numbers.{node_there}
use Rattle.excl_c14n.proofs.Walking.{number_of, skip_behind}
use Rattle.excl_c14n.proofs.walk.canon_into.Goals as goal

pub put_node-requires-clause-there : goal.put_node-requires-clause-there
put_node-requires-clause-there g c = node_there c.args.doc.now.tree c.args.node.0 (ap is_some c.requires.element)

pub put_node-requires-clause-tree : goal.put_node-requires-clause-tree
put_node-requires-clause-tree g c = ap (λ (v : RenderedView). v.tree) c.new-rendered.ensures

pub put_node-requires-clause-declared : goal.put_node-requires-clause-declared
put_node-requires-clause-declared g c =
    subst (λ scope. AreDeclared c.in_ok-listed.listed c.args.doc.now.tree c.args.node.0 scope c.in_ok-declared.declared)
    (sym (ap (λ (v : RenderedView). in_force v.levels) c.new-rendered.ensures)) c.in_ok-declared.ensures

pub returns-in_err-listed-clause-err : goal.returns-in_err-listed-clause-err
returns-in_err-listed-clause-err g c = on_err c.from_residual.result (no_part g.met.O.Octets.composes c.args.out.now _)

pub returns-in_err-declared-clause-err : goal.returns-in_err-declared-clause-err
returns-in_err-declared-clause-err g c = on_err c.from_residual-in_err-declared.result (no_part g.met.O.Octets.composes c.args.out.now _)

pub returns-clause-ok : goal.returns-clause-ok
returns-clause-ok g c =
    same_ok g.O.Octets.appends c.put_node.result c.args.out.now c.put_node.new.out _ _
    (form_is_canonical c.in_ok-listed.listed c.args.doc.now.tree c.args.node.0 (number_of c.args.skip) (scope_at outermost c.args.doc.now.tree c.args.node.0)
    (in_force c.new-rendered.result.levels) (skip_behind c.args.node.0 c.args.skip c.requires.skipped) refl
    (ap (λ (v : RenderedView). in_force v.levels) c.new-rendered.ensures)
    ∙ ap (canonical c.args.doc.now.tree c.args.node.0 (number_of c.args.skip)) c.in_ok-listed.ensures) c.put_node.ensures.form

pub returns-clause-err : goal.returns-clause-err
returns-clause-err g c =
    same_err g.O.Octets.appends c.put_node.result c.args.out.now c.put_node.new.out _ _
    (form_is_canonical c.in_ok-listed.listed c.args.doc.now.tree c.args.node.0 (number_of c.args.skip) (scope_at outermost c.args.doc.now.tree c.args.node.0)
    (in_force c.new-rendered.result.levels) (skip_behind c.args.node.0 c.args.skip c.requires.skipped) refl
    (ap (λ (v : RenderedView). in_force v.levels) c.new-rendered.ensures)
    ∙ ap (canonical c.args.doc.now.tree c.args.node.0 (number_of c.args.skip)) c.in_ok-listed.ensures) c.put_node.ensures.err

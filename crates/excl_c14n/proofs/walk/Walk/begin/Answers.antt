use Rattle.std.proofs.Common.{sym, ap, ◌∙◌, subst}
use Rattle.std.proofs.lemmas.Result.{on_ok_weaker}
use Rattle.canon_octets.specs.Places.{AppendsPart}
use Rattle.canon_octets.proofs.Appending.{on_ok, on_err, no_part, all_part}
use Rattle.excl_c14n.specs.Levels.{RenderedView}
use Rattle.excl_c14n.specs.Pairs.{AreDeclared, AreThere}
use Rattle.excl_c14n.specs.NodeByNode.{scope_inside}
use Rattle.excl_c14n.proofs.Opening.{level_in, rendered_in, start_is, all_rendered}
use Rattle.excl_c14n.proofs.Pairs.{there_are}
use Rattle.excl_c14n.proofs.walk.Walk.begin.Goals as goal

pub wanted_at-requires-clause-tree : goal.wanted_at-requires-clause-tree
wanted_at-requires-clause-tree g c = ap (λ (v : RenderedView). v.tree) c.in_ok-enter.ensures ∙ c.requires.tree

pub wanted_at-requires-clause-declared : goal.wanted_at-requires-clause-declared
wanted_at-requires-clause-declared g c =
    subst (λ scope. AreDeclared c.args.self.now.listed c.args.self.now.doc.now.tree c.args.n.0 scope c.args.declared.now)
    (sym (rendered_in c.args.rendered.now c.enter.new.self c.in_ok-enter.ensures)) c.requires.declared

pub put_start-requires-clause-there : goal.put_start-requires-clause-there
put_start-requires-clause-there g c =
    there_are c.args.self.now.doc.now.tree (scope_inside c.args.self.now.doc.now.tree c.args.n.0) c.in_ok-wanted.wanted c.in_ok-wanted.ensures.placed

pub render_all-requires-clause-level : goal.render_all-requires-clause-level
render_all-requires-clause-level g c = level_in c.args.rendered.now c.enter.new.self c.in_ok-enter.ensures

pub render_all-requires-clause-there : goal.render_all-requires-clause-there
render_all-requires-clause-there g c =
    subst (λ tree. AreThere tree c.in_ok-wanted.wanted) (sym (ap (λ (v : RenderedView). v.tree) c.in_ok-enter.ensures ∙ c.requires.tree))
    (there_are c.args.self.now.doc.now.tree (scope_inside c.args.self.now.doc.now.tree c.args.n.0) c.in_ok-wanted.wanted c.in_ok-wanted.ensures.placed)

pub returns-in_err-enter-clause-err : goal.returns-in_err-enter-clause-err
returns-in_err-enter-clause-err g c = on_err c.from_residual.result (no_part g.met.O.Octets.composes c.args.out.now _)

pub returns-in_err-wanted-clause-err : goal.returns-in_err-wanted-clause-err
returns-in_err-wanted-clause-err g c = on_err c.from_residual-in_err-wanted.result (no_part g.met.O.Octets.composes c.args.out.now _)

pub returns-in_err-put_start-clause-err : goal.returns-in_err-put_start-clause-err
returns-in_err-put_start-clause-err g c =
    on_err c.from_residual-in_err-put_start.result
    (subst (AppendsPart g.O.Octets.appends c.args.out.now c.put_start.new.out)
    (start_is c.args.self.now.listed c.args.self.now.doc.now.tree c.args.n.0 c.args.rendered.now c.enter.new.self c.in_ok-wanted.wanted c.in_ok-enter.ensures
    c.in_ok-wanted.ensures.prefixes c.in_ok-wanted.ensures.placed) c.in_err-put_start.ensures.err)

pub returns-clause-start : goal.returns-clause-start
returns-clause-start g c =
    on_ok c.render_all.result
    (subst (g.O.Octets.appends c.args.out.now c.put_start.new.out)
    (start_is c.args.self.now.listed c.args.self.now.doc.now.tree c.args.n.0 c.args.rendered.now c.enter.new.self c.in_ok-wanted.wanted c.in_ok-enter.ensures
    c.in_ok-wanted.ensures.prefixes c.in_ok-wanted.ensures.placed) c.in_ok-put_start.ensures.ok)

pub returns-clause-err : goal.returns-clause-err
returns-clause-err g c =
    on_err c.render_all.result
    (all_part g.met.O.Octets.composes c.args.out.now c.put_start.new.out _
    (subst (g.O.Octets.appends c.args.out.now c.put_start.new.out)
    (start_is c.args.self.now.listed c.args.self.now.doc.now.tree c.args.n.0 c.args.rendered.now c.enter.new.self c.in_ok-wanted.wanted c.in_ok-enter.ensures
    c.in_ok-wanted.ensures.prefixes c.in_ok-wanted.ensures.placed) c.in_ok-put_start.ensures.ok))

pub returns-clause-shown : goal.returns-clause-shown
returns-clause-shown g c =
    on_ok_weaker c.render_all.result
    (all_rendered c.args.self.now.listed c.args.self.now.doc.now.tree c.args.n.0 c.args.rendered.now c.enter.new.self c.in_ok-wanted.wanted c.in_ok-enter.ensures
    c.in_ok-wanted.ensures.prefixes c.in_ok-wanted.ensures.placed c.render_all.new.rendered
    (ap (λ (v : RenderedView). v.tree) c.in_ok-enter.ensures ∙ c.requires.tree))
    c.render_all.ensures

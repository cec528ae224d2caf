use Rattle.std.proofs.Common.{◌≡◌, ◌+◌, ◌-◌, ap, sym, subst, arith}
use Rattle.saml_tree.specs.NodeNames.{IsNameAt}
use Rattle.excl_c14n.specs.Levels.{RenderedView}
use Rattle.excl_c14n.proofs.Pairs.{there_at}
use Rattle.excl_c14n.proofs.Tags.{none_rendered, one_more_rendered, rendered_level}
use Rattle.excl_c14n.proofs.walk.render_all.Goals as goal

pub loop-i-init : goal.loop-i-init
loop-i-init c = none_rendered c.args.rendered.now c.args.wanted.now c.len-i.result c.len-i.ensures

pub render-requires-clause-level : goal.render-requires-clause-level
render-requires-clause-level c = rendered_level c.args.rendered.now c.loop-i.rendered c.args.wanted.now c.loop-i.i c.loop-i.invariant c.requires.level

pub render-requires-clause-place : goal.render-requires-clause-place
render-requires-clause-place c =
    subst (λ tree. IsNameAt tree c.place.result) (sym (ap (λ (v : RenderedView). v.tree) c.loop-i.invariant))
    (there_at c.args.rendered.now.tree c.args.wanted.now (c.loop-i.i - 1) c.prefix.result.now c.place.result c.requires.there
    (omega (arith, c.len-i.ensures)) c.place.ensures)

pub loop-i-preserved : goal.loop-i-preserved
loop-i-preserved c =
    let on : c.loop-i.i ≡ c.loop-i.i - 1 + 1 = omega arith in
    one_more_rendered c.args.rendered.now c.loop-i.rendered c.render.new.self c.args.wanted.now (c.loop-i.i - 1) c.loop-i.i c.prefix.result.now c.place.result
    (omega (arith, c.len-i.ensures)) on c.prefix.ensures c.place.ensures c.loop-i.invariant c.in_ok-render.ensures

use Rattle.std.proofs.Common.{◌≡◌, length, refl, reverse, sym, subst, rules}
use Rattle.saml_tree.specs.NodeNames.{IsNameAt}
use Rattle.excl_c14n.specs.Levels.{RenderedView}
use Rattle.excl_c14n.proofs.Answering.{on_ok_too}
use Rattle.excl_c14n.proofs.Tables.{are_below, still_kept, one_rendered, level_in_view}
use Rattle.excl_c14n.proofs.rendered.Rendered.render.Goals as goal

pub declare-requires : goal.declare-requires
declare-requires c =
    level_in_view c.self.inside.doc.now.tree c.self.inside.places.items c.self.inside.numbers c.args.self.now c.self.view_is c.requires.level

pub invariant_of-self-2 : goal.invariant_of-self-2
invariant_of-self-2 c =
    let last : c.in-Ok.number ≡ length c.self.inside.places.items = search rules in
    still_kept c.declare.result c.self.inside.doc.now.tree c.self.inside.places.items c.push.new.self.items c.args.place c.self.inside.numbers c.declare.new.self
    (reverse c.self.inside.starts.items) c.args.prefix.now c.in-Ok.number c.declare.ensures.ok c.declare.ensures.err c.self.invariant
    (subst (λ (v : RenderedView). IsNameAt v.tree c.args.place) (sym c.self.view_is) c.requires.place) c.in_ok-push.ensures.items last

pub returns : goal.returns
returns c =
    let last : c.in-Ok.number ≡ length c.self.inside.places.items = search rules in
    on_ok_too c.declare.result c.declare.result refl
    (one_rendered c.self.inside.doc.now.tree c.self.inside.places.items c.push.new.self.items c.args.place c.self.inside.numbers c.declare.new.self
    c.args.self.now c.args.prefix.now c.in-Ok.number c.self.view_is
    (are_below c.self.inside.doc.now.tree c.self.inside.places.items c.self.inside.numbers (reverse c.self.inside.starts.items) c.self.invariant) c.in_ok-push.ensures.items last)
    c.declare.ensures.ok

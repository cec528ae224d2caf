use Rattle.std.proofs.Common.{◌<◌, length, sym, ap, ◌∙◌, subst, arith}
use Rattle.xml_spec.specs.Numbering.{from_node}
use Rattle.xml_spec.specs.Canonical.{used_prefixes}
use Rattle.saml_tree.specs.Elements.{name_in, attributes_in}
use Rattle.saml_tree.specs.NodeNames.{IsNameAt}
use Rattle.excl_c14n.specs.Levels.{in_force}
use Rattle.excl_c14n.specs.Pairs.{prefixes_in, space_at, ArePlaced}
use Rattle.excl_c14n.specs.NodeByNode.{scope_inside}
use Rattle.excl_c14n.proofs.Needed.{none_looked_at, declared_wanted, all_looked_at, all_wanted}
use Rattle.excl_c14n.proofs.Pairs.{placed_at, prefix_at, prefixes_count}
use Rattle.excl_c14n.proofs.walk.Walk.wanted_at.Goals as goal

pub loop-i-init : goal.loop-i-init
loop-i-init c = record {
  found =
      none_looked_at (scope_inside c.args.self.now.doc.now.tree c.args.n.0) (in_force c.args.rendered.now.levels)
      (used_prefixes (name_in (from_node c.args.self.now.doc.now.tree c.args.n.0)) (attributes_in (from_node c.args.self.now.doc.now.tree c.args.n.0)))
      (prefixes_in c.args.declared.now) (prefixes_in c.in_ok-wanted.wanted) c.in_ok-wanted.ensures.wanted;
  placed = c.in_ok-wanted.ensures.placed;
}

pub want-requires-clause-place : goal.want-requires-clause-place
want-requires-clause-place c =
    let tree = c.args.self.now.doc.now.tree in
    let here =
    placed_at tree (scope_inside tree c.args.n.0) c.args.declared.now c.loop-i.i c.prefix.result.now c.place.result c.requires.declared.placed
    (omega (arith, c.len-i-end.ensures)) c.prefix.ensures c.place.ensures in
    subst (λ t. IsNameAt t c.place.result) (sym c.requires.tree) here.there

pub want-requires-clause-ascending : goal.want-requires-clause-ascending
want-requires-clause-ascending c = c.loop-i.invariant.found.ascending

pub loop-i-preserved : goal.loop-i-preserved
loop-i-preserved c =
    let tree = c.args.self.now.doc.now.tree in
    let scope = scope_inside tree c.args.n.0 in
    let low : c.loop-i.i < length c.args.declared.now = omega (arith, c.len-i-end.ensures) in
    let here =
    placed_at tree scope c.args.declared.now c.loop-i.i c.prefix.result.now c.place.result c.requires.declared.placed low c.prefix.ensures c.place.ensures in
    let speaks = ap (λ t. space_at t c.place.result) c.requires.tree ∙ here.is in
    record {
      found =
          declared_wanted scope (in_force c.args.rendered.now.levels)
          (used_prefixes (name_in (from_node tree c.args.n.0)) (attributes_in (from_node tree c.args.n.0)))
          (prefixes_in c.args.declared.now) c.loop-i.i c.prefix.result.now (prefixes_in c.loop-i.wanted) (prefixes_in c.want.new.wanted)
          (omega (arith, prefixes_count c.args.declared.now)) (prefix_at c.args.declared.now c.loop-i.i c.prefix.result.now c.place.result low c.prefix.ensures)
          c.loop-i.invariant.found c.in_ok-want.ensures.ascending (c.in_ok-want.ensures.among scope speaks);
      placed =
          subst (λ t. ArePlaced t scope c.want.new.wanted) c.requires.tree
          (c.in_ok-want.ensures.placed scope speaks (subst (λ t. ArePlaced t scope c.loop-i.wanted) (sym c.requires.tree) c.loop-i.invariant.placed));
    }

pub returns-clause-prefixes : goal.returns-clause-prefixes
returns-clause-prefixes c =
    let tree = c.args.self.now.doc.now.tree in
    let scope = scope_inside tree c.args.n.0 in
    let rendered = in_force c.args.rendered.now.levels in
    let name = name_in (from_node tree c.args.n.0) in
    let attributes = attributes_in (from_node tree c.args.n.0) in
    all_wanted c.args.self.now.listed scope rendered name attributes (prefixes_in c.args.declared.now) (prefixes_in c.loop-i.wanted)
    c.requires.declared.among c.requires.declared.others
    (all_looked_at scope rendered (used_prefixes name attributes) (prefixes_in c.args.declared.now) c.loop-i.i (prefixes_in c.loop-i.wanted)
    (omega (arith, prefixes_count c.args.declared.now, c.len-i-end.ensures)) c.loop-i.invariant.found)

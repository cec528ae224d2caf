use Rattle.std.proofs.Common.{◌<◌, Option, IfSome, is_some, sym, ap, subst}
use Rattle.saml_tree.specs.Elements.{IsElement}
use Rattle.saml_tree.specs.declared.node.NodeNo.{NodeNo}
use Rattle.excl_c14n.specs.NodeByNode.{scope_inside}
use Rattle.excl_c14n.proofs.Declaring.{AreLookedAt, number_of, left_above, binds_as, one_more_looked_at, all_looked_around, scope_around, fewer_left, of_number}
use Rattle.saml_tree.proofs.Numbers.{node_there}
use Rattle.excl_c14n.proofs.walk.Walk.declared_around.Goals as goal

pub parent-next-requires : goal.parent-next-requires
parent-next-requires c =
    let tree = c.args.self.now.doc.now.tree in
    let element = subst (λ (o : Option NodeNo). IfSome (number_of o) (λ m. IsElement tree m)) c.in-Some.is c.loop-next.invariant.element in
    node_there tree c.in-Some.element.0 (ap is_some element)

pub loop-next-smaller : goal.loop-next-smaller
loop-next-smaller c =
    subst (λ (o : Option NodeNo). left_above c.parent-next.result < left_above o) (sym c.in-Some.is)
    (fewer_left c.args.self.now.doc.now.tree c.in-Some.element.0 c.parent-next.result c.parent-next.ensures.number)

pub loop-next-preserved : goal.loop-next-preserved
loop-next-preserved c =
    let listed = c.args.self.now.listed in
    let tree = c.args.self.now.doc.now.tree in
    let n = c.args.n.0 in
    let m = c.in-Some.element.0 in
    let next = number_of c.parent-next.result in
    let before = c.loop-next.found in
    let after = c.add_declared.new.found in
    let so_far = subst (λ (o : Option NodeNo). AreLookedAt listed tree n (number_of o) before) c.in-Some.is c.loop-next.invariant.looked in
    let left = scope_around tree m c.parent-next.result c.parent-next.ensures.number in
    record {
      looked =
          one_more_looked_at listed tree n m next before after so_far left c.in_ok-add_declared.ensures.among
          (c.in_ok-add_declared.ensures.placed (scope_inside tree n) so_far.placed (binds_as listed tree n m next before after so_far left));
      element = of_number (λ k. IsElement tree k) c.parent-next.result c.parent-next.ensures.element;
    }

pub returns : goal.returns
returns c =
    let listed = c.args.self.now.listed in
    let tree = c.args.self.now.doc.now.tree in
    all_looked_around listed tree c.args.n.0 c.loop-next.found
    (subst (λ (o : Option NodeNo). AreLookedAt listed tree c.args.n.0 (number_of o) c.loop-next.found) c.in_default.is c.loop-next.invariant.looked)

use Rattle.std.proofs.Common.{Option, IfSome, sym, ap, subst}
use Rattle.saml_tree.specs.declared.node.NodeNo.{NodeNo}
use Rattle.saml_tree.specs.Elements.{IsElement}
use Rattle.tree_read.proofs.Walking.{number_of, IsBehind, next_behind}
use Rattle.tree_read.proofs.Finding.{element_there, less_left}
use Rattle.tree_read.proofs.walk.ElementChildren.count.Goals as goal

pub next-requires : goal.next-requires
next-requires c =
    let tree = c.self.inside.doc.now.tree in
    element_there tree _ (subst (λ (o : Option NodeNo). IfSome (number_of o) (λ k. IsElement tree k)) c.in-Some.is c.loop-next.invariant.element)

pub loop-next-smaller : goal.loop-next-smaller
loop-next-smaller c =
    let tree = c.self.inside.doc.now.tree in
    let behind : IsBehind tree c.in-Some.node.0 (number_of c.next.result) =
    subst (IsBehind tree c.in-Some.node.0) (sym c.next.ensures.number) (next_behind tree c.in-Some.node.0) in
    less_left tree (number_of c.loop-next.next) (number_of c.next.result) c.first_element-next-in-Some.result c.in-Some.node.0
    (ap number_of c.in-Some.is) c.loop-next.invariant.element behind c.first_element-next-in-Some.ensures.behind

use Rattle.std.proofs.Common.{IfSome}
use Rattle.saml_tree.specs.Elements.{IsElement}
use Rattle.excl_c14n.proofs.Declaring.{AreLookedAt, number_of, left_above}
use Rattle.excl_c14n.proofs.walk.Walk.declared_around.Given as goal

abbrev pub invariant-loop-next : goal.invariant-loop-next
invariant-loop-next l = record {
  looked : AreLookedAt l.self.listed l.self.doc.now.tree l.fn.n.0 (number_of l.next) l.found;
  element : IfSome (number_of l.next) (λ m. IsElement l.self.doc.now.tree m);
}

abbrev pub decreases-loop-next : goal.decreases-loop-next
decreases-loop-next l = left_above l.next

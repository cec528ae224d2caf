use Rattle.excl_c14n.specs.NodeByNode.{scope_inside}
use Rattle.excl_c14n.proofs.Ordered.{IsOrder, HasCount}
use Rattle.excl_c14n.proofs.Placing.{AreNamesOf}
use Rattle.excl_c14n.proofs.order.put_in_order.Given as goal

abbrev pub invariant-loop-i : goal.invariant-loop-i
invariant-loop-i l = record {
  counted : HasCount l.doc.tree l.n.0 l.initial.i;
  ordered : IsOrder (scope_inside l.doc.tree l.n.0) l.doc.tree l.n.0 l.initial.i l.i l.order.numbers.items;
  named : AreNamesOf (scope_inside l.doc.tree l.n.0) l.doc.tree l.n.0 l.order.numbers.items l.order.names.items;
}

use Rattle.std.proofs.Common.{◌≡◌, ◌<◌, IfSome}
use Rattle.xml_spec.specs.Numbering.{size}
use Rattle.tree_read.specs.Walk.{IsFrom, children_from}
use Rattle.tree_read.proofs.Walking.{number_of, left_at}
use Rattle.tree_read.proofs.walk.first_element.Given as goal

abbrev pub invariant-loop-next : goal.invariant-loop-next
invariant-loop-next l = record {
  same : children_from l.doc.tree (number_of l.initial.next) ≡ children_from l.doc.tree (number_of l.next);
  there : IfSome (number_of l.next) (λ k. k < size l.doc.tree);
  behind : IfSome (number_of l.next) (λ k. IsFrom (number_of l.initial.next) k);
}

abbrev pub decreases-loop-next : goal.decreases-loop-next
decreases-loop-next l = left_at l.doc.tree (number_of l.next)

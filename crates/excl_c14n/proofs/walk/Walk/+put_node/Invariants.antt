use Rattle.std.proofs.Common.{◌≡◌, suc, ◌-◌}
use Rattle.xml_spec.specs.Numbering.{size, from_node, kids_of}
use Rattle.canon_octets.proofs.Underway.{IsUnderway}
use Rattle.excl_c14n.specs.Levels.{in_force}
use Rattle.excl_c14n.specs.NodeByNode.{scope_inside, nodes_form}
use Rattle.excl_c14n.proofs.Below.{IsInside}
use Rattle.excl_c14n.proofs.Walking.{number_of, form_from, IsBehind, left_at}
use Rattle.excl_c14n.proofs.walk.Walk.+put_node.Given as goal

abbrev pub decreases-put_node : goal.decreases-put_node
decreases-put_node g l = size l.self.now.doc.now.tree - l.n.0

abbrev pub invariant-loop-next : goal.invariant-loop-next
invariant-loop-next g l = record {
  written :
      IsUnderway g.O.Octets.appends l.initial.out l.out
      (form_from l.self.listed (number_of l.self.skip) (scope_inside l.self.doc.now.tree l.n.0) (in_force l.initial.rendered.levels) l.self.doc.now.tree (number_of l.next))
      (nodes_form l.self.listed (number_of l.self.skip) (suc l.n.0) (scope_inside l.self.doc.now.tree l.n.0) (in_force l.initial.rendered.levels)
      (kids_of (from_node l.self.doc.now.tree l.n.0)));
  same : l.rendered ≡ l.initial.rendered;
  behind : IsBehind l.self.doc.now.tree l.n.0 (number_of l.next);
  inside : IsInside l.self.doc.now.tree l.n.0 (number_of l.next);
}

abbrev pub decreases-loop-next : goal.decreases-loop-next
decreases-loop-next g l = left_at l.self.doc.now.tree (number_of l.next)

use Rattle.std.proofs.Common.{◌-◌, ◌<◌}
use Rattle.xml_spec.specs.Numbering.{size}
use Rattle.tree_read.proofs.LastNodes.{IsAmongKids}
use Rattle.tree_read.proofs.texts.last_kid.Given as goal

abbrev pub invariant-loop-next : goal.invariant-loop-next
invariant-loop-next l = record {
  there : l.last.0 < size l.doc.tree;
  among : IsAmongKids l.doc.tree l.fn.node.0 l.last.0;
}

abbrev pub decreases-loop-next : goal.decreases-loop-next
decreases-loop-next l = size l.doc.tree - l.last.0

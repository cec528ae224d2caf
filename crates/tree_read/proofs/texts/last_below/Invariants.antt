use Rattle.std.proofs.Common.{◌≡◌, ◌+◌, ◌-◌, ◌<◌}
use Rattle.xml_spec.specs.Numbering.{size, from_node, kids_of}
use Rattle.tree_read.proofs.texts.last_below.Given as goal

abbrev pub invariant-loop-kid : goal.invariant-loop-kid
invariant-loop-kid l = record {
  there : l.last.0 < size l.doc.tree;
  last :
      l.last.0 + size (kids_of (from_node l.doc.tree l.last.0))
      ≡ l.fn.node.0 + size (kids_of (from_node l.doc.tree l.fn.node.0));
}

abbrev pub decreases-loop-kid : goal.decreases-loop-kid
decreases-loop-kid l = size l.doc.tree - l.last.0

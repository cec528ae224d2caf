use Rattle.std.proofs.Common.{◌≡◌}
use Rattle.tree_read.specs.Texts.{attribute_text}
use Rattle.tree_read.proofs.Attributes.{HasCount, value_from}
use Rattle.tree_read.proofs.values.attribute_number.Given as goal

abbrev pub invariant-loop-i : goal.invariant-loop-i
invariant-loop-i l = record {
  counted : HasCount l.at.doc.now.tree l.at.node.0 l.i-end;
  value : attribute_text l.at.doc.now.tree l.at.node.0 l.local ≡ value_from l.at.doc.now.tree l.at.node.0 l.local l.i;
}

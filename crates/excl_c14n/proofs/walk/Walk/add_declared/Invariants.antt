use Rattle.std.proofs.Common.{take}
use Rattle.xml_spec.specs.Numbering.{from_node}
use Rattle.saml_tree.specs.Elements.{attributes_in}
use Rattle.excl_c14n.specs.Pairs.{prefixes_in}
use Rattle.excl_c14n.proofs.Declaring.{AreFound, ArePlacedSoFar}
use Rattle.excl_c14n.proofs.Ordered.{HasCount}
use Rattle.excl_c14n.proofs.walk.Walk.add_declared.Given as goal

abbrev pub invariant-loop-i : goal.invariant-loop-i
invariant-loop-i l = record {
  counted : HasCount l.self.doc.now.tree l.n.0 l.i-end;
  found : AreFound l.self.listed (prefixes_in l.initial.found) (take l.i (attributes_in (from_node l.self.doc.now.tree l.n.0))) (prefixes_in l.found);
  placed : ArePlacedSoFar l.self.listed l.self.doc.now.tree (attributes_in (from_node l.self.doc.now.tree l.n.0)) l.initial.found l.found;
}

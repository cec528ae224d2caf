use Rattle.std.proofs.Common.{◌++◌, take}
use Rattle.xml_spec.specs.Numbering.{from_node}
use Rattle.xml_spec.specs.Canonical.{used_prefixes}
use Rattle.saml_tree.specs.Elements.{name_in, attributes_in}
use Rattle.excl_c14n.specs.Levels.{in_force}
use Rattle.excl_c14n.specs.Pairs.{prefixes_in, ArePlaced}
use Rattle.excl_c14n.specs.NodeByNode.{scope_inside, IsWanted}
use Rattle.excl_c14n.proofs.walk.Walk.wanted_at.Given as goal

abbrev pub invariant-loop-i : goal.invariant-loop-i
invariant-loop-i l = record {
  found :
      IsWanted (scope_inside l.self.doc.now.tree l.fn.n.0) (in_force l.rendered.levels)
      (used_prefixes (name_in (from_node l.self.doc.now.tree l.fn.n.0)) (attributes_in (from_node l.self.doc.now.tree l.fn.n.0)) ++ take l.i (prefixes_in l.declared))
      (prefixes_in l.wanted);
  placed : ArePlaced l.self.doc.now.tree (scope_inside l.self.doc.now.tree l.fn.n.0) l.wanted;
}

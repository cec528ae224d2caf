use Rattle.std.proofs.Common.{drop}
use Rattle.std.specs.List.{flat_map}
use Rattle.xml_spec.specs.Numbering.{from_node}
use Rattle.xml_spec.specs.Canonical.{written_attributes}
use Rattle.saml_tree.specs.NodeNames.{attribute_at}
use Rattle.saml_tree.specs.Elements.{attributes_in}
use Rattle.canon_octets.proofs.Underway.{IsUnderway}
use Rattle.excl_c14n.specs.NodeByNode.{scope_inside}
use Rattle.excl_c14n.proofs.Tags.{print_of, LeadTo}
use Rattle.excl_c14n.proofs.walk.Walk.put_attributes.Given as goal

abbrev pub invariant-loop-i : goal.invariant-loop-i
invariant-loop-i g l =
    let attributes = written_attributes (scope_inside l.self.doc.now.tree l.n.0) (attributes_in (from_node l.self.doc.now.tree l.n.0)) in
    record {
      lead : LeadTo (attribute_at l.self.doc.now.tree l.n.0) l.i-items attributes;
      written : IsUnderway g.O.Octets.appends l.initial.out l.out (flat_map print_of (drop l.i-index attributes)) (flat_map print_of attributes);
    }

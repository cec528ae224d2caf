use Rattle.std.proofs.Common.{arith}
use Rattle.std.specs.List.{flat_map}
use Rattle.xml_spec.specs.Numbering.{from_node}
use Rattle.xml_spec.specs.Canonical.{written_attributes}
use Rattle.saml_tree.specs.NodeNames.{attribute_at}
use Rattle.saml_tree.specs.Elements.{attributes_in}
use Rattle.canon_octets.proofs.Appending.{on_err, no_part}
use Rattle.canon_octets.proofs.Underway.{underway}
use Rattle.excl_c14n.specs.NodeByNode.{scope_inside}
use Rattle.excl_c14n.proofs.Tags.{print_of, is_found, one_more_put, one_put_partly, all_put, leads_to}
use Rattle.excl_c14n.proofs.walk.Walk.put_attributes.Goals as goal

pub returns-in_err-put_in_order-clause-err : goal.returns-in_err-put_in_order-clause-err
returns-in_err-put_in_order-clause-err g c = on_err c.from_residual.result (no_part g.met.O.Octets.composes c.args.out.now _)

pub loop-i-init : goal.loop-i-init
loop-i-init g c =
    let tree = c.args.self.now.doc.now.tree in
    let attributes = written_attributes (scope_inside tree c.args.n.0) (attributes_in (from_node tree c.args.n.0)) in
    record {
      lead = leads_to (attribute_at tree c.args.n.0) c.deref-i-items.result.now c.put_in_order.new.order.numbers.items attributes c.deref-i-items.ensures.value c.in_ok-put_in_order.ensures;
      written = underway g.met.O.Octets.composes c.args.out.now (flat_map print_of attributes);
    }

pub put_attribute-requires : goal.put_attribute-requires
put_attribute-requires g c =
    let tree = c.args.self.now.doc.now.tree in
    record {
      there =
          is_found (attribute_at tree c.args.n.0) c.deref-i-items.result.now
          (written_attributes (scope_inside tree c.args.n.0) (attributes_in (from_node tree c.args.n.0))) c.loop-i.invariant.lead c.loop-i.i-index (omega arith);
    }

pub loop-i-preserved : goal.loop-i-preserved
loop-i-preserved g c =
    let tree = c.args.self.now.doc.now.tree in
    record {
      lead = c.loop-i.invariant.lead;
      written =
          one_more_put (attribute_at tree c.args.n.0) c.deref-i-items.result.now
          (written_attributes (scope_inside tree c.args.n.0) (attributes_in (from_node tree c.args.n.0))) c.loop-i.invariant.lead
          g.met.O.Octets.composes c.args.out.now c.loop-i.out c.put_attribute.new.out c.loop-i.i-index (omega arith) c.loop-i.invariant.written
          c.in_ok-put_attribute.ensures.ok;
    }

pub returns-in_err-put_attribute-clause-err : goal.returns-in_err-put_attribute-clause-err
returns-in_err-put_attribute-clause-err g c =
    let tree = c.args.self.now.doc.now.tree in
    on_err c.from_residual-in_err-put_attribute.result
    (one_put_partly (attribute_at tree c.args.n.0) c.deref-i-items.result.now
    (written_attributes (scope_inside tree c.args.n.0) (attributes_in (from_node tree c.args.n.0))) c.loop-i.invariant.lead
    g.met.O.Octets.composes c.args.out.now c.loop-i.out c.put_attribute.new.out c.loop-i.i-index (omega arith) c.loop-i.invariant.written
    c.in_err-put_attribute.ensures.err)

pub returns-clause-ok : goal.returns-clause-ok
returns-clause-ok g c =
    let tree = c.args.self.now.doc.now.tree in
    all_put (attribute_at tree c.args.n.0) c.deref-i-items.result.now
    (written_attributes (scope_inside tree c.args.n.0) (attributes_in (from_node tree c.args.n.0))) c.loop-i.invariant.lead
    g.met.O.Octets.composes c.args.out.now c.loop-i.out c.loop-i.out c.loop-i.i-index (omega arith) c.loop-i.invariant.written

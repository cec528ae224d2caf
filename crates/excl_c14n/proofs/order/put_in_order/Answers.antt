use Rattle.std.proofs.Common.{◌-◌, ◌≤◌, length, sym, ap, ◌∙◌, subst, arith}
use Rattle.excl_c14n.specs.NodeByNode.{scope_inside}
use Rattle.excl_c14n.proofs.Ordered.{IsOrder, attribute_there, none_ordered, one_more_ordered, one_passed, all_ordered}
use Rattle.excl_c14n.proofs.Placing.{no_names, all_there, names_in_order, put_where_named, one_more_named}
use Rattle.excl_c14n.proofs.order.put_in_order.Goals as goal

pub loop-i-init : goal.loop-i-init
loop-i-init c =
    let scope = scope_inside c.args.doc.now.tree c.args.n.0 in
    let tree = c.args.doc.now.tree in
    record {
      counted = c.attr_count-i.ensures;
      ordered =
          subst (IsOrder scope tree c.args.n.0 c.attr_count-i.result c.attr_count-i.result) (sym c.clear.ensures.items)
          (none_ordered scope tree c.args.n.0 c.attr_count-i.result);
      named =
          no_names scope tree c.args.n.0 c.clear.new.self.items c.clear-2.new.self.items c.clear.ensures.items c.clear-2.ensures.items;
    }

pub loop-i-preserved-then-is_some : goal.loop-i-preserved-then-is_some
loop-i-preserved-then-is_some c =
    let i = c.loop-i.i - 1 in
    record {
      counted = c.loop-i.invariant.counted;
      ordered =
          one_passed (scope_inside c.args.doc.now.tree c.args.n.0) c.args.doc.now.tree c.args.n.0 c.attr_count-i.result i c.loop-i.i c.loop-i.order.numbers.items
          c.declared.result (omega arith) (omega arith)
          (attribute_there c.args.doc.now.tree c.args.n.0 c.attr_count-i.result i c.loop-i.invariant.counted (omega arith))
          c.declared.ensures (sym c.is_some.ensures ∙ c.if-is_some.true) c.loop-i.invariant.ordered;
      named = c.loop-i.invariant.named;
    }

pub place_of-place-requires-clause-places : goal.place_of-place-requires-clause-places
place_of-place-requires-clause-places c =
    all_there (scope_inside c.args.doc.now.tree c.args.n.0) c.args.doc.now.tree c.args.n.0 c.loop-i.order.numbers.items c.loop-i.order.names.items
    c.as_slice.result.now c.loop-i.invariant.named c.as_slice.ensures.value

pub place_of-place-requires-clause-order : goal.place_of-place-requires-clause-order
place_of-place-requires-clause-order c =
    names_in_order (scope_inside c.args.doc.now.tree c.args.n.0) c.args.doc.now.tree c.args.n.0 c.attr_count-i.result c.loop-i.i c.loop-i.order.numbers.items
    c.loop-i.order.names.items c.as_slice.result.now c.loop-i.invariant.named c.loop-i.invariant.ordered c.as_slice.ensures.value

pub insert-requires-in-loop-i : goal.insert-requires-in-loop-i
insert-requires-in-loop-i c =
    subst (λ l. c.place_of-place.result ≤ l) (ap length c.as_slice.ensures.value ∙ c.loop-i.invariant.named.long ∙ sym c.loop-i.order.numbers.ok.0)
    c.place_of-place.ensures.within

pub loop-i-preserved : goal.loop-i-preserved
loop-i-preserved c =
    let scope = scope_inside c.args.doc.now.tree c.args.n.0 in
    let tree = c.args.doc.now.tree in
    let i = c.loop-i.i - 1 in
    record {
      counted = c.loop-i.invariant.counted;
      ordered =
          one_more_ordered scope tree c.args.n.0 c.attr_count-i.result i c.loop-i.i c.loop-i.order.numbers.items c.insert-in-loop-i.new.self.items
          c.declared.result (omega arith) (omega arith)
          (attribute_there tree c.args.n.0 c.attr_count-i.result i c.loop-i.invariant.counted (omega arith))
          c.declared.ensures (sym c.is_some.ensures ∙ c.if-is_some.false) c.loop-i.invariant.ordered
          (put_where_named scope tree c.args.n.0 i c.place_of-place.result c.name_of_attribute-name.result c.loop-i.order.numbers.items
          c.insert-in-loop-i.new.self.items c.loop-i.order.names.items c.as_slice.result.now c.loop-i.invariant.named c.as_slice.ensures.value
          c.name_of_attribute-name.ensures.name c.place_of-place.ensures.within c.place_of-place.ensures.above c.place_of-place.ensures.place
          c.in_ok-insert-2.ensures.items);
      named =
          one_more_named scope tree c.args.n.0 i c.place_of-place.result c.name_of_attribute-name.result c.loop-i.order.numbers.items
          c.insert-in-loop-i.new.self.items c.loop-i.order.names.items c.insert.new.self.items c.as_slice.result.now c.loop-i.invariant.named
          c.as_slice.ensures.value c.place_of-place.ensures.within c.name_of_attribute-name.ensures.name c.name_of_attribute-name.ensures.place
          c.in_ok-insert-2.ensures.items c.in_ok-insert.ensures.items;
    }

pub returns : goal.returns
returns c =
    all_ordered (scope_inside c.args.doc.now.tree c.args.n.0) c.args.doc.now.tree c.args.n.0 c.attr_count-i.result c.loop-i.i c.loop-i.order.numbers.items
    c.loop-i.invariant.counted c.loop-i.invariant.ordered (omega arith)

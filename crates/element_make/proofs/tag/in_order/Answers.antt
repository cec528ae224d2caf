use Rattle.std.proofs.Common.{◌-◌, ap, sym, ◌∙◌, arith}
use Rattle.element_make.specs.Views.{lent_views, attribute_view}
use Rattle.element_make.specs.Writing.{by_name}
use Rattle.element_make.proofs.Lists.{none_shown}
use Rattle.element_make.proofs.Attributes.{one_more_in_order}
use Rattle.element_make.proofs.tag.in_order.Goals as goal

pub loop-i-init : goal.loop-i-init
loop-i-init c =
    ap lent_views c.new-order.ensures.items ∙ sym (ap by_name (none_shown attribute_view c.args.attributes.now _ (omega arith)))

pub loop-i-preserved : goal.loop-i-preserved
loop-i-preserved c =
    one_more_in_order c.args.attributes.now (c.loop-i.i - 1) c.loop-i.i c.index-attributes-i.result
    (record { name = c.index-attributes-i.result.name; value = c.as_str.result }) c.loop-i.order.items c.as_slice.result.now c.insert.new.self.items
    c.place_of-place.result (omega arith) (omega arith) c.index-attributes-i.is
    (ap (λ v. record { name = c.index-attributes-i.result.name.now; value = v }) c.as_str.ensures.value) c.loop-i.invariant c.as_slice.ensures.value
    c.place_of-place.ensures.within c.place_of-place.ensures.above c.place_of-place.ensures.place c.in_ok-insert.ensures.items

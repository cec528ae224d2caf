use Rattle.std.proofs.Common.{◌≡◌, drop}
use Rattle.element_make.specs.Views.{attribute_views, lent_views}
use Rattle.element_make.specs.Writing.{by_name}
use Rattle.element_make.proofs.tag.in_order.Given as goal

abbrev pub invariant-loop-i : goal.invariant-loop-i
invariant-loop-i l = lent_views l.order.items ≡ by_name (drop l.i (attribute_views l.attributes))

use Rattle.std.proofs.Common.{◌≡◌, drop}
use Rattle.element_make.specs.Made.{value_of}
use Rattle.element_make.specs.Views.{attribute_views}
use Rattle.element_make.proofs.element.Made.attr_value.Given as goal

abbrev pub invariant-loop-attribute : goal.invariant-loop-attribute
invariant-loop-attribute l =
    value_of l.local l.self.attributes ≡ value_of l.local (drop l.attribute-index (attribute_views l.attribute-items))

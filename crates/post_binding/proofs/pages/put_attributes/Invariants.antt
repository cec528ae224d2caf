use Rattle.std.proofs.Common.{◌≡◌, ◌++◌, take}
use Rattle.std.specs.List.{flat_map}
use Rattle.post_binding.specs.Pages.{attribute_items}
use Rattle.post_binding.proofs.pages.put_attributes.Given as goal

abbrev pub invariant-loop-attribute : goal.invariant-loop-attribute
invariant-loop-attribute l =
    l.page ≡ l.initial.page ++ flat_map attribute_items (take l.attribute-index l.attributes)

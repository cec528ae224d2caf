use Rattle.std.proofs.Common.{◌≡◌, ◌++◌, take}
use Rattle.std.specs.List.{flat_map}
use Rattle.post_binding.specs.Pages.{value_item}
use Rattle.post_binding.proofs.pages.put_attribute.Given as goal

abbrev pub invariant-loop-value : goal.invariant-loop-value
invariant-loop-value l =
    l.page ≡ l.initial.page ++ flat_map (value_item l.attribute.name) (take l.value-index l.attribute.values)

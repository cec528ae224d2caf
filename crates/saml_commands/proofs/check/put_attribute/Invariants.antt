-- There is a line for each value so far.
use Rattle.std.proofs.Common.{◌≡◌, ◌++◌, take}
use Rattle.std.specs.List.{flat_map}
use Rattle.saml_commands.specs.Check.{attribute_line}
use Rattle.saml_commands.proofs.check.put_attribute.Given as goal

abbrev pub invariant-loop-value : goal.invariant-loop-value
invariant-loop-value l = l.out ≡ l.initial.out ++ flat_map (attribute_line l.attribute.name) (take l.value-index l.attribute.values)

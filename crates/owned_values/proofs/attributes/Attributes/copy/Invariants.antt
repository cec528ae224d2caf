use Rattle.std.proofs.Common.{◌≡◌, take}
use Rattle.owned_values.proofs.attributes.Attributes.copy.Given as goal

-- the attributes before the index are copied
abbrev pub invariant-loop-attribute : goal.invariant-loop-attribute
invariant-loop-attribute l = l.items.items ≡ take l.attribute-index l.attribute-items

use Rattle.std.proofs.Common.{◌≡◌, take}
use Rattle.owned_values.proofs.owned.Texts.copy.Given as goal

-- the texts before the index are copied
abbrev pub invariant-loop-text : goal.invariant-loop-text
invariant-loop-text l = l.items.items ≡ take l.text-index l.text-items

use Rattle.std.proofs.Common.{◌≡◌, take}
use Rattle.element_names.specs.Named.{proper_keys}
use Rattle.element_names.proofs.names.put_expanded.Given as goal

abbrev pub invariant-loop-name : goal.invariant-loop-name
invariant-loop-name l = l.keys.items ≡ proper_keys (take l.name-index l.names)

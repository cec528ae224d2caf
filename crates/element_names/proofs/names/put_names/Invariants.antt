use Rattle.std.proofs.Common.{◌≡◌, map, take}
use Rattle.element_names.specs.Keys.{key_view}
use Rattle.element_names.specs.Named.{name_key}
use Rattle.element_names.proofs.names.put_names.Given as goal

abbrev pub invariant-loop-attribute : goal.invariant-loop-attribute
invariant-loop-attribute l = map key_view l.keys.items ≡ map name_key (take l.attribute-index l.attributes)

use Rattle.std.proofs.Common.{◌≡◌, ◌++◌, map, take}
use Rattle.element_names.specs.declared.names.Expanded.{Expanded}
use Rattle.element_names.proofs.names.put_numbers.Given as goal

abbrev pub invariant-loop-name : goal.invariant-loop-name
invariant-loop-name l = l.numbers.items ≡ l.initial.numbers.items ++ map (λ (e : Expanded). e.namespace) (take l.name-index l.names)

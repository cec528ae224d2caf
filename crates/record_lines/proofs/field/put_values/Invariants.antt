-- There is a piece for each value so far.
use Rattle.std.proofs.Common.{◌≡◌, ◌++◌, ◌∷◌, take}
use Rattle.std.specs.List.{flat_map}
use Rattle.record_lines.specs.Lines.{text_piece}
use Rattle.record_lines.proofs.field.put_values.Given as goal

abbrev pub invariant-loop-value : goal.invariant-loop-value
invariant-loop-value l = l.line ≡ l.initial.line ++ flat_map (λ text. 32 ∷ text_piece l.name text) (take l.value-index l.values)

-- The values of the attributes so far are put.
use Rattle.std.proofs.Common.{◌≡◌, ◌++◌, take}
use Rattle.std.specs.List.{flat_map}
use Rattle.record_lines.specs.Lines.{attribute_name, value_pieces, spaced}
use Rattle.record_lines.proofs.field.put_attributes.Given as goal

abbrev pub invariant-loop-attribute : goal.invariant-loop-attribute
invariant-loop-attribute l = l.line ≡ l.initial.line ++ flat_map (λ a. spaced (value_pieces (attribute_name a) a.values)) (take l.attribute-index l.attributes)

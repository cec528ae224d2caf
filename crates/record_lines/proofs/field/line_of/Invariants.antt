-- The fields so far are put.
use Rattle.std.proofs.Common.{◌≡◌, ◌++◌, take}
use Rattle.std.specs.List.{flat_map}
use Rattle.record_lines.specs.Lines.{shown}
use Rattle.record_lines.specs.Views.{field_view}
use Rattle.record_lines.proofs.field.line_of.Given as goal

abbrev pub invariant-loop-field : goal.invariant-loop-field
invariant-loop-field l = l.line ≡ l.initial.line ++ flat_map (λ f. shown (field_view f)) (take l.field-index l.fields)

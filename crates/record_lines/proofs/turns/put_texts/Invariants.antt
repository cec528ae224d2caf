-- There is a piece for each text so far.
use Rattle.std.proofs.Common.{◌≡◌, ◌++◌, ◌∷◌, take}
use Rattle.std.specs.List.{flat_map}
use Rattle.record_lines.specs.Lines.{text_piece}
use Rattle.record_lines.proofs.turns.put_texts.Given as goal

abbrev pub invariant-loop-text : goal.invariant-loop-text
invariant-loop-text l = l.line ≡ l.initial.line ++ flat_map (λ text. 32 ∷ text_piece l.name text) (take l.text-index l.texts)

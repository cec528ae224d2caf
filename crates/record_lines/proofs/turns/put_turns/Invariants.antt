-- The turns so far are put.
use Rattle.std.proofs.Common.{◌≡◌, ◌++◌, take}
use Rattle.std.specs.List.{flat_map}
use Rattle.record_lines.specs.Lines.{turn_pieces, spaced}
use Rattle.record_lines.proofs.turns.put_turns.Given as goal

abbrev pub invariant-loop-turn : goal.invariant-loop-turn
invariant-loop-turn l = l.line ≡ l.initial.line ++ flat_map (λ t. spaced (turn_pieces t)) (take l.turn-index l.turns)

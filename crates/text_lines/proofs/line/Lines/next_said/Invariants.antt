use Rattle.std.proofs.Common.{◌≡◌, ◌+◌, ◌<◌, ◌^◌, length}
use Rattle.text_lines.specs.Lines.{said_from, lines}
use Rattle.text_lines.proofs.line.Lines.next_said.Given as goal

-- the lines that were left behind say nothing
abbrev pub invariant-loop-self : goal.invariant-loop-self
invariant-loop-self l =
    (said_from l.initial.self-inside.number (lines l.initial.self-inside.rest.now) ≡ said_from l.self-inside.number (lines l.self-inside.rest.now))
    × (l.self-inside.number + length l.self-inside.rest.now < 2 ^ 64)

abbrev pub decreases-loop-self : goal.decreases-loop-self
decreases-loop-self l = length l.self-inside.rest.now

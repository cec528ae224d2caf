use Rattle.std.proofs.Common.{◌≡◌, length}
use Rattle.text_lines.specs.Lines.{with_lines}
use Rattle.schedules.specs.Schedules.{schedule, with_text}
use Rattle.text_lines.proofs.Numbering.{AreSmall}
use Rattle.schedules.proofs.read.read_schedule.Given as goal

-- what is read and what is still to be said make the schedule
abbrev pub invariant-loop-said : goal.invariant-loop-said
invariant-loop-said l = record {
  steps : with_lines with_text l.draft l.lines ≡ schedule l.text;
  small : AreSmall l.lines;
}

abbrev pub decreases-loop-said : goal.decreases-loop-said
decreases-loop-said l = length l.lines

use Rattle.std.proofs.Common.{subst, sym, arith}
use Rattle.text_lines.specs.Lines.{with_lines}
use Rattle.schedules.specs.Schedules.{with_text}
use Rattle.text_lines.proofs.Numbering.{AreSmall, small_numbers}
use Rattle.schedules.proofs.read.read_schedule.Goals as goal

pub loop-said-init : goal.loop-said-init
loop-said-init c = record {
  steps = λ i. with_lines with_text (c.new-draft.ensures i) (c.new-lines.ensures i);
  small = subst AreSmall (sym c.new-lines.ensures) (small_numbers c.args.text.now (omega (arith, c.requires)));
}

use Rattle.std.proofs.Common.{[], subst, sym, ◌∙◌, arith}
use Rattle.text_lines.specs.Lines.{said}
use Rattle.text_lines.proofs.OneByOne.{one_by_one, all_said}
use Rattle.access_policy.specs.Rules.{with_rule}
use Rattle.text_lines.proofs.Numbering.{AreSmall, small_numbers}
use Rattle.access_policy.proofs.read.read_policy.Goals as goal

pub loop-said-init : goal.loop-said-init
loop-said-init c = record {
  rules = (λ i. one_by_one with_rule (c.new-draft.ensures i) (c.new-lines.ensures i)) ∙ all_said with_rule [] (said c.args.text.now);
  small = subst AreSmall (sym c.new-lines.ensures) (small_numbers c.args.text.now (omega (arith, c.requires)));
}

use Rattle.std.proofs.Common.{[], subst, sym, ◌∙◌, arith}
use Rattle.text_lines.specs.Lines.{said}
use Rattle.text_lines.proofs.OneByOne.{one_by_one, all_said}
use Rattle.user_store.specs.Store.{with_text}
use Rattle.text_lines.proofs.Numbering.{AreSmall, small_numbers}
use Rattle.user_store.proofs.read.read_users.Goals as goal

pub loop-said-init : goal.loop-said-init
loop-said-init c = record {
  said = (λ i. one_by_one with_text (c.new-users.ensures i) (c.new-lines.ensures i)) ∙ all_said with_text [] (said c.args.text.now);
  small = subst AreSmall (sym c.new-lines.ensures) (small_numbers c.args.text.now (omega (arith, c.requires)));
}

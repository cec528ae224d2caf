use Rattle.std.proofs.Common.{sym, ◌∙◌, arith}
use Rattle.text_lines.proofs.Saying.{passed_over, says_it}
use Rattle.text_lines.proofs.line.Lines.next_said.Goals as goal

pub overflow_add-self : goal.overflow_add-self
overflow_add-self c = omega (arith, c.loop-self.invariant.1, c.first_line.ensures.shorter)

pub invariant_of-self-then-not-is_passed_over : goal.invariant_of-self-then-not-is_passed_over
invariant_of-self-then-not-is_passed_over c = omega (arith, c.loop-self.invariant.1, c.first_line.ensures.shorter)

pub returns-then-not-is_passed_over : goal.returns-then-not-is_passed_over
returns-then-not-is_passed_over c =
    sym c.self.view_is ∙ c.loop-self.invariant.0
    ∙ says_it c.loop-self.self-inside.number c.loop-self.self-inside.rest.now c.first_line.result.0.now c.first_line.result.1.now c.in-Some.text.now c.first_line.ensures.lines c.in-Some.ensures.some.0 c.in-Some.ensures.some.1 (sym c.is_passed_over.ensures ∙ c.if-not-is_passed_over.true)

pub loop-self-preserved : goal.loop-self-preserved
loop-self-preserved c = (
  c.loop-self.invariant.0
      ∙ passed_over c.loop-self.self-inside.number c.loop-self.self-inside.rest.now c.first_line.result.0.now c.first_line.result.1.now c.in-Some.text.now c.first_line.ensures.lines c.in-Some.ensures.some.0 c.in-Some.ensures.some.1 (sym c.is_passed_over.ensures ∙ c.if-not-is_passed_over.false),
  omega (arith, c.loop-self.invariant.1, c.first_line.ensures.shorter),
)

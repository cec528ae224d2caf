use Rattle.std.proofs.Common.{◌∷◌, ap, sym, ◌∙◌, take, arith}
use Rattle.text_lines.specs.Lines.{lines}
use Rattle.text_lines.proofs.Lining.{cut_line, last_line, nothing_left, slice_behind}
use Rattle.text_lines.proofs.line.first_line.Goals as goal

pub returns-then-byte-eq10-clause-lines : goal.returns-then-byte-eq10-clause-lines
returns-then-byte-eq10-clause-lines c =
    cut_line c.args.rest.now c.loop-i.i c.loop-i-test.true c.loop-i.invariant c.if-byte-eq10.true
    ∙ slice_behind (λ xs. take c.loop-i.i c.args.rest.now ∷ lines xs) c.args.rest.now c.loop-i.i c.loop-i-test.true

pub returns-clause-lines : goal.returns-clause-lines
returns-clause-lines c =
    last_line c.args.rest.now c.requires (λ k h. c.loop-i.invariant k (omega arith))
    ∙ ap (λ xs. c.args.rest.now ∷ xs) (sym (nothing_left c.args.rest.now))

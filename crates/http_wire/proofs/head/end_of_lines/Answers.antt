use Rattle.std.proofs.Common.{nat_eq, sym, ap, ◌∙◌, arith}
use Rattle.std.specs.List.{starts_with}
use Rattle.http_wire.specs.Heads.{empty_line}
use Rattle.http_wire.proofs.Ending.{first_end, no_end, searched_before, all_behind}
use Rattle.http_wire.proofs.head.end_of_lines.Goals as goal

pub loop-i-init : goal.loop-i-init
loop-i-init c = λ k before. searched_before c.args.bytes.now c.args.searched k c.requires (omega arith)

pub returns-then-starts_with : goal.returns-then-starts_with
returns-then-starts_with c =
    sym (first_end c.args.bytes.now c.loop-i.i (omega arith) c.loop-i.invariant
    (ap (λ xs. starts_with nat_eq xs empty_line) (sym (all_behind c.args.bytes.now c.loop-i.i (omega arith)))
    ∙ sym c.starts_with.ensures.value ∙ c.if-starts_with.true))

pub returns : goal.returns
returns c = sym (no_end c.args.bytes.now (λ k within. c.loop-i.invariant k (omega arith)))

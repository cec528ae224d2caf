use Rattle.std.proofs.Common.{refl, rules}
use Rattle.xml_tokens.proofs.Translating.{end_of_line, line_stripped, other_line, other_end, last_line, last_stripped, split_by_return}
use Rattle.xml_tokens.proofs.lines.strip_line_ends.Goals as goal

pub returns-in_err-ended : goal.returns-in_err-ended
returns-in_err-ended c =
    let next = split_by_return c.in-Some.behind.now in
    rw c.from_residual.ensures
    (other_line c.args.text.now c.lines.rest.now c.in-Some.line.now c.in-Some.behind.now next.0 c.args.left.now c.lines.more.now c.in-Some.ensures next.1
    c.lines.invariant.stripped c.in_err-ended.ensures)

pub returns-in_err-next : goal.returns-in_err-next
returns-in_err-next c =
    let next = split_by_return c.in-Some.behind.now in
    rw c.from_residual-in_err-next.ensures
    (other_end c.args.text.now c.lines.rest.now c.in-Some.line.now c.in-Some.behind.now next.0 c.args.left.now c.lines.more.now
    c.in_ok-ended.ended.now c.in-Some.ensures next.1 c.lines.invariant.stripped c.in_ok-ended.ensures c.in_err-next.ensures)

pub lines-preserved : goal.lines-preserved
lines-preserved c =
    let behind = c.in-Some.behind.now in
    let ends = end_of_line behind c.in-Some.behind c.unwrap_or-rest.result c.strip_byte-in-Some.result refl c.strip_byte-in-Some.ensures c.unwrap_or-rest.ensures in
    record {
      utf8 = c.unwrap_or-rest.utf8;
      more_utf8 = search rules;
      stripped =
          line_stripped c.args.text.now c.lines.rest.now c.in-Some.line.now behind c.unwrap_or-rest.result.now c.args.left.now c.lines.more.now
          c.in_ok-ended.ended.now c.in_ok-next.next.now c.in-Some.ensures ends c.lines.invariant.stripped c.in_ok-ended.ensures c.in_ok-next.ensures;
    }

pub returns : goal.returns
returns c =
    last_stripped c.args.text.now c.lines.rest.now c.args.left.now c.lines.more.now c.strip_word-2.result c.lines.invariant.stripped
    (last_line c.lines.rest.now c.in_default.ensures) c.strip_word-2.ensures

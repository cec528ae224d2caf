use Rattle.xml_tokens.proofs.MarkReadings.{unended_no_comment, dashes_no_comment, comment_from}
use Rattle.xml_tokens.proofs.lex.comment.Goals as goal

pub returns-in_err-text : goal.returns-in_err-text
returns-in_err-text c = rw c.from_residual.ensures (unended_no_comment c.args.rest.now c.in_err-text.ensures)

pub returns-in_err-behind : goal.returns-in_err-behind
returns-in_err-behind c =
    rw c.from_residual-in_err-behind.ensures (dashes_no_comment c.args.rest.now c.in_ok-text.text.now c.in_ok-text.close.now c.in_ok-text.ensures
    c.in_err-behind.ensures)

pub returns : goal.returns
returns c = comment_from c.args.rest.now c.in_ok-text.text.now c.in_ok-text.close.now c.in_ok-behind.behind.now c.in_ok-text.ensures c.in_ok-behind.ensures

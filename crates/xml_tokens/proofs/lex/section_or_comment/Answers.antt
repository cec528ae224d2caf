use Rattle.std.proofs.Common.{refl}
use Rattle.xml_spec.specs.Syntax.{Section, CommentItem, Alone}
use Rattle.xml_tokens.proofs.MarkReadings.{no_section_token, no_comment_token, neither_token, section_begins, comment_begins}
use Rattle.xml_tokens.proofs.lex.section_or_comment.Goals as goal

pub returns-in_err-text : goal.returns-in_err-text
returns-in_err-text c =
    rw c.from_residual.ensures (no_section_token c.args.rest.now c.in-Some.inner.now c.in-Some.ensures c.in_err-text.ensures)

pub returns-in-Some : goal.returns-in-Some
returns-in-Some c = (
  Alone (Section c.in_ok-text.text.now),
  λ attributes. refl,
  section_begins c.args.rest.now c.in-Some.inner.now c.in_ok-text.text.now c.in_ok-text.behind.now c.in-Some.ensures c.in_ok-text.ensures,
)

pub returns-in_err-inner : goal.returns-in_err-inner
returns-in_err-inner c =
    rw c.from_residual-in_err-inner.ensures (neither_token c.args.rest.now c.in_default.ensures c.in_err-inner.ensures)

pub returns-in_err-text-2 : goal.returns-in_err-text-2
returns-in_err-text-2 c =
    rw c.from_residual-in_err-text-2.ensures (no_comment_token c.args.rest.now c.in_ok-inner.inner.now c.in_ok-inner.ensures c.in_err-text-2.ensures)

pub returns : goal.returns
returns c = (
  Alone (CommentItem c.in_ok-text-2.text.now),
  λ attributes. refl,
  comment_begins c.args.rest.now c.in_ok-inner.inner.now c.in_ok-text-2.text.now c.in_ok-text-2.behind.now c.in_ok-inner.ensures c.in_ok-text-2.ensures,
)

use Rattle.std.proofs.Common.{rules, ◌∙◌}
use Rattle.std.proofs.lemmas.Result.{err_from_is_err_and}
use Rattle.saml_tree.specs.Views.{outline_view}
use Rattle.saml_tree.proofs.ReadingOn.{read_all, none_behind, not_taken_on, end_of}
use Rattle.saml_tree.proofs.beyond.outline_behind.Goals as goal

pub take_next-requires-clause-tail : goal.take_next-requires-clause-tail
take_next-requires-clause-tail c =
    let read = c.tokens.invariant.read in
    end_of c.tokens.outline.names.text c.args.rest.now c.tokens.left.now c.requires.tail.0 read.0 (c.tokens.invariant.text ∙ c.requires.tail.1) read.1

pub returns-in_err-behind-clause-err : goal.returns-in_err-behind-clause-err
returns-in_err-behind-clause-err c =
    let o = outline_view c.args.begun in
    let p = err_from_is_err_and c.from_residual-in_err-behind.result c.from_residual-in_err-behind.ensures.1 in
    rw (p.1, p.2) (not_taken_on o c.args.rest.now _ _ c.in_err-behind.ensures.err
    (none_behind o c.args.rest.now c.tokens.left.now (outline_view c.tokens.outline) c.tokens.invariant.read))

pub open_all-requires-in-tokens : goal.open_all-requires-in-tokens
open_all-requires-in-tokens c =
    let o = outline_view c.args.begun in
    let read = read_all o c.args.rest.now c.tokens.left.now c.in_ok-behind.behind.now (outline_view c.tokens.outline)
    (outline_view c.take_next.new.outline) c.tokens.invariant.read c.in_ok-behind.ensures.ok in
    record {
      tail = end_of c.take_next.new.outline.names.text c.args.rest.now c.in_ok-behind.behind.now c.requires.tail.0 read.0
          (c.take_next.ensures.text ∙ c.tokens.invariant.text ∙ c.requires.tail.1) read.1;
    }

pub returns-in_err-left-2-clause-err : goal.returns-in_err-left-2-clause-err
returns-in_err-left-2-clause-err c =
    let o = outline_view c.args.begun in
    let read = read_all o c.args.rest.now c.tokens.left.now c.in_ok-behind.behind.now (outline_view c.tokens.outline)
    (outline_view c.take_next.new.outline) c.tokens.invariant.read c.in_ok-behind.ensures.ok in
    let p = err_from_is_err_and c.from_residual-in_err-left-2.result c.from_residual-in_err-left-2.ensures.1 in
    rw (p.1, p.2) (not_taken_on o c.args.rest.now _ _ c.in_err-left-2.ensures.err
    (none_behind o c.args.rest.now c.in_ok-behind.behind.now (outline_view c.take_next.new.outline) read))

pub tokens-preserved : goal.tokens-preserved
tokens-preserved c =
    let o = outline_view c.args.begun in
    let read = read_all o c.args.rest.now c.tokens.left.now c.in_ok-behind.behind.now (outline_view c.tokens.outline)
    (outline_view c.take_next.new.outline) c.tokens.invariant.read c.in_ok-behind.ensures.ok in
    record {
      utf8 = search rules;
      text = c.open_all-in-tokens.ensures.text ∙ c.take_next.ensures.text ∙ c.tokens.invariant.text;
      read = read_all o c.args.rest.now c.in_ok-behind.behind.now c.in_ok-left-2.left.now (outline_view c.take_next.new.outline)
          (outline_view c.open_all-in-tokens.new.outline) read c.in_ok-left-2.ensures.ok;
    }

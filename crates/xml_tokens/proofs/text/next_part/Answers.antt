use Rattle.xml_tokens.proofs.TextReadings.{next_by_reference, next_by_section, closed, next_by_run, some_of}
use Rattle.xml_tokens.proofs.text.next_part.Goals as goal

pub returns-in-Some : goal.returns-in-Some
returns-in-Some c =
    next_by_reference c.args.rest.now c.in-Some.character c.in-Some.behind.now c.requires (some_of c.args.rest.now c.is_empty.result c.is_empty.ensures c.if-is_empty.false)
    c.in-Some.ensures

pub returns-in_err-section : goal.returns-in_err-section
returns-in_err-section c =
    absurd (closed c.args.rest.now c.in-Some-strip_word.inner.now c.requires c.in-Some-strip_word.ensures c.in_err-section.ensures)

pub returns-in-Some-strip_word : goal.returns-in-Some-strip_word
returns-in-Some-strip_word c =
    next_by_section c.args.rest.now c.in-Some-strip_word.inner.now c.in_ok-section.section.now c.in_ok-section.behind.now c.requires
    c.in-Some-strip_word.ensures c.in_ok-section.ensures

pub returns : goal.returns
returns c =
    next_by_run c.args.rest.now c.split_run.result.0.now c.split_run.result.1.now c.requires
    (some_of c.args.rest.now c.is_empty.result c.is_empty.ensures c.if-is_empty.false) c.split_run.ensures.split c.split_run.ensures.passes
    c.split_run.ensures.stops c.in_default.ensures c.in_default-strip_word.ensures

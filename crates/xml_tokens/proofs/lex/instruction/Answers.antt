use Rattle.std.proofs.Common.{◌≡◌, ◌<◌, true, false, length, sym, ◌∙◌, arith}
use Rattle.xml_tokens.proofs.AttributeReadings.{is_short, is_long}
use Rattle.xml_tokens.proofs.MarkReadings.{IsTarget, unnamed_no_processing, other_no_processing, unended_no_processing, joined_no_processing, processing_from}
use Rattle.xml_tokens.proofs.lex.instruction.Goals as goal
use Rattle.xml_tokens.proofs.lex.instruction.Goals.{else-is_empty-via-then-is_empty+else-not-is_empty, else-is_empty-via-else-is_empty}

pub returns-in_err-target : goal.returns-in_err-target
returns-in_err-target c = rw c.from_residual.ensures (unnamed_no_processing c.args.rest.now c.in_err-target.ensures)

pub returns-then-not-is_target : goal.returns-then-not-is_target
returns-then-not-is_target c =
    other_no_processing c.args.rest.now c.in_ok-target.target.now c.in_ok-target.given.now c.in_ok-target.ensures
    (λ (is : IsTarget c.in_ok-target.target.now). let clash : false ≡ true = sym c.if-not-is_target.true ∙ c.is_target.ensures.1 is in cc)

pub returns-in_err-value : goal.returns-in_err-value
returns-in_err-value c =
    rw c.from_residual-in_err-value.ensures (unended_no_processing c.args.rest.now c.in_ok-target.target.now c.in_ok-target.given.now
    c.split_run.result.0.now c.split_run.result.1.now c.in_ok-target.ensures c.split_run.ensures.split c.split_run.ensures.passes
    c.split_run.ensures.stops c.in_err-value.ensures)

pub returns-then-not-is_empty : goal.returns-then-not-is_empty
returns-then-not-is_empty c =
    joined_no_processing c.args.rest.now c.in_ok-target.target.now c.in_ok-target.given.now c.split_run.result.0.now c.split_run.result.1.now
    c.in_ok-value.value.now c.in_ok-value.behind.now c.in_ok-target.ensures c.split_run.ensures.split c.split_run.ensures.passes c.split_run.ensures.stops
    c.in_ok-value.ensures (is_short c.split_run.result.0.now c.is_empty.result c.is_empty.ensures c.if-is_empty.true)
    (is_long c.in_ok-value.value.now c.is_empty-then-is_empty.result c.is_empty-then-is_empty.ensures c.if-not-is_empty.true)

pub returns : goal.returns
returns c =
    let space = c.split_run.result.0.now in
    let value = c.in_ok-value.value.now in
    let apart : 0 < length value → 0 < length space = elim c.else-is_empty.branch [
      | else-is_empty-via-then-is_empty+else-not-is_empty w ↦ (λ (h : 0 < length value).
          absurd (let short = is_short value w.is_empty-then-is_empty.result w.is_empty-then-is_empty.ensures w.if-not-is_empty.false in omega arith))
      | else-is_empty-via-else-is_empty w ↦ (λ (h : 0 < length value). is_long space c.is_empty.result c.is_empty.ensures w.if-is_empty.false)
    ] in
    processing_from c.args.rest.now c.in_ok-target.target.now c.in_ok-target.given.now space c.split_run.result.1.now value
    c.in_ok-value.behind.now c.in_ok-target.ensures (c.is_target.ensures.0 c.if-not-is_target.false) c.split_run.ensures.split
    c.split_run.ensures.passes c.split_run.ensures.stops c.in_ok-value.ensures apart

use Rattle.xml_tokens.proofs.TokenReadings.{unnamed_no_end, unclosed_no_end}
use Rattle.xml_tokens.proofs.tags.end_tag.Goals as goal

pub returns-in_err-name : goal.returns-in_err-name
returns-in_err-name c = rw c.from_residual.ensures (unnamed_no_end c.args.rest.now c.in_err-name.ensures)

pub returns-in_err-behind : goal.returns-in_err-behind
returns-in_err-behind c =
    rw c.from_residual-in_err-behind.ensures (unclosed_no_end c.args.rest.now c.in_ok-name.name.now c.in_ok-name.space.now
    c.split_run.result.0.now c.split_run.result.1.now c.in_ok-name.ensures c.split_run.ensures.split c.split_run.ensures.passes
    c.split_run.ensures.stops c.in_err-behind.ensures)

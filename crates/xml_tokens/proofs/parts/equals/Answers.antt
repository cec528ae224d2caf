use Rattle.xml_tokens.proofs.AttributeReadings.{no_equals}
use Rattle.xml_tokens.proofs.parts.equals.Goals as goal

pub returns-in_err-behind : goal.returns-in_err-behind
returns-in_err-behind c =
    rw c.from_residual.ensures (no_equals c.args.rest.now c.split_run.result.0.now c.split_run.result.1.now
    c.split_run.ensures.split c.split_run.ensures.passes c.split_run.ensures.stops c.in_err-behind.ensures)

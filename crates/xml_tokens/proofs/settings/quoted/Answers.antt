use Rattle.xml_tokens.proofs.HeadReadings.{no_quoted}
use Rattle.xml_tokens.proofs.settings.quoted.Goals as goal

pub returns-in_err-behind : goal.returns-in_err-behind
returns-in_err-behind c =
    rw c.from_residual-in_err-behind.ensures (no_quoted c.in_ok-quote.quote c.in_ok-quote.inner.now c.split_run.result.0.now c.split_run.result.1.now
    c.args.rest.now c.in_ok-quote.ensures.1 c.split_run.ensures.split c.split_run.ensures.passes c.split_run.ensures.stops c.in_err-behind.ensures)

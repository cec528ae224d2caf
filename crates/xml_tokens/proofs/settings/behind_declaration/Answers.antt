use Rattle.xml_tokens.proofs.HeadReadings.{unversioned_undeclared, unencoded_undeclared, unalone_undeclared, declared_read}
use Rattle.xml_tokens.proofs.settings.behind_declaration.Goals as goal

pub returns-in_err-encoded : goal.returns-in_err-encoded
returns-in_err-encoded c = rw c.from_residual.ensures (unversioned_undeclared c.args.rest.now c.in_err-encoded.ensures)

pub returns-in_err-alone : goal.returns-in_err-alone
returns-in_err-alone c =
    rw c.from_residual-in_err-alone.ensures (unencoded_undeclared c.args.rest.now c.in_ok-encoded.encoded.now c.in_ok-encoded.ensures c.in_err-alone.ensures)

pub returns-in_err-space : goal.returns-in_err-space
returns-in_err-space c =
    rw c.from_residual-in_err-space.ensures (unalone_undeclared c.args.rest.now c.in_ok-encoded.encoded.now c.in_ok-alone.alone.now c.in_ok-encoded.ensures
    c.in_ok-alone.ensures c.in_err-space.ensures)

pub returns : goal.returns
returns c =
    declared_read c.args.rest.now c.in_ok-encoded.encoded.now c.in_ok-alone.alone.now c.in_ok-space.space.now c.split_run.result.0.now
    c.split_run.result.1.now c.strip_word.result c.in_ok-encoded.ensures c.in_ok-alone.ensures c.in_ok-space.ensures c.split_run.ensures.split
    c.split_run.ensures.passes c.split_run.ensures.stops c.strip_word.ensures

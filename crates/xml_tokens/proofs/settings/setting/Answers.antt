use Rattle.xml_tokens.proofs.AttributeReadings.{is_short, is_long}
use Rattle.xml_tokens.proofs.HeadReadings.{unspaced_no_setting, unnamed_no_setting, unequal_no_setting, setting_read}
use Rattle.xml_tokens.proofs.settings.setting.Goals as goal

pub returns-then-is_empty : goal.returns-then-is_empty
returns-then-is_empty c =
    unspaced_no_setting c.args.name.now c.args.rest.now c.split_run.result.0.now c.split_run.result.1.now c.requires.word c.split_run.ensures.split
    c.split_run.ensures.passes c.split_run.ensures.stops
    (is_short c.split_run.result.0.now c.is_empty.result c.is_empty.ensures c.if-is_empty.true)

pub returns-in_err-sign : goal.returns-in_err-sign
returns-in_err-sign c =
    rw c.from_residual.ensures (unnamed_no_setting c.args.name.now c.args.rest.now c.split_run.result.0.now c.split_run.result.1.now c.requires.word
    c.split_run.ensures.split c.split_run.ensures.passes c.split_run.ensures.stops c.in_err-sign.ensures)

pub returns-in_err-quote : goal.returns-in_err-quote
returns-in_err-quote c =
    rw c.from_residual-in_err-quote.ensures (unequal_no_setting c.args.name.now c.args.rest.now c.split_run.result.0.now c.split_run.result.1.now
    c.in_ok-sign.sign.now c.requires.word c.split_run.ensures.split c.split_run.ensures.passes c.split_run.ensures.stops c.in_ok-sign.ensures
    c.in_err-quote.ensures)

pub returns : goal.returns
returns c =
    setting_read c.args.name.now c.args.rest.now c.split_run.result.0.now c.split_run.result.1.now c.in_ok-sign.sign.now c.in_ok-quote.quote.now
    c.quoted.result c.requires.word c.split_run.ensures.split c.split_run.ensures.passes c.split_run.ensures.stops
    (is_long c.split_run.result.0.now c.is_empty.result c.is_empty.ensures c.if-is_empty.false) c.in_ok-sign.ensures c.in_ok-quote.ensures
    c.quoted.ensures

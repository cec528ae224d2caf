use Rattle.std.proofs.Common.{◌∙◌}
use Rattle.owned_values.proofs.Utf8.{text_in_utf8, not_in_utf8}
use Rattle.owned_values.proofs.owned.Text.of_utf8.Goals as goal

pub returns-in_ok-of-in-Ok : goal.returns-in_ok-of-in-Ok
returns-in_ok-of-in-Ok c = text_in_utf8 c.args.bytes.now c.in_ok-of-in-Ok.field-0 (c.in_ok-of-in-Ok.ensures ∙ c.in-Ok.ensures.cases.0) c.in-Ok.ensures.cases.1

pub returns-in-Err : goal.returns-in-Err
returns-in-Err c = not_in_utf8 c.args.bytes.now c.in-Err.ensures.cases.0

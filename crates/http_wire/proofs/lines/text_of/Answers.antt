use Rattle.http_wire.proofs.Naming.{is_text, is_no_text}
use Rattle.http_wire.proofs.lines.text_of.Goals as goal

pub returns-in-Ok : goal.returns-in-Ok
returns-in-Ok c = is_text c.args.value.now c.in-Ok.text.now c.in-Ok.ensures.cases.0 c.in-Ok.ensures.cases.1

pub returns-in-Err : goal.returns-in-Err
returns-in-Err c = is_no_text c.args.value.now c.in-Err.ensures.cases.0

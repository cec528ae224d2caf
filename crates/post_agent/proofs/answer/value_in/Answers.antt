use Rattle.post_agent.proofs.Lines.{is_value, is_no_value}
use Rattle.post_agent.proofs.answer.value_in.Goals as goal

pub returns-in-Ok : goal.returns-in-Ok
returns-in-Ok c =
    is_value c.args.line.now c.args.end.now c.in-Ok.value.now c.if-not-ends_with.ensures.value c.if-not-is_one_line.ensures
    c.in-Ok.ensures.cases.0 c.in-Ok.ensures.cases.1

pub returns-in-Err : goal.returns-in-Err
returns-in-Err c = is_no_value c.args.line.now c.args.end.now c.if-not-ends_with.ensures.value c.in-Err.ensures.cases.0

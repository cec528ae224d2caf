use Rattle.assertion_model.proofs.LookLemmas.{only_is, not_only}
use Rattle.assertion_model.proofs.look.only_child.Goals as goal

pub returns-in-Ok : goal.returns-in-Ok
returns-in-Ok c = only_is c.args.at c.in-Ok.child c.args.local.now c.in-Ok.ensures.found.0 c.in-Ok.ensures.found.1

pub returns-in-Err : goal.returns-in-Err
returns-in-Err c = not_only c.args.at c.args.local.now c.in-Err.field-0 c.in-Err.ensures.refused

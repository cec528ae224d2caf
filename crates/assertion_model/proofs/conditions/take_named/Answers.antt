use Rattle.assertion_model.proofs.EachLemmas.{took, not_took}
use Rattle.assertion_model.proofs.conditions.take_named.Goals as goal

pub returns-in-Ok : goal.returns-in-Ok
returns-in-Ok c = took c.args.left.now.left c.take.new.self.left _ _ c.args.local.now c.saml.ensures c.in-Ok.ensures.taken

pub returns-in-Err : goal.returns-in-Err
returns-in-Err c = (c.in-Err.ensures.unchanged, not_took c.args.left.now.left _ c.args.local.now c.saml.ensures c.in-Err.ensures.other)

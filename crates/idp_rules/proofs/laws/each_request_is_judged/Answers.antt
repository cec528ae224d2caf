use Rattle.idp_rules.proofs.Settled.{request_settled}
use Rattle.idp_rules.proofs.laws.each_request_is_judged.Goals as goal

pub returns : goal.returns
returns c peers address body unasked unrefused = request_settled peers address body (record { unasked = unasked; unrefused = unrefused })

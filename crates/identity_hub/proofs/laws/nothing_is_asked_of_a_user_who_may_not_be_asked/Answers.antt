use Rattle.identity_hub.proofs.Passing.{nothing_asked}
use Rattle.identity_hub.proofs.laws.nothing_is_asked_of_a_user_who_may_not_be_asked.Goals as goal

pub returns : goal.returns
returns c = nothing_asked c.a_request_has_one_verdict.ensures.asked

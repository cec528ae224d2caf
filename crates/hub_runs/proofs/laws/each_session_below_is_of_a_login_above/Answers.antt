use Rattle.hub_runs.proofs.Origins.{each_below}
use Rattle.hub_runs.proofs.laws.each_session_below_is_of_a_login_above.Goals as goal

pub returns : goal.returns
returns c = each_below c.a_session_below_was_passed_on.ensures c.each_login_is_of_one_above.ensures.recorded

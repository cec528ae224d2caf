use Rattle.hub_runs.proofs.Origins.{each_recorded, each_signed}
use Rattle.hub_runs.proofs.laws.each_login_is_of_one_above.Goals as goal

pub returns : goal.returns
returns c = record {
  signed = each_signed c.a_login_was_signed.ensures.login;
  recorded = each_recorded c.a_login_that_is_passed_on_was_recorded.ensures;
}

use Rattle.idp_setup.proofs.Outcomes.{set_up_one, bad_one, set_up_good}
use Rattle.idp_setup.proofs.laws.a_config_has_one_outcome.Goals as goal

pub returns : goal.returns
returns c = record { set_up = set_up_one; bad = bad_one; never_both = set_up_good }

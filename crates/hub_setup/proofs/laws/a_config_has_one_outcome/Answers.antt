use Rattle.hub_setup.proofs.Outcomes.{set_up_one, bad_one, set_up_good}
use Rattle.hub_setup.proofs.laws.a_config_has_one_outcome.Goals as goal

pub returns : goal.returns
returns c =
    let one = c.a_text_has_one_outcome.ensures.registry in
    let never = c.a_text_has_one_outcome.ensures.never_both in
    record { set_up = set_up_one one never; bad = bad_one one never; never_both = set_up_good one never }

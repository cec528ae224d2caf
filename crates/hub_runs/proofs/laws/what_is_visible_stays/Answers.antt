use Rattle.hub_runs.proofs.Starving.{stays_visible}
use Rattle.hub_runs.proofs.laws.what_is_visible_stays.Goals as goal

pub returns : goal.returns
returns c = stays_visible c.compactions_change_no_answer.ensures

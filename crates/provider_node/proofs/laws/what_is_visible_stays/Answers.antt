use Rattle.provider_node.proofs.Starving.{visible_stays}
use Rattle.provider_node.proofs.laws.what_is_visible_stays.Goals as goal

pub returns : goal.returns
returns g c = visible_stays g.R.Rows.Standing.rules g.R.Role.answers

use Rattle.provider_node.proofs.Causes.{each_has_its_cause}
use Rattle.provider_node.proofs.laws.each_code_has_its_cause.Goals as goal

pub returns : goal.returns
returns g c = each_has_its_cause g.R.Rows.Standing.rules g.R.Role.answers

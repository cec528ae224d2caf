use Rattle.provider_node.proofs.Origins.{each_has_its_request}
use Rattle.provider_node.proofs.laws.each_record_has_its_request.Goals as goal

pub returns : goal.returns
returns g c = each_has_its_request g.R.Rows.Standing.rules g.R.Role.answers

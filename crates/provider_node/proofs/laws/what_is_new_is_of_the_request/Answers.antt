use Rattle.provider_node.proofs.Added.{new_is_of_the_request}
use Rattle.provider_node.proofs.laws.what_is_new_is_of_the_request.Goals as goal

pub returns : goal.returns
returns g c = new_is_of_the_request g.R.Rows.Standing.rules g.R.Role.answers

use Rattle.idp_server.proofs.Histories.{draws_above}
use Rattle.idp_server.proofs.replying.IdpRoleRole.numbers_are_new.Goals as goal

pub returns : goal.returns
returns c = draws_above

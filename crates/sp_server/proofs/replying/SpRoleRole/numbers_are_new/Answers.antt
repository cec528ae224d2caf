use Rattle.sp_server.proofs.Histories.{draws_above}
use Rattle.sp_server.proofs.replying.SpRoleRole.numbers_are_new.Goals as goal

pub returns : goal.returns
returns c = draws_above

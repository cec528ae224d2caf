use Rattle.sp_server.proofs.Codes.{none_own}
use Rattle.sp_server.proofs.laws.no_definition_gives_an_own_code.Goals as goal

pub returns : goal.returns
returns c = none_own

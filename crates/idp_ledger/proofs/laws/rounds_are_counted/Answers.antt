use Rattle.idp_ledger.proofs.RoundLaws.{rounds_are_counted}
use Rattle.idp_ledger.proofs.laws.rounds_are_counted.Goals as goal

pub returns : goal.returns
returns c = rounds_are_counted

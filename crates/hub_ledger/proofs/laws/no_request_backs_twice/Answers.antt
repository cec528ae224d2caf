use Rattle.hub_ledger.proofs.Runs.{no_request_backs_twice}
use Rattle.hub_ledger.proofs.laws.no_request_backs_twice.Goals as goal

pub returns : goal.returns
returns c = no_request_backs_twice

use Rattle.hub_ledger.proofs.Runs.{no_request_backs_twice_in_a_run}
use Rattle.hub_ledger.proofs.laws.no_request_backs_twice_in_a_run.Goals as goal

pub returns : goal.returns
returns c = no_request_backs_twice_in_a_run

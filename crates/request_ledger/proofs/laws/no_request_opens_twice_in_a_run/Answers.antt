use Rattle.request_ledger.proofs.RunLaws.{no_request_opens_twice_in_a_run}
use Rattle.request_ledger.proofs.laws.no_request_opens_twice_in_a_run.Goals as goal

pub returns : goal.returns
returns c = no_request_opens_twice_in_a_run

use Rattle.request_ledger.proofs.RunOnce.{no_request_opens_twice}
use Rattle.request_ledger.proofs.laws.no_request_opens_twice.Goals as goal

pub returns : goal.returns
returns c = no_request_opens_twice

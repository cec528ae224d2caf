use Rattle.hub_ledger.proofs.Backing.{has_request}
use Rattle.hub_ledger.proofs.laws.each_login_has_its_request.Goals as goal

pub returns : goal.returns
returns c = has_request

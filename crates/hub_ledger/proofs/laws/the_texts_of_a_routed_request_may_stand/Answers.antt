use Rattle.hub_ledger.proofs.Drafted.{routed_texts}
use Rattle.hub_ledger.proofs.laws.the_texts_of_a_routed_request_may_stand.Goals as goal

pub returns : goal.returns
returns c = routed_texts

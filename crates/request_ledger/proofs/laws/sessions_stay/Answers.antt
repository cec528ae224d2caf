use Rattle.request_ledger.proofs.SessionsStaying.{sessions_stay}
use Rattle.request_ledger.proofs.laws.sessions_stay.Goals as goal

pub returns : goal.returns
returns c = sessions_stay

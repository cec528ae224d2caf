use Rattle.idp_ledger.proofs.SessionsStaying.{sessions_stay}
use Rattle.idp_ledger.proofs.laws.sessions_stay.Goals as goal

pub returns : goal.returns
returns c = sessions_stay

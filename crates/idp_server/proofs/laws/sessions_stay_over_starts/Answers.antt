use Rattle.idp_server.proofs.Staying.{sessions_stay_over_starts}
use Rattle.idp_server.proofs.laws.sessions_stay_over_starts.Goals as goal

pub returns : goal.returns
returns c = sessions_stay_over_starts c.sessions_stay.ensures c.images_hold_records.ensures

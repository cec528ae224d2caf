use Rattle.sp_server.proofs.Staying.{sessions_stay_in_a_service}
use Rattle.sp_server.proofs.laws.sessions_stay_in_a_service.Goals as goal

pub returns : goal.returns
returns c = sessions_stay_in_a_service c.sessions_stay.ensures c.images_hold_records.ensures

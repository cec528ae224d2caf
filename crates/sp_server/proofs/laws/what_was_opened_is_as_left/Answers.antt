use Rattle.sp_server.proofs.Staying.{was_left}
use Rattle.sp_server.proofs.laws.what_was_opened_is_as_left.Goals as goal

pub returns : goal.returns
returns c = was_left c.sessions_stay.ensures c.images_hold_records.ensures

use Rattle.sp_server.proofs.Starving.{stays_visible}
use Rattle.sp_server.proofs.laws.what_is_visible_stays.Goals as goal

pub returns : goal.returns
returns c = stays_visible c.compactions_change_no_answer.ensures

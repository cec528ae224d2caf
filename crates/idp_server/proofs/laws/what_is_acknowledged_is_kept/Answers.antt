use Rattle.idp_server.proofs.Histories.{what_is_kept}
use Rattle.idp_server.proofs.laws.what_is_acknowledged_is_kept.Goals as goal

pub returns : goal.returns
returns c = what_is_kept c.images_hold_records.ensures c.compactions_change_no_answer.ensures

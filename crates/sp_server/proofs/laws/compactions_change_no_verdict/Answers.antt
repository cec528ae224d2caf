use Rattle.sp_server.proofs.Verdicts.{no_verdict_changes}
use Rattle.sp_server.proofs.laws.compactions_change_no_verdict.Goals as goal

pub returns : goal.returns
returns c = no_verdict_changes c.compactions_change_no_answer.ensures

use Rattle.logout_fanout.proofs.Rounds.{succeeds}
use Rattle.logout_fanout.proofs.laws.a_round_succeeds_where_each_confirms.Goals as goal

pub returns : goal.returns
returns c = succeeds

use Rattle.logout_fanout.proofs.Rounds.{asks_in_order}
use Rattle.logout_fanout.proofs.laws.a_round_asks_in_order.Goals as goal

pub returns : goal.returns
returns c = asks_in_order

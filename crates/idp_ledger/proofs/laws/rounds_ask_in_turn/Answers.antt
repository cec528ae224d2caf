use Rattle.idp_ledger.proofs.RoundTurns.{rounds_ask_in_turn}
use Rattle.idp_ledger.proofs.laws.rounds_ask_in_turn.Goals as goal

pub returns : goal.returns
returns c = rounds_ask_in_turn

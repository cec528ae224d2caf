use Rattle.hub_ledger.proofs.KeptAnswers.{compactions_change_no_answer}
use Rattle.hub_ledger.proofs.laws.compactions_change_no_answer.Goals as goal

pub returns : goal.returns
returns c = compactions_change_no_answer

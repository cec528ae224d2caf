use Rattle.ledger_rules.proofs.Texts.{tested}
use Rattle.ledger_rules.proofs.laws.an_allowed_text_may_stand.Goals as goal

pub returns : goal.returns
returns c = tested

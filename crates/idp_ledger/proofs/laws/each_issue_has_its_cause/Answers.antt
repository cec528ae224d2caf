use Rattle.idp_ledger.proofs.CauseLaws.{each_issue_has_its_cause}
use Rattle.idp_ledger.proofs.laws.each_issue_has_its_cause.Goals as goal

pub returns : goal.returns
returns c = each_issue_has_its_cause

use Rattle.idp_ledger.proofs.RoundLaws.{each_round_has_its_record}
use Rattle.idp_ledger.proofs.laws.each_round_has_its_record.Goals as goal

pub returns : goal.returns
returns c = each_round_has_its_record

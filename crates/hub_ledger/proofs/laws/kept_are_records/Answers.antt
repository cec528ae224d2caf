use Rattle.hub_ledger.proofs.KeptRecords.{kept_are_records}
use Rattle.hub_ledger.proofs.laws.kept_are_records.Goals as goal

pub returns : goal.returns
returns c = kept_are_records

use Rattle.record_ledger.proofs.Staying.{visible_records_stay}
use Rattle.record_ledger.proofs.laws.visible_records_stay.Goals as goal

pub returns : goal.returns
returns g c = visible_records_stay g.S.Standing.rules

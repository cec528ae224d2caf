use Rattle.record_ledger.proofs.Images.{images_hold_records}
use Rattle.record_ledger.proofs.laws.images_hold_records.Goals as goal

pub returns : goal.returns
returns g c = images_hold_records g.S.Standing.rules

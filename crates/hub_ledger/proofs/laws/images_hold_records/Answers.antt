use Rattle.record_ledger.proofs.Images.{images_hold_records}
use Rattle.hub_ledger.specs.Record.{hub_rules}
use Rattle.hub_ledger.proofs.laws.images_hold_records.Goals as goal

pub returns : goal.returns
returns c = images_hold_records hub_rules

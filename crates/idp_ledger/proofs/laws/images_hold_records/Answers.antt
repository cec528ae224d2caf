use Rattle.record_ledger.proofs.Images.{images_hold_records}
use Rattle.idp_ledger.specs.Record.{idp_rules}
use Rattle.idp_ledger.proofs.laws.images_hold_records.Goals as goal

pub returns : goal.returns
returns c = images_hold_records idp_rules

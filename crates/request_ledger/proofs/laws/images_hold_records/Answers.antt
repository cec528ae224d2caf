use Rattle.record_ledger.proofs.Images.{images_hold_records}
use Rattle.request_ledger.specs.Record.{request_rules}
use Rattle.request_ledger.proofs.laws.images_hold_records.Goals as goal

pub returns : goal.returns
returns c = images_hold_records request_rules

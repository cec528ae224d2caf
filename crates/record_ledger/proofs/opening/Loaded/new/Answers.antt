use Rattle.record_ledger.proofs.LoadLaws.{none_yet}
use Rattle.record_ledger.proofs.opening.Loaded.new.Goals as goal

pub returns : goal.returns
returns g c version = none_yet g.S.Standing.rules g.S.Standing.row_rules.stands version c.new.result c.new-2.result.items c.new.ensures c.new-2.ensures.items

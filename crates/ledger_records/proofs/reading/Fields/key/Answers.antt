use Rattle.ledger_records.proofs.Loop.{no_key}
use Rattle.ledger_records.proofs.reading.Fields.key.Goals as goal

pub returns-in_default-of : goal.returns-in_default-of
returns-in_default-of c = no_key c.args.self.now.rest.now c.in_default-of.ensures

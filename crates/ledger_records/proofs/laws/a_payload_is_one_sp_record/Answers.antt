use Rattle.ledger_records.proofs.SpOnce.{once}
use Rattle.ledger_records.proofs.laws.a_payload_is_one_sp_record.Goals as goal

pub returns : goal.returns
returns c = once

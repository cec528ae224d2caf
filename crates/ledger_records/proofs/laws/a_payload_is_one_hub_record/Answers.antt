use Rattle.ledger_records.proofs.HubOnce.{once}
use Rattle.ledger_records.proofs.laws.a_payload_is_one_hub_record.Goals as goal

pub returns : goal.returns
returns c = once

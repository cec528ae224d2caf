use Rattle.ledger_records.proofs.IdpOnce.{once}
use Rattle.ledger_records.proofs.laws.a_payload_is_one_idp_record.Goals as goal

pub returns : goal.returns
returns c = once

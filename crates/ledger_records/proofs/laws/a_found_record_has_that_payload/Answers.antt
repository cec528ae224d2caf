use Rattle.ledger_records.proofs.SpBack.{is_its_payload as sp_payload}
use Rattle.ledger_records.proofs.IdpBack.{is_its_payload as idp_payload}
use Rattle.ledger_records.proofs.HubBack.{is_its_payload as hub_payload}
use Rattle.ledger_records.proofs.laws.a_found_record_has_that_payload.Goals as goal

pub returns-clause-sp : goal.returns-clause-sp
returns-clause-sp c = sp_payload

pub returns-clause-idp : goal.returns-clause-idp
returns-clause-idp c = idp_payload

pub returns-clause-hub : goal.returns-clause-hub
returns-clause-hub c = hub_payload

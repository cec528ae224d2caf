use Rattle.ledger_records.proofs.SpOnce.{is_the_record as sp_is_the_record}
use Rattle.ledger_records.proofs.IdpOnce.{is_the_record as idp_is_the_record}
use Rattle.ledger_records.proofs.HubOnce.{is_the_record as hub_is_the_record}
use Rattle.ledger_records.proofs.laws.a_record_is_found_in_its_payload.Goals as goal

pub returns-clause-sp : goal.returns-clause-sp
returns-clause-sp c = sp_is_the_record

pub returns-clause-idp : goal.returns-clause-idp
returns-clause-idp c = idp_is_the_record

pub returns-clause-hub : goal.returns-clause-hub
returns-clause-hub c = hub_is_the_record

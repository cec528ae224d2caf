use Rattle.recorded_logins.proofs.Signing.{has_document, one_document, was_signed, all_signed, one_more}
use Rattle.recorded_logins.proofs.what_is_signed_for_a_record_is_a_signed_document.Goals as goal

pub returns-clause-some : goal.returns-clause-some
returns-clause-some c = has_document

pub returns-clause-one : goal.returns-clause-one
returns-clause-one c = one_document

pub returns-clause-signed : goal.returns-clause-signed
returns-clause-signed c = was_signed

pub returns-clause-each : goal.returns-clause-each
returns-clause-each c = all_signed

pub returns-clause-listed : goal.returns-clause-listed
returns-clause-listed c = one_more

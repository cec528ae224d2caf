use Rattle.idp_ledger.proofs.RuleLaws.{one_byte_more, freshly_drawn, rows_of_records, keeps_itself, link_laws}
use Rattle.idp_ledger.proofs.KeptRecords.{record_kept}
use Rattle.idp_ledger.proofs.rules.IdpStandingStanding.laws_hold.Goals as goal

pub returns-clause-bytes : goal.returns-clause-bytes
returns-clause-bytes c = one_byte_more

pub returns-clause-fresh : goal.returns-clause-fresh
returns-clause-fresh c = freshly_drawn

pub returns-clause-rows : goal.returns-clause-rows
returns-clause-rows c = rows_of_records

pub returns-clause-room : goal.returns-clause-room
returns-clause-room c = keeps_itself

pub returns-clause-kept : goal.returns-clause-kept
returns-clause-kept c = record_kept

pub returns-clause-links : goal.returns-clause-links
returns-clause-links c = link_laws

use Rattle.std.proofs.Common.{arith, sym}
use Rattle.ledger_records.proofs.HubOnce.{is_found, is_none, found_is, none_is, too_long_is_none}
use Rattle.ledger_records.proofs.hub_record.read_hub_record.Goals as goal

pub returns-then-payload-clause-is : goal.returns-then-payload-clause-is
returns-then-payload-clause-is c = sym (too_long_is_none c.args.payload.now (omega arith))

pub returns-in-Ok-clause-found : goal.returns-in-Ok-clause-found
returns-in-Ok-clause-found c = is_found c.args.payload.now c.in-Ok.record (λ i. omega (arith, c.type_inv.payload i)) (omega arith) c.in-Ok.ensures

pub returns-in-Ok-clause-is : goal.returns-in-Ok-clause-is
returns-in-Ok-clause-is c = sym (found_is c.args.payload.now c.in-Ok.record (omega arith) c.in-Ok.ensures)

pub returns-in-Err-Malformed-clause-none : goal.returns-in-Err-Malformed-clause-none
returns-in-Err-Malformed-clause-none c = is_none c.args.payload.now (rw c.in-Err-Malformed.field-0-is at c.in-Err-Malformed.ensures)

pub returns-in-Err-Malformed-clause-is : goal.returns-in-Err-Malformed-clause-is
returns-in-Err-Malformed-clause-is c = sym (none_is c.args.payload.now (rw c.in-Err-Malformed.field-0-is at c.in-Err-Malformed.ensures))

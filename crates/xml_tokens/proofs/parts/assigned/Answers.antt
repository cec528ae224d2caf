use Rattle.std.proofs.Common.{inr, refl}
use Rattle.std.proofs.lemmas.Result.{err_from_is_err_and}
use Rattle.xml_tokens.specs.Lexing.{NoValue, NoAssigned}
use Rattle.xml_tokens.proofs.Faults.{fault_for}
use Rattle.xml_tokens.proofs.AttributeReadings.{unequal_unassigned, unvalued_unassigned}
use Rattle.xml_tokens.proofs.parts.assigned.Goals as goal

pub returns-in_default-equals-clause-refused : goal.returns-in_default-equals-clause-refused
returns-in_default-equals-clause-refused c =
    inr (refl, unequal_unassigned c.args.rest.now c.in-Some.name.now c.in-Some.sign.now c.in-Some.ensures c.in_default-equals.ensures)

pub returns-in_err-value-clause-refused : goal.returns-in_err-value-clause-refused
returns-in_err-value-clause-refused c =
    let p = err_from_is_err_and c.from_residual.result c.from_residual.ensures.1 in
    rw (p.1, p.2) (fault_for (NoValue c.in-Some-equals.quote.now) (NoAssigned c.args.rest.now) c.in_err-value.field-0.0
    (unvalued_unassigned c.args.rest.now c.in-Some.name.now c.in-Some.sign.now c.in-Some-equals.quote.now c.in-Some.ensures c.in-Some-equals.ensures)
    c.in_err-value.ensures.refused)

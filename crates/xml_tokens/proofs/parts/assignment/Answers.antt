use Rattle.std.proofs.Common.{◌++◌, inr, refl}
use Rattle.xml_tokens.specs.Views.{attribute_view}
use Rattle.xml_tokens.specs.Lexing.{AssignedAt, AssignmentAt, NoAssigned, NoAssignment}
use Rattle.xml_tokens.proofs.Faults.{fault_in, reading_in}
use Rattle.xml_tokens.proofs.AttributeReadings.{is_short, is_long, no_space, no_assignment, assignment_from}
use Rattle.xml_tokens.proofs.parts.assignment.Goals as goal

pub returns-then-is_empty-clause-refused : goal.returns-then-is_empty-clause-refused
returns-then-is_empty-clause-refused c =
    inr (refl, no_space c.args.space.now c.args.rest.now (is_short c.args.space.now c.is_empty.result c.is_empty.ensures c.if-is_empty.true) c.requires.stops)

pub returns-clause-reading : goal.returns-clause-reading
returns-clause-reading c =
    reading_in c.assigned.result (λ found. AssignedAt c.args.rest.now (attribute_view found.0) found.1.now)
    (λ found. AssignmentAt (c.args.space.now ++ c.args.rest.now) (attribute_view found.0) found.1.now)
    (λ found at. assignment_from c.args.space.now c.args.rest.now (attribute_view found.0) found.1.now
    (is_long c.args.space.now c.is_empty.result c.is_empty.ensures c.if-is_empty.false) c.requires.white at) c.assigned.ensures.reading

pub returns-clause-refused : goal.returns-clause-refused
returns-clause-refused c =
    fault_in c.assigned.result (NoAssigned c.args.rest.now) (NoAssignment (c.args.space.now ++ c.args.rest.now))
    (no_assignment c.args.space.now c.args.rest.now c.requires.white c.requires.stops) c.assigned.ensures.refused

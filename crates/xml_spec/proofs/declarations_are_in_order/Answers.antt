use Rattle.xml_spec.proofs.Declared.{declarations_ascend, declared_as_needed}
use Rattle.xml_spec.proofs.declarations_are_in_order.Goals as goal

pub returns-clause-ascending : goal.returns-clause-ascending
returns-clause-ascending c = declarations_ascend

pub returns-clause-needed : goal.returns-clause-needed
returns-clause-needed c = declared_as_needed

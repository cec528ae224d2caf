use Rattle.xml_spec.proofs.Orders.{attributes_in_order, attributes_all}
use Rattle.xml_spec.proofs.attributes_are_in_order.Goals as goal

pub returns-clause-in_order : goal.returns-clause-in_order
returns-clause-in_order c = attributes_in_order

pub returns-clause-all : goal.returns-clause-all
returns-clause-all c = attributes_all

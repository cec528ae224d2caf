use Rattle.std.proofs.Common.{◌≡◌}
use Rattle.xml_spec.specs.Tree.{Attribute}
use Rattle.xml_spec.specs.Characters.{local_of}
use Rattle.saml_tree.specs.NodeNames.{attribute_at}
use Rattle.excl_c14n.proofs.Named.{if_some_weaker}
use Rattle.excl_c14n.proofs.Ordered.{expanded_attribute}
use Rattle.excl_c14n.proofs.order.name_of_attribute.Goals as goal

pub returns-clause-name : goal.returns-clause-name
returns-clause-name c =
    expanded_attribute c.args.doc.now.tree c.args.n c.args.i c.attribute_parts.result.1.now c.requires.there c.requires.proper
    (if_some_weaker {Q = λ (a : Attribute). c.attribute_parts.result.1.now ≡ local_of a.name} (attribute_at c.args.doc.now.tree c.args.n.0 c.args.i)
    (λ a parts. parts.1) c.attribute_parts.ensures)

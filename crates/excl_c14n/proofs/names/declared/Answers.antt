use Rattle.std.proofs.Common.{◌∙◌}
use Rattle.saml_tree.specs.NodeNames.{attribute_at}
use Rattle.excl_c14n.proofs.Named.{attribute_declares, if_some_weaker}
use Rattle.excl_c14n.proofs.names.declared.Goals as goal

pub returns : goal.returns
returns c =
    if_some_weaker (attribute_at c.args.doc.now.tree c.args.n.0 c.args.i) (λ a e. c.declared_by.ensures ∙ e)
    (attribute_declares c.args.doc.now.tree c.args.n.0 c.args.i c.attribute_parts.result.0.now c.attribute_parts.result.1.now c.requires.names
    c.attribute_parts.ensures)

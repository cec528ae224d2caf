use Rattle.std.proofs.Common.{sym, ◌∙◌}
use Rattle.saml_tree.specs.NodeNames.{attribute_at}
use Rattle.excl_c14n.proofs.Named.{if_some_weaker}
use Rattle.excl_c14n.proofs.names.attribute_name.Goals as goal

pub returns : goal.returns
returns c =
    if_some_weaker (attribute_at c.args.doc.now.tree c.args.n.0 c.args.i) (λ a e. c.written.ensures ∙ c.as_str.ensures ∙ sym e)
    c.written_attr_name.ensures

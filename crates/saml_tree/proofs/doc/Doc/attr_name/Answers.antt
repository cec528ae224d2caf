use Rattle.std.proofs.Common.{Some, ap, sym, ◌∙◌}
use Rattle.xml_tokens.specs.Views.{attribute_view}
use Rattle.saml_tree.proofs.ShownNames.{attribute_named}
use Rattle.saml_tree.proofs.doc.Doc.attr_name.Goals as goal

pub returns : goal.returns
returns c =
    attribute_named c.args.self.now.tree c.args.n.0 c.args.i (attribute_view c.attribute.result.now) c.namespace_at-namespace.result.now
    c.attribute.ensures c.namespace_at-namespace.ensures
    ∙ ap Some (sym c.shown_name.ensures)

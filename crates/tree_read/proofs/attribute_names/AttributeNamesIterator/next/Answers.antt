use Rattle.std.proofs.Common.{sym, ◌∙◌}
use Rattle.saml_tree.specs.Views.{name_view}
use Rattle.tree_read.proofs.NamesLeft.{names_left}
use Rattle.tree_read.proofs.attribute_names.AttributeNamesIterator.next.Goals as goal

pub returns-clause-steps : goal.returns-clause-steps
returns-clause-steps c =
    sym c.self.view_is
    ∙ names_left c.self.inside.at.doc.now.tree c.self.inside.at.node.0 c.self.inside.next (name_view c.attr_name-name.result) c.attr_name-name.ensures

use Rattle.std.proofs.Common.{◌≡◌, Some, sym, ap, ◌∙◌}
use Rattle.xml_spec.specs.Tree.{Nodes}
use Rattle.xml_spec.specs.Identifiers.{identifiers, node_with}
use Rattle.saml_tree.specs.Documents.{DocumentView}
use Rattle.saml_tree.proofs.ElementsFound.{identified_element}
use Rattle.saml_tree.proofs.doc.Doc.by_id.Goals as goal

pub returns-clause-element : goal.returns-clause-element
returns-clause-element c =
    let same = ap (λ (d : DocumentView). d.tree) c.self.view_is in
    let found : node_with (identifiers c.args.self.now.tree) c.args.id.now ≡ Some c.in_ok-number.number =
    sym (ap (λ (tree : Nodes). node_with (identifiers tree) c.args.id.now) same)
    ∙ sym (c.self.invariant.indexed.finds c.args.id.now)
    ∙ sym c.get.ensures
    ∙ c.in_ok-number.was in
    identified_element c.args.self.now.tree c.args.id.now c.in_ok-number.number found

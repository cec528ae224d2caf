use Rattle.std.proofs.Common.{ap, sym, ◌∙◌, subst}
use Rattle.xml_spec.specs.Names.{HasNames}
use Rattle.saml_tree.specs.Documents.{DocumentView}
use Rattle.saml_tree.specs.Resolved.{kept_at}
use Rattle.saml_tree.proofs.SameNames.{kept_is, kept_there}
use Rattle.saml_tree.proofs.doc.Doc.namespace_at.Goals as goal

pub text-requires : goal.text-requires
text-requires c =
    let same = ap (λ (d : DocumentView). d.tree) c.self.view_is in
    kept_there c.self.inside.rows.rows c.self.inside.names c.args.self.now.tree c.self.invariant.shaped c.self.invariant.resolved same
    (subst HasNames same c.self.invariant.spelled.names) c.args.place c.kept.result c.kept.ensures c.requires

pub returns : goal.returns
returns c =
    let same = ap (λ (d : DocumentView). d.tree) c.self.view_is in
    sym (kept_is c.self.inside.rows.rows c.self.inside.names c.args.self.now.tree c.self.invariant.shaped c.self.invariant.resolved same
    (subst HasNames same c.self.invariant.spelled.names) c.args.place c.requires)
    ∙ ap (kept_at c.self.inside.names) (sym c.kept.ensures) ∙ c.text.ensures

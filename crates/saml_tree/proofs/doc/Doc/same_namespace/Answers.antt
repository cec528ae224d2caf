use Rattle.std.proofs.Common.{ap, subst}
use Rattle.xml_spec.specs.Names.{HasNames}
use Rattle.saml_tree.specs.Documents.{DocumentView}
use Rattle.saml_tree.proofs.SameNames.{kept_there, same_kept}
use Rattle.saml_tree.proofs.doc.Doc.same_namespace.Goals as goal

pub is_same-requires-clause-one : goal.is_same-requires-clause-one
is_same-requires-clause-one c =
    let same = ap (λ (d : DocumentView). d.tree) c.self.view_is in
    kept_there c.self.inside.rows.rows c.self.inside.names c.args.self.now.tree c.self.invariant.shaped c.self.invariant.resolved same
    (subst HasNames same c.self.invariant.spelled.names) c.args.one c.kept.result c.kept.ensures c.requires.one

pub is_same-requires-clause-other : goal.is_same-requires-clause-other
is_same-requires-clause-other c =
    let same = ap (λ (d : DocumentView). d.tree) c.self.view_is in
    kept_there c.self.inside.rows.rows c.self.inside.names c.args.self.now.tree c.self.invariant.shaped c.self.invariant.resolved same
    (subst HasNames same c.self.invariant.spelled.names) c.args.other c.kept-2.result c.kept-2.ensures c.requires.other

pub returns : goal.returns
returns c =
    let same = ap (λ (d : DocumentView). d.tree) c.self.view_is in
    same_kept c.self.inside.rows.rows c.self.inside.names c.args.self.now.tree c.self.invariant.shaped c.self.invariant.resolved same
    (subst HasNames same c.self.invariant.spelled.names) c.args.one c.args.other c.kept.result c.kept-2.result c.is_same.result
    c.kept.ensures c.kept-2.ensures c.requires.one c.requires.other c.is_same.ensures

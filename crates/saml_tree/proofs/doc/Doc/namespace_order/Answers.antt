use Rattle.std.proofs.Common.{[], ap, ◌∙◌, subst}
use Rattle.std.specs.Option.{unwrap_or}
use Rattle.xml_spec.specs.Canonical.{byte_order}
use Rattle.xml_spec.specs.Names.{HasNames}
use Rattle.saml_tree.specs.Documents.{DocumentView}
use Rattle.saml_tree.proofs.SameNames.{kept_there, kept_text}
use Rattle.saml_tree.proofs.doc.Doc.namespace_order.Goals as goal

pub order-requires-clause-one : goal.order-requires-clause-one
order-requires-clause-one c =
    let same = ap (λ (d : DocumentView). d.tree) c.self.view_is in
    kept_there c.self.inside.rows.rows c.self.inside.names c.args.self.now.tree c.self.invariant.shaped c.self.invariant.resolved same
    (subst HasNames same c.self.invariant.spelled.names) c.args.one c.kept.result c.kept.ensures c.requires.one

pub order-requires-clause-other : goal.order-requires-clause-other
order-requires-clause-other c =
    let same = ap (λ (d : DocumentView). d.tree) c.self.view_is in
    kept_there c.self.inside.rows.rows c.self.inside.names c.args.self.now.tree c.self.invariant.shaped c.self.invariant.resolved same
    (subst HasNames same c.self.invariant.spelled.names) c.args.other c.kept-2.result c.kept-2.ensures c.requires.other

pub returns : goal.returns
returns c =
    let same = ap (λ (d : DocumentView). d.tree) c.self.view_is in
    let kept =
    kept_text c.self.inside.rows.rows c.self.inside.names c.args.self.now.tree c.self.invariant.shaped c.self.invariant.resolved same
    (subst HasNames same c.self.invariant.spelled.names) in
    let one = kept c.args.one c.kept.result c.kept.ensures c.requires.one in
    let other = kept c.args.other c.kept-2.result c.kept-2.ensures c.requires.other in
    c.order.ensures ∙ (λ i. byte_order (unwrap_or (one i) []) (unwrap_or (other i) []))

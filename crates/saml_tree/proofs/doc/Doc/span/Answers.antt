use Rattle.std.proofs.Common.{List, ℕ, ap, sym, is_some, ◌∙◌, subst}
use Rattle.xml_spec.specs.Numbering.{from_node, kids_of, rest_of, elements_before}
use Rattle.xml_spec.specs.Document.{Span, IsRange}
use Rattle.tree_rows.specs.Rows.{row_at}
use Rattle.saml_tree.specs.Documents.{DocumentView, kind_of}
use Rattle.saml_tree.proofs.Nodes.{element_by_kind}
use Rattle.saml_tree.proofs.Seen.{is_row, range_read, node_read}
use Rattle.saml_tree.proofs.doc.Doc.span.Goals as goal

pub span-requires : goal.span-requires
span-requires c =
    let same = ap (λ (d : DocumentView). d.tree) c.self.view_is in
    is_row c.self.inside.rows.rows c.args.self.now.tree c.self.invariant.shaped same c.args.n.0 (ap (λ o. is_some o) c.requires)

pub returns : goal.returns
returns c =
    let same = ap (λ (d : DocumentView). d.tree) c.self.view_is in
    let views = c.self.inside.rows.rows in
    let tree = c.args.self.now.tree in
    let shaped = c.self.invariant.shaped in
    let there = is_row views tree shaped same c.args.n.0 (ap (λ o. is_some o) c.requires) in
    let text = ap (λ (d : DocumentView). d.text) c.self.view_is in
    let here = node_read views tree shaped same c.args.n.0 there in
    let element = element_by_kind (row_at views c.args.n.0).shape (kids_of (from_node tree c.args.n.0)) (rest_of (from_node tree c.args.n.0))
    (sym (ap kind_of here) ∙ c.requires) in
    let place : Span = record { start = c.span.result.start; end = c.span.result.end } in
    subst (λ (bytes : List ℕ). IsRange bytes (elements_before tree c.args.n.0) place) text
    (subst (IsRange c.self.inside.text.now (elements_before tree c.args.n.0))
    (λ i. (let s : Span = record { start = sym c.span.ensures.start i; end = sym c.span.ensures.end i } in s))
    (range_read views tree shaped same c.self.inside.text.now c.args.n.0 c.self.invariant.ranges there element))
